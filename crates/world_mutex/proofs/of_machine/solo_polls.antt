-- Where polls lead that are each carried out alone.
pub mod Marked
pub mod Solo
pub mod SoloPolls
pub mod Parts
