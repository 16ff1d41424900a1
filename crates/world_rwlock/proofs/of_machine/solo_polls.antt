-- Where polls lead that are each carried out alone.
pub mod SoloTurns
pub mod Solo
