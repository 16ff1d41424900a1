-- Each step of a call that its party carries out alone leaves fewer steps.
pub mod Falls
