pub mod Program
pub mod Effects
