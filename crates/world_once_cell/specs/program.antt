pub mod Words
pub mod Program
pub mod Effects
