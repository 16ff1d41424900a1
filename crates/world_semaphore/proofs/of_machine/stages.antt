-- At which stage a party is before and after each action.
pub mod Taking
pub mod Turns
