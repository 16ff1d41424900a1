-- Rights by the answers.
pub mod Inside
pub mod Held
pub mod Moved
pub mod Others
pub mod Rights
