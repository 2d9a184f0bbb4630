-- Laws that belong to no one function.
pub mod Files
pub mod Loading
pub mod Telling
pub mod Writing
pub mod Examples
