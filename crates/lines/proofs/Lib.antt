-- Laws that belong to no one function.
pub mod Putting
pub mod Looping
