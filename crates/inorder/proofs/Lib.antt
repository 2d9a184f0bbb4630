-- Laws that belong to no one function.
pub mod Stops
pub mod Running
pub mod Entering
pub mod Laws
pub mod Examples
