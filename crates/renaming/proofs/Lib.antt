-- Laws that belong to no one function.
pub mod Steps
pub mod Issuing
pub mod Fitting
pub mod Going
pub mod Emptying
pub mod Turning
