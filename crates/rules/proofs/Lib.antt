-- Laws of the rules, of a run and of a drain.
pub mod Environment
pub mod Order
pub mod Cases
pub mod Filling
pub mod Removing
pub mod Keeping
pub mod Staying
pub mod Due
pub mod Oldest
pub mod Accepted
