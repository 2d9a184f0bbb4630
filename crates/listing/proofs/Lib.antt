-- Laws that belong to no one function.
pub mod Fetched
pub mod Lengths
pub mod Checked
pub mod Examples
