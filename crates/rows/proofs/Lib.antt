-- Laws that belong to no one function.
pub mod Walks
pub mod Coding
pub mod Showing
pub mod Works
