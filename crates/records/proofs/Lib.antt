-- Laws that belong to no one function.
pub mod Basics
pub mod Numbered
pub mod Tabulate
pub mod Leading
pub mod Bytes
pub mod Replaced
pub mod Image
