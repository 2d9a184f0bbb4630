-- Laws that belong to no one function.
pub mod Puts
pub mod Decimal
pub mod Numbered
pub mod Pages
