-- Laws that belong to no one function.
pub mod Turns
pub mod Producers
pub mod Tags
pub mod LastJz
pub mod Basics
pub mod Soundness
pub mod Decides
pub mod Turned
