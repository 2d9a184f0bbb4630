-- Laws that belong to no one function.
pub mod Seeking
pub mod Places
pub mod Producers
