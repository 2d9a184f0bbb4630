-- What the contracts of this crate, and of those above it, cite.
pub mod Rows
pub mod Shown
pub mod Answers
