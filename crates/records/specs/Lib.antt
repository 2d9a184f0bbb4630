-- What the contracts of this crate, and of those above it, cite.
pub mod Refusal
pub mod Records
pub mod Scan
