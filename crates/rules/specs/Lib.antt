-- What the contracts of the crates above cite.
pub mod Rules
pub mod Schedule
pub mod Run
pub mod Drain
pub mod Moves
pub mod Schedules
pub mod OldestFirst
