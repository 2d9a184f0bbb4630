-- What the theorems say.
pub mod OldestFirst
pub mod Agrees
pub mod Demand3
pub mod Table
pub mod Memo
pub mod MemoBase
pub mod Conditions
pub mod Demand1
pub mod RunThenDrain
pub mod DrainAnswers
pub mod OneAnswer
pub mod Simulates
