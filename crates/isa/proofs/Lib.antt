-- Laws that belong to no one function.
pub mod Answers
pub mod RoundTrip
pub mod Programs
pub mod Examples
pub mod Ranges
pub mod Formed
