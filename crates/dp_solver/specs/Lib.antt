pub mod Outcomes
pub mod Marks
pub mod Descents
pub mod Rounds
