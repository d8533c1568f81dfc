pub mod Met
pub mod Processed
pub mod Answers
pub mod Marks
pub mod Waves
pub mod Writing
pub mod Replaying
