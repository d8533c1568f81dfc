pub mod Files
pub mod Truths
