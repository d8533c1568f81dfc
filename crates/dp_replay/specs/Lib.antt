pub mod Judging
pub mod Accepting
