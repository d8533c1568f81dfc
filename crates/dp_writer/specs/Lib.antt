pub mod Atoms
pub mod AtomLaws
pub mod Steps
pub mod Reading
pub mod Logs
pub mod Written
pub mod Numbering
