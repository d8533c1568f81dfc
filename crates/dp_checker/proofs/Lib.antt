pub mod Hints
pub mod Below
pub mod Loops
pub mod Right
pub mod StoredLaws
