pub mod Known
pub mod Judged
pub mod Soundness
pub mod Kept
pub mod Answers
pub mod Goals
pub mod SoundnessLaws
pub mod Stored
