pub mod Scaffolds
pub mod Gathering
pub mod Texts
pub mod Answers
pub mod Pieces
pub mod Rooms
pub mod Adding
pub mod Kept
