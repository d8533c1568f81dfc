pub mod Logs
pub mod Pieces
