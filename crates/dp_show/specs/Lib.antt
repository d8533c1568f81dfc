pub mod Named
pub mod Showing
pub mod Logs
pub mod Pieces
