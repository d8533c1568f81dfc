pub mod Pairs
pub mod Explaining
pub mod Keeping
pub mod Pieces
pub mod Taking
pub mod Replay
