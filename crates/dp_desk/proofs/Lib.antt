pub mod Channels
pub mod Counts
pub mod Files
pub mod Sights
pub mod Stores
pub mod Told
pub mod Writing
