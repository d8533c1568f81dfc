pub mod Limits
pub mod Proofs
pub mod Checks
pub mod Rereading
