pub mod Declared
pub mod Facts
