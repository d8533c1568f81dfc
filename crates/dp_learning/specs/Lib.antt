pub mod Learning
pub mod Solutions
pub mod Sorts
pub mod Scaffolds
