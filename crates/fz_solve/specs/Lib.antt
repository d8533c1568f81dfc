pub mod Printed
pub mod Solved
