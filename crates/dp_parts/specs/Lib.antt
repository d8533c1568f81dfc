pub mod Posed
pub mod Rules
pub mod Parts
pub mod PartLaws
pub mod Problems
pub mod ProblemLaws
