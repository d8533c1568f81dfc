pub mod Selections
pub mod SelectionLaws
pub mod Choices
