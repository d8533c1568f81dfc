pub mod Brackets
pub mod Chain
pub mod Choice
pub mod Grammar
pub mod Leaf
pub mod Listed
pub mod Many
pub mod Whole
