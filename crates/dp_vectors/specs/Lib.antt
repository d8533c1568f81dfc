pub mod Judgements
pub mod Reprinted
