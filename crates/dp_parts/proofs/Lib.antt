pub mod RuleLaws
pub mod NameLaws
