pub mod Nogoods
pub mod Restrictions
pub mod Clauses
pub mod NogoodLaws
pub mod RestrictionLaws
