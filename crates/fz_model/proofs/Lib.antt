pub mod AnnotationLaws
pub mod ArrayLaws
pub mod ConstraintLaws
pub mod ItemLaws
pub mod LiteralLaws
pub mod MarkLaws
pub mod ModelLaws
pub mod LimitLaws
