pub mod Scopes
pub mod Operations
pub mod OperationLaws
pub mod SpanLaws
pub mod KindLaws
