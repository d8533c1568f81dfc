pub mod AcceptLaws
pub mod Taking
