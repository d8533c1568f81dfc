pub mod SpanSteps
pub mod CrowdSteps
pub mod TightLaws
pub mod CutLaws
pub mod BlockLaws
pub mod OnceLaws
pub mod FirstSteps
pub mod GivenLaws
