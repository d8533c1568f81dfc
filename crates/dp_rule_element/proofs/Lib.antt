pub mod EntrySteps
pub mod ChoiceLaws
pub mod ChoiceSteps
pub mod NumberSteps
pub mod GivenLaws
pub mod HoleSteps
