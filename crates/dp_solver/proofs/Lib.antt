pub mod RunSteps
pub mod MarkSteps
pub mod OnceSteps
pub mod DecisionSteps
pub mod DescentSteps
pub mod WritingSteps
pub mod GoalSteps
pub mod RoundSteps
