pub mod AtomSteps
pub mod ClauseLaws
pub mod ClauseReasons
pub mod NogoodSteps
pub mod OrderSteps
pub mod RestrictionSteps
