pub mod Lists
pub mod ScopeLaws
pub mod ScopeSteps
