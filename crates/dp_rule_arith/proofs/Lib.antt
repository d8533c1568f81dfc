pub mod ScopeSteps
