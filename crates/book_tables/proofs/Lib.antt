pub mod Orders
pub mod TableSteps
