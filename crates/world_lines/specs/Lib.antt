pub mod OutputText
pub mod OutcomeText
