pub mod Comparing
pub mod LineFronts
pub mod ItemSteps
pub mod TurnSteps
pub mod VerdictSteps
pub mod OneReading
mod WritableTurns
mod Holding
mod NoFault
mod RecordLists
