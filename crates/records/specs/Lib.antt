pub mod Merging
pub mod Verdicts
pub mod RecordText
pub mod RecordReading
pub mod VerdictLaws
pub mod ReadingLaws
pub mod Converting
pub mod RunText
