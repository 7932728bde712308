pub mod Peeking
pub mod ReadByRecord
pub mod ReadZone
pub mod Reading
pub mod ReadingHeld
pub mod Reporting
