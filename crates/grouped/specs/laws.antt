pub mod Segment
pub mod Words
pub mod Pigeonhole
pub mod Holdings
pub mod MissingUnread
pub mod AnyDrive
