pub mod Reading
pub mod RefusalNumbers
pub mod Segment
pub mod Stripes
