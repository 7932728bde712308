pub mod ByRecord
pub mod CheckLaws
pub mod LogRoom
pub mod Logging
pub mod Records
pub mod RefusalNumbers
pub mod StoreLoops
pub mod ZoneChecks
