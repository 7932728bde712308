pub mod CompactMade
pub mod CompactRoom
pub mod CompactSeen
pub mod Compacting
