pub mod ExactPointer
pub mod InForce
pub mod LookDying
pub mod LookFits
pub mod LookLive
pub mod LookReads
pub mod LookRest
pub mod ServingEntries
