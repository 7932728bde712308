pub mod AnyDriveBytes
pub mod BytesClaimProof
pub mod CachedBytesClaim
pub mod CallsHeld
pub mod CallsOnBytes
pub mod EmptyingBytes
pub mod IsolationBytes
pub mod ReadsOnBytes
