-- Laws and proofs that belong to no one function.
pub mod StepLaws
pub mod EditLaws
pub mod WriteLaws
pub mod ViewLaws
pub mod SyncLaws
pub mod SyncFewer
pub mod SyncCounts
pub mod PlaceLaws
pub mod Plans
pub mod RoomLaws
pub mod CallLaws
pub mod LookLaws
pub mod CardLaws
pub mod Fitting
pub mod GivenLaws
