pub mod StepLaws
pub mod Performed
pub mod PerformedMasters
pub mod ChangedPlaces
