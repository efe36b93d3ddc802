pub mod ChangeTests
pub mod Opened
pub mod MadeRecords
pub mod KeyFits
pub mod KeyTargets
pub mod ChangePlans
