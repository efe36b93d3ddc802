pub mod Versions
pub mod MasterChanges
