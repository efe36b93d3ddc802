pub mod Counts
pub mod Principals
pub mod Keys
pub mod Policies
pub mod Masters
pub mod Reports
pub mod Noting
pub mod Causes
