pub mod JudgedPlans
pub mod Lines
