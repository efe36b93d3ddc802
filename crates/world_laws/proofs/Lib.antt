pub mod Losing
pub mod Causing
pub mod Beginning
pub mod Rising
pub mod Opening
pub mod Adding
pub mod Running
pub mod Example
