pub mod Keys
pub mod KeyLaws
pub mod KeyEquality
pub mod Remembered
pub mod RememberedLaws
pub mod Sizes
pub mod SizeLaws
