pub mod Frames
pub mod Messages
pub mod Decoding
pub mod HeadLaws
pub mod Answers
pub mod Spelled
pub mod Beginnings
pub mod Due
