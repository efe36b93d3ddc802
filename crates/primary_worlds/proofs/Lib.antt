pub mod Created
mod Opened
