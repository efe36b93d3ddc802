pub mod Ulogs
