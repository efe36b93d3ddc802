pub mod ItemLemmas
pub mod Modelled
