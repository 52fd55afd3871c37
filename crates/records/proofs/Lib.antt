pub mod Arrays
pub mod Runs
pub mod Words
