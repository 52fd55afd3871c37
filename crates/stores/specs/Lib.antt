pub mod Cells
pub mod Makings
