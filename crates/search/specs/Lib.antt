pub mod Nets
pub mod Marks
pub mod Searches
pub mod Spaces
