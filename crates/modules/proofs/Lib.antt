pub mod Faulty
pub mod Whole
pub mod Ones
pub mod Opening
