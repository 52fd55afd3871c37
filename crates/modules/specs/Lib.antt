pub mod Checks
pub mod Modules
pub mod Laws
pub mod Parts
pub mod Opens
pub mod Texts
