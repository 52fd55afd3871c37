pub mod Declines
pub mod Bytes
pub mod Plates
pub mod Kinds
pub mod Made
pub mod Taken
