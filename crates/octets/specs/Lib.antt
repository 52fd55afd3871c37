pub mod Codec
pub mod Kinds
