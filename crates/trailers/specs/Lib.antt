pub mod Trailers
pub mod Layouts
pub mod Closing
