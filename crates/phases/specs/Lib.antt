pub mod Sizes
pub mod Told
pub mod Taking
pub mod Tying
pub mod Freezing
pub mod Classing
