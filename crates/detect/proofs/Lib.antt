pub mod Topping
pub mod Linking
pub mod Coding
pub mod Gathering
pub mod Charted
