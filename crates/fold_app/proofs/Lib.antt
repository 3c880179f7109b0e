pub mod Splitting
pub mod Folding
pub mod Carrying
pub mod Digits
pub mod Decoding
pub mod Searching
