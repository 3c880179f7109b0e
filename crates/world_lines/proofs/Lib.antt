pub mod Fronts
pub mod Rising
pub mod Onward
pub mod Told
