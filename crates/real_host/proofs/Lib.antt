pub mod Appending
pub mod Fronts
pub mod Numbers
pub mod Picking
