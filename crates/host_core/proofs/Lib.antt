pub mod EntriesOfFiles
pub mod PickedImages
pub mod Moments
pub mod Runs
pub mod Stepping
