pub mod Filters
pub mod FollowedPaths
pub mod KeyOrder
pub mod LeastFaults
pub mod Reading
pub mod Steps
