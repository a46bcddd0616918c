mod Counting
pub mod Digits
pub mod Entries
mod Finds
pub mod FileMaps
pub mod FileTexts
mod FoldStages
mod ShapePreservation
mod Levels
mod Listings
mod Moments
mod StepNameWalks
mod Reading
mod ShapeWalks
mod Shaping
mod Stages
pub mod FoldResults
mod Stepping
mod StepCount
mod StepWalk
mod StepRemovals
mod Walking
