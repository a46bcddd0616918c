pub mod Choices
pub mod Entries
pub mod FaultLists
pub mod FileSteps
pub mod NameSequences
pub mod ModuleSteps
pub mod Steps
pub mod FaultFiles
