pub mod FaultFiles
pub mod FaultAbsence
pub mod Fitting
pub mod Places
pub mod Sizes
pub mod TableSteps
pub mod FlatModels
pub mod OneReading
