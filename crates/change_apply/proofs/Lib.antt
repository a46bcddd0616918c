mod Counting
mod DueSteps
mod FoldStages
pub mod IntentNames
mod IntentStages
mod KeptIntents
mod LastFold
mod Moments
mod ReadySteps
mod ReadyWork
mod StepFiles
mod StepNames
mod StepStages
mod TiedServices
