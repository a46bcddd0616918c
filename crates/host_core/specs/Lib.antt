-- what public clauses cite
pub mod Answers
pub mod Characters
pub mod Counts
pub mod Crashes
pub mod Entries
pub mod Faults
pub mod Frames
pub mod Inputs
pub mod MemoryHost
pub mod Names
pub mod Picks
pub mod State
-- what only private clauses cite
pub mod Codes
pub mod Laws
pub mod Steps
