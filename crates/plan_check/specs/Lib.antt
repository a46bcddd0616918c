-- what public clauses cite
pub mod Checks
-- what only private clauses cite
pub mod Backwards
pub mod Beginnings
pub mod Broken
pub mod Candidates
pub mod Keeping
pub mod Nearby
pub mod NewEntries
pub mod OneEntry
pub mod Requirements
pub mod Touching
pub mod Verdicts
pub mod WantsAt
