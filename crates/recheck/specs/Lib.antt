-- What public clauses cite.
pub mod Verdicts
pub mod Within
pub mod Entries
pub mod Turned
pub mod SoleEntries
pub mod Losses
pub mod Counts
-- What only private ones do.
pub mod Agreements
pub mod Changes
pub mod Rechecks
