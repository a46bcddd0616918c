-- what public clauses cite
pub mod Names
pub mod Inputs
pub mod Unsynced
-- what only private clauses cite
pub mod Calls
pub mod Errors
pub mod Listings
pub mod Openings
pub mod Requests
pub mod Turns
