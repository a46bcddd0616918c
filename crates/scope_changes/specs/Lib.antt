-- what public clauses cite
pub mod Crashes
pub mod Ends
pub mod Works
-- what only private clauses cite
pub mod Stages
