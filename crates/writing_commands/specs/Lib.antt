pub mod Doing
pub mod FaultLines
-- what only private clauses cite
pub mod MigrationEnds
