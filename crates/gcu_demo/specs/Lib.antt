-- what public clauses cite
pub mod Demo
-- what only private clauses cite
pub mod RowsOf
