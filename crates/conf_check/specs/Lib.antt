-- What public clauses cite.
pub mod Acceptance
pub mod Belongings
pub mod ConfigTree
pub mod FirstWants
pub mod MustReads
pub mod Rows
pub mod Validity
pub mod WantRuns
pub mod Wants
-- What only private clauses cite.
pub mod EntryShapes
pub mod EqualItems
pub mod Faults
pub mod NodeTrees
pub mod Verdicts
