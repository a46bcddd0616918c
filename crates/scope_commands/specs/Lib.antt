pub mod OneAnswer
pub mod ScopeCrashes
pub mod ScopeEndings
pub mod ScopeWorks
pub mod SeveralScopes
-- what only private clauses cite
pub mod ReadyScopes
pub mod SolvedScopes
