-- what public clauses cite
pub mod Contents
pub mod Folder
pub mod Headline
pub mod Intending
pub mod JsonValues
pub mod OneAnswer
pub mod Patching
pub mod Resuming
pub mod RulesValues
pub mod Scoped
pub mod Settling

-- what only private clauses cite
