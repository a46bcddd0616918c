-- what public clauses cite
pub mod PlanTexts
-- what only private clauses cite
pub mod Elements
pub mod Ends
pub mod Items
pub mod Lines
pub mod Moves
pub mod Parts
pub mod Places
