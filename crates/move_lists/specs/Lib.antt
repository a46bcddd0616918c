-- what public clauses cite
pub mod Finite
pub mod Firsts
pub mod Offers
pub mod Parts
-- what only private clauses cite
pub mod Leading
pub mod MoveKeys
pub mod Questions
pub mod Ranking
pub mod Reaches
