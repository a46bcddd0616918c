-- what public clauses cite
pub mod Counting
pub mod ExactBudget
pub mod FirstLaws
pub mod FirstWays
pub mod Searches
-- what only private clauses cite
pub mod Answers
pub mod ConfigKeys
pub mod Hashes
pub mod Kits
pub mod Problems
pub mod Searching
pub mod Stacks
