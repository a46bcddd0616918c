-- what public clauses cite
pub mod SmallTrees
