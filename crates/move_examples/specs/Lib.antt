-- what public clauses cite
pub mod Situations
