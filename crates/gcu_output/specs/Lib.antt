-- what public clauses cite
pub mod Lines
pub mod Printing
pub mod Statuses
