-- what public clauses cite
pub mod Appends
pub mod Contexts
pub mod Extensions
pub mod Generated
pub mod Kinds
pub mod Listed
pub mod ListedOrder
pub mod ListedOrderLaws
pub mod Moves
pub mod Named
pub mod Operations
pub mod Plans
pub mod Rulebook
pub mod Rules
pub mod RulesFile
pub mod Services
pub mod Ways
-- what only private clauses cite
pub mod Naming
