-- what public clauses cite
pub mod Decimals
pub mod Demos
pub mod Form
pub mod FormView
pub mod Options
pub mod ScopeForm
pub mod ScopesForm
pub mod ScriptFaults
pub mod Scripts
pub mod Targets
pub mod Tasks
pub mod Views
pub mod Words
