-- what public clauses cite
pub mod Asking
pub mod IntentAsked
pub mod ModelFiles
pub mod ModelList
pub mod PatchAsked
pub mod Preparing
pub mod Reads
pub mod RulesAsked
pub mod StoredAsked
