pub mod CommitMoves
pub mod ScriptRuns
pub mod WorldInvariants
