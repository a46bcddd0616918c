pub mod CommitWorlds
pub mod CommitTurns
pub mod WorldInvariants
pub mod CommitWays
pub mod NamedEntries
pub mod RunInvariants
pub mod TurnResults
