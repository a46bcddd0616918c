pub mod Tables
pub mod TypedefDistances
pub mod Blocks
pub mod Colons
pub mod FaultLists
pub mod FirstResults
pub mod ElementNumbers
pub mod Finding
