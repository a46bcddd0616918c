pub mod AtKeys
pub mod CreateOnlys
pub mod Dependencies
pub mod UntouchedPlaces
pub mod Loops
pub mod EmptyTables
pub mod Requireds
pub mod Validity
