pub mod AtPlaces
mod Segments
pub mod ItemMaps
pub mod Edits
pub mod Equalities
pub mod Escapes
pub mod Lists
pub mod Names
pub mod NestedValues
mod Joined
pub mod JsonValues
pub mod PartOrders
pub mod TextReadings
pub mod ReadTree
pub mod RoundTrip
pub mod Searches
pub mod Shapings
pub mod SoundTrees
pub mod Tokens
pub mod Walks
pub mod WellFormed
