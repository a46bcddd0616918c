-- What public clauses cite.
pub mod Agreements
pub mod Referrers
-- What only the index and private clauses cite.
pub mod Codes
pub mod EntryNames
pub mod PlaceMaps
pub mod Places
pub mod Referring
pub mod Texts
