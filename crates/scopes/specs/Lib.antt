-- what public clauses cite
pub mod Scopes
pub mod Splitting
pub mod Files
pub mod Views
-- what only private clauses and laws cite
pub mod Listings
pub mod Renaming
pub mod Seeing
pub mod Images
pub mod Laws
