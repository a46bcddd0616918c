-- What public clauses cite.
pub mod Spots
pub mod SpotRefs
pub mod Routes
pub mod Musts
pub mod MustValues
-- What only private clauses and the models of types cite.
pub mod Findings
pub mod NodeNames
