-- what only private clauses cite
pub mod Entries
pub mod Found
pub mod KeptKeys
pub mod KeyLengths
pub mod Mentions
pub mod Referrers
pub mod Referring
pub mod Requireds
