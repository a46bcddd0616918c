pub mod PartJoins
pub mod NumberLemmas
pub mod PartLemmas
pub mod Unions
pub mod Prefixes
pub mod DoubleColons
pub mod Accepting
pub mod FlatTypes
