-- what public contracts cite
pub mod Operation
pub mod Tokens
pub mod Indexes
pub mod Same
pub mod Apply
pub mod Elements
pub mod Reading
pub mod Writing
-- what private contracts alone cite
pub mod Edits
pub mod Escapes
pub mod Gaps
pub mod ListSpots
pub mod Measures
pub mod MemberReading
pub mod Stops
