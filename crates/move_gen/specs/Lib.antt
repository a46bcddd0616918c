-- what public clauses cite
pub mod FieldsOfEntry
pub mod Giving
-- what only private clauses cite
pub mod Adding
pub mod Choosing
pub mod EntryLaws
pub mod FieldWants
pub mod Given
pub mod ItemsGiven
pub mod SameEntryLaws
pub mod WantingFields
