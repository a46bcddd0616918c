pub mod Agreements
mod Bounds
mod Collecting
mod EntryTexts
mod Firsts
mod LeafGroups
mod Leafrefs
mod Lists
mod Moves
mod NamedEntries
mod SameEntries
mod SameListed
mod SameWants
mod Sides
mod TextMaps
mod UnrelatedTypes
mod Walks
