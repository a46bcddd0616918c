mod Choices
pub mod Decimals
mod ManyWords
pub mod NamedLines
mod ScriptLemmas
