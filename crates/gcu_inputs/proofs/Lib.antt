pub mod Finding
mod ModelPaths
mod ModelTexts
mod ModelsFinding
pub mod Reading
mod RulesFinding
