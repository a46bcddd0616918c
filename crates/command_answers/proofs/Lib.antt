pub mod Answering
pub mod Causes
pub mod Completing
pub mod Elapsing
pub mod PlanSaying
pub mod Querying
