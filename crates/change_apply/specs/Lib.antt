-- what public clauses cite
pub mod Acknowledgements
pub mod Change
pub mod Crashes
pub mod Ends
pub mod Intents
-- what only private clauses cite
pub mod Stages
pub mod Work
