-- what public clauses cite
pub mod Asked
pub mod Checking
pub mod DemoAsked
pub mod FileAsked
pub mod GoalTables
pub mod IntentView
pub mod InterruptionAsked
pub mod OneAnswer
pub mod Places
pub mod PlanAsked
pub mod PlanCheckAsked
pub mod PointAsked
pub mod ReadPlannings
pub mod ReadScripts
pub mod Request
pub mod ScopesAsked
pub mod ScopesPlannings
pub mod SessionsAsked
pub mod Trees
pub mod WorkAsked
-- what only private clauses cite
pub mod Judging
pub mod TableWalks
