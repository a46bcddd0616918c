pub mod UnchangedViews
pub mod ValidityFinding
mod DemoFinding
pub mod EachFinding
mod FieldNames
mod FirstBreaches
pub mod IntentFinding
pub mod OneAnswer
mod OnePlanAnswer
mod PlanCheckFinding
mod PlanFinding
mod RowNames
mod ScopesFinding
mod ScopeOrder
mod ScopesPreparing
pub mod ViewEnds
mod SessionFinding
mod TableDifferences
mod TableNames
pub mod TreeFinding
