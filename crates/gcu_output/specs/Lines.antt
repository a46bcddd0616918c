-- The number and the last line of each outcome.
use Rattle.std.specs.Prelude.{ℕ, List, [], ◌∷◌, ◌++◌, codes, decimal}
use Rattle.conf_doc.specs.Document.{text}
use Rattle.conf_doc.specs.Texts.{compact}
use Rattle.patch_core.specs.declared.errors.FailWhy.{FailWhy}
use Rattle.patch_core.specs.declared.errors.FailWhy.TheVariants.{NoParent, BadIndex, NoTarget, RootRemove, TestFailed, IntoItself, TooLarge}
use Rattle.patch_core.specs.declared.errors.PatchWhy.{PatchWhy}
use Rattle.patch_core.specs.declared.errors.PatchWhy.TheVariants.{NotArray, NotObject, NoOp, UnknownOp, NoPath, BadPath, NoValue, BadValue, NoFrom, BadFrom}
use Rattle.conf_store.specs.declared.errors.StoredWhy.{StoredWhy}
use Rattle.conf_store.specs.declared.errors.StoredWhy.TheVariants as stored
use Rattle.conf_check.specs.declared.violations.RuleName.{RuleName}
use Rattle.conf_check.specs.declared.violations.RuleName.TheVariants as rules
use Rattle.move_core.specs.declared.errors.RulesWhy.{RulesWhy}
use Rattle.move_core.specs.declared.errors.RulesWhy.TheVariants as rules_file
use Rattle.plan_texts.specs.declared.causes.NoWhy.{NoWhy}
use Rattle.plan_texts.specs.declared.causes.NoWhy.TheVariants as plans
use Rattle.yang_text.specs.declared.errors.ModelWhy.{ModelWhy}
use Rattle.yang_text.specs.declared.errors.ModelWhy.TheVariants as models
use Rattle.gcu_output.specs.declared.outcomes.Outcome.{Outcome}
use Rattle.gcu_output.specs.declared.outcomes.Outcome.TheVariants.{Done, Memory, Usage, InputFault, DiskFault, PrintFault, ServiceFault, NoInput, TooBig, BadJson, BadConfig, BadModels, BadRules, BadPatch, PatchFailed, TargetShape, CurrentInvalid, TargetInvalid, NoModel, EmptyTable, Unorderable, Budget, NoCheckpoint, CheckpointExists, BadName, BadStored, Interrupted, NoIntent, BadIntent, SequenceFull, BadPlan, PlanRejected, BadScope, ScopeRefused, BadScript}
use Rattle.gcu_output.specs.declared.outcomes.PointWhy.{PointWhy}
use Rattle.gcu_output.specs.declared.outcomes.PointWhy.TheVariants as point

-- what is wrong with an operation
abbrev pub patch_why : PatchWhy → List ℕ
patch_why NotArray = codes "NotArray"
patch_why NotObject = codes "NotObject"
patch_why NoOp = codes "NoOp"
patch_why UnknownOp = codes "UnknownOp"
patch_why NoPath = codes "NoPath"
patch_why BadPath = codes "BadPath"
patch_why NoValue = codes "NoValue"
patch_why BadValue = codes "BadValue"
patch_why NoFrom = codes "NoFrom"
patch_why BadFrom = codes "BadFrom"

-- why an operation can't be applied
abbrev pub fail_why : FailWhy → List ℕ
fail_why NoParent = codes "NoParent"
fail_why BadIndex = codes "BadIndex"
fail_why NoTarget = codes "NoTarget"
fail_why RootRemove = codes "RootRemove"
fail_why TestFailed = codes "TestFailed"
fail_why IntoItself = codes "IntoItself"
fail_why TooLarge = codes "TooLarge"

-- why a folder stands for no configuration
abbrev pub stored_why : StoredWhy → List ℕ
stored_why stored.NoFile = codes "NoFile"
stored_why stored.BadJson = codes "BadJson"
stored_why stored.BadKind = codes "BadKind"
stored_why stored.BadShape = codes "BadShape"
stored_why (stored.BadStep n) = codes "BadStep " ++ decimal n

-- the name of a rule of validity
abbrev pub rule_name : RuleName → List ℕ
rule_name rules.KeyShape = codes "KeyShape"
rule_name rules.KeyReference = codes "KeyReference"
rule_name rules.UnknownField = codes "UnknownField"
rule_name rules.WrongKind = codes "WrongKind"
rule_name rules.BadValue = codes "BadValue"
rule_name rules.DuplicateItem = codes "DuplicateItem"
rule_name rules.MissingField = codes "MissingField"
rule_name rules.Must = codes "Must"

-- what is wrong with models
abbrev pub model_why : ModelWhy → List ℕ
model_why models.NotUtf8 = codes "NotUtf8"
model_why models.BadToken = codes "BadToken"
model_why models.Unbalanced = codes "Unbalanced"
model_why models.TooDeep = codes "TooDeep"
model_why models.Unsupported = codes "Unsupported"
model_why models.Repeated = codes "Repeated"
model_why models.Missing = codes "Missing"
model_why models.BadArgument = codes "BadArgument"
model_why models.Duplicate = codes "Duplicate"
model_why models.UnknownName = codes "UnknownName"
model_why models.Circle = codes "Circle"
model_why models.BadPattern = codes "BadPattern"
model_why models.BadExpr = codes "BadExpr"
model_why models.TooMany = codes "TooMany"

-- why a rules file isn't of its form
abbrev pub rules_why : RulesWhy → List ℕ
rules_why rules_file.Top = codes "Top"
rules_why rules_file.CreateOnly = codes "CreateOnly"
rules_why rules_file.Required = codes "Required"
rules_why rules_file.Services = codes "Services"

-- why there is no such checkpoint
abbrev pub point_why : PointWhy → List ℕ
point_why point.Absent = codes "Absent"
point_why point.NotConfig = codes "NotConfig"

-- what is wrong with a step of a plan
abbrev pub no_why : NoWhy → List ℕ
no_why plans.NotDefined = codes "NotDefined"
no_why plans.NotListed = codes "NotListed"
no_why plans.Same = codes "Same"
no_why plans.Rule1 = codes "Rule1"
no_why plans.Rule2 = codes "Rule2"
no_why plans.Rule3 = codes "Rule3"
no_why plans.Rule4 = codes "Rule4"
no_why plans.Rule5 = codes "Rule5"
no_why plans.WrongEnd = codes "WrongEnd"

-- a text in a line, as a compact JSON text
abbrev pub quoted : List ℕ → List ℕ
quoted s = compact (text s)

-- what stands between the parts of a line
abbrev pub space : List ℕ
space = codes " "

-- what ends a line
abbrev pub line_feed : List ℕ
line_feed = 10 ∷ []

-- the exit status, and what stands behind it in the line of a refusal
abbrev pub answer : Outcome → ℕ × List ℕ
answer Done = (0, codes "done")
answer Memory = (1, codes "memory")
answer Usage = (2, codes "usage")
answer InputFault = (3, codes "input fault")
answer (DiskFault step) = (4, codes "disk fault after " ++ decimal step)
answer (PrintFault step) = (5, codes "print fault after " ++ decimal step)
answer (ServiceFault step service) = (6, codes "service fault after " ++ decimal step)
answer (NoInput path) = (7, codes "no input " ++ quoted path)
answer (TooBig path limit) = (8, codes "too big " ++ quoted path ++ space ++ decimal limit)
answer (BadJson path) = (9, codes "bad json " ++ quoted path)
answer (BadConfig path place) = (10, codes "bad config " ++ quoted path ++ space ++ quoted place)
answer (BadModels file line why) =
    (11, codes "bad models " ++ quoted file ++ space ++ decimal line ++ space ++ model_why why)
answer (BadRules why) = (12, codes "bad rules " ++ rules_why why)
answer (BadPatch index why) = (13, codes "bad patch " ++ decimal index ++ space ++ patch_why why)
answer (PatchFailed index why) =
    (14, codes "patch failed " ++ decimal index ++ space ++ fail_why why)
answer (TargetShape place) = (15, codes "target shape " ++ quoted place)
answer (NoCheckpoint name why) =
    (22, codes "no checkpoint " ++ quoted name ++ space ++ point_why why)
answer (CheckpointExists name) = (23, codes "checkpoint exists " ++ quoted name)
answer (BadName name) = (24, codes "bad name " ++ quoted name)
answer (CurrentInvalid place rule) =
    (16, codes "current invalid " ++ quoted place ++ space ++ rule_name rule)
answer (TargetInvalid place rule) =
    (17, codes "target invalid " ++ quoted place ++ space ++ rule_name rule)
answer (NoModel table) = (18, codes "no model " ++ quoted table)
answer (EmptyTable table) = (19, codes "empty table " ++ quoted table)
answer Unorderable = (20, codes "unorderable")
answer (Budget n) = (21, codes "budget " ++ decimal n)
answer (BadStored why) = (25, codes "bad stored " ++ stored_why why)
answer Interrupted = (26, codes "interrupted")
answer NoIntent = (27, codes "no intent")
answer BadIntent = (28, codes "bad intent")
answer SequenceFull = (29, codes "sequence full")
answer (BadPlan path line) = (30, codes "bad plan " ++ quoted path ++ space ++ decimal line)
answer (PlanRejected n why) = (31, codes "no plan " ++ decimal n ++ space ++ no_why why)
answer (BadScope index) = (32, codes "bad scope " ++ decimal index)
answer (ScopeRefused scope status) = (33, codes "scope " ++ quoted scope ++ space ++ decimal status)
answer (BadScript line) = (34, codes "bad script " ++ decimal line)

-- the exit status
abbrev pub number : Outcome → ℕ
number e = (answer e).0

-- what stands behind the number of a refusal
abbrev pub said : Outcome → List ℕ
said e = (answer e).1

-- each text as a line
abbrev pub lines : List (List ℕ) → List ℕ
lines [] = []
lines (t ∷ ts) = t ++ line_feed ++ lines ts

-- the line of a number and a text
abbrev pub numbered_line : ℕ → List ℕ → List ℕ
numbered_line status rest = codes "refused " ++ decimal status ++ space ++ rest ++ line_feed

-- the line of a refusal: its number, and what it says
abbrev pub refused_line : Outcome → List ℕ
refused_line e = numbered_line (number e) (said e)

-- the line of a service fault, which ends with the name of the service
abbrev pub service_line : ℕ → ℕ → List ℕ → List ℕ
service_line step service name =
    numbered_line (number (ServiceFault step service))
    (said (ServiceFault step service) ++ space ++ quoted name)

-- what ends the output: nothing where printing failed
abbrev pub last_line : Outcome → List ℕ
last_line Done = said Done ++ line_feed
last_line (PrintFault step) = []
last_line other = refused_line other
