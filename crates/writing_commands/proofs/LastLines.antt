-- The last line of each answer is one line.
use Rattle.std.proofs.Common.{◌≡◌, ◌≢◌, inl, inr, ℕ, List, [], ◌∷◌, ◌++◌, Bool, true, false, ◌&&◌, not, refl, sym, subst, arith}
use Rattle.std.specs.Prelude.{codes, decimal, ◌==◌}
use Rattle.std.specs.List.{list_all}
use Rattle.conf_doc.specs.Document.{text}
use Rattle.conf_doc.specs.Texts as documents
use Rattle.patch_core.specs.declared.errors.FailWhy.{FailWhy}
use Rattle.patch_core.specs.declared.errors.FailWhy.TheVariants.{NoParent, BadIndex, NoTarget, RootRemove, TestFailed, IntoItself, TooLarge}
use Rattle.patch_core.specs.declared.errors.PatchWhy.{PatchWhy}
use Rattle.patch_core.specs.declared.errors.PatchWhy.TheVariants.{NotArray, NotObject, NoOp, UnknownOp, NoPath, BadPath, NoValue, BadValue, NoFrom, BadFrom}
use Rattle.conf_store.specs.declared.errors.StoredWhy.{StoredWhy}
use Rattle.conf_store.specs.declared.errors.StoredWhy.TheVariants as stored
use Rattle.conf_check.specs.declared.violations.RuleName.{RuleName}
use Rattle.conf_check.specs.declared.violations.RuleName.TheVariants as rules
use Rattle.move_core.specs.declared.errors.RulesWhy.{RulesWhy}
use Rattle.move_core.specs.declared.errors.RulesWhy.TheVariants as rules_file
use Rattle.plan_texts.specs.declared.causes.NoWhy.{NoWhy}
use Rattle.plan_texts.specs.declared.causes.NoWhy.TheVariants as plans
use Rattle.yang_text.specs.declared.errors.ModelWhy.{ModelWhy}
use Rattle.yang_text.specs.declared.errors.ModelWhy.TheVariants as models
use Rattle.gcu_output.specs.Lines.{fail_why, last_line, model_why, no_why, number, numbered_line, patch_why, point_why, quoted, refused_line, rule_name, rules_why, said, service_line, space, stored_why}
use Rattle.gcu_output.specs.declared.outcomes.Outcome.{Outcome}
use Rattle.gcu_output.specs.declared.outcomes.Outcome.TheVariants.{Done, Memory, Usage, InputFault, DiskFault, PrintFault, ServiceFault, NoInput, TooBig, BadJson, BadConfig, BadModels, BadRules, BadPatch, PatchFailed, TargetShape, CurrentInvalid, TargetInvalid, NoModel, EmptyTable, Unorderable, Budget, NoCheckpoint, CheckpointExists, BadName, BadStored, Interrupted, NoIntent, BadIntent, SequenceFull, BadPlan, PlanRejected, BadScope, ScopeRefused, BadScript}
use Rattle.gcu_output.specs.declared.outcomes.PointWhy.{PointWhy}
use Rattle.gcu_output.specs.declared.outcomes.PointWhy.TheVariants as point
use Rattle.command_answers.specs.Answers.{IsRefusal}
use Rattle.command_answers.specs.Changing.{IsLastLine, IsRefusalLine}
use Rattle.writing_commands.proofs.CompactLines.{compact_is_one_line}
use Rattle.writing_commands.proofs.Lines.{IsOneLine, decimal_is_one_line, one_line-append}

-- ---- words

-- no byte ends a line, as each tells
abbrev is_plain : List ℕ → Bool
is_plain s = list_all (λ b. not (b == 10)) s

second_true : (a b : Bool) → (a && b) ≡ true → b ≡ true
second_true true b e = e
second_true false b e = absurd cc

no_end : (b : ℕ) (rest : Bool) → (not (b == 10) && rest) ≡ true → b ≢ 10
no_end b rest e is =
    let h : (not (10 == 10) && rest) ≡ true = subst (λ (n : ℕ). (not (n == 10) && rest) ≡ true) is e in cc

word : (s : List ℕ) → is_plain s ≡ true → IsOneLine s
word [] plain = tt
word (b ∷ s) plain = (no_end b (is_plain s) plain, word s (second_true (not (b == 10)) (is_plain s) plain))

behind : (s : List ℕ) → is_plain s ≡ true → (t : List ℕ) → IsOneLine t → IsOneLine (s ++ t)
behind s plain t h = one_line-append s t (word s plain) h

spaced : (a b : List ℕ) → IsOneLine a → IsOneLine b → IsOneLine (a ++ space ++ b)
spaced a b ha hb = one_line-append (a ++ space) b (one_line-append a space ha (omega arith, tt)) hb

quoted_is_one_line : (s : List ℕ) → IsOneLine (quoted s)
quoted_is_one_line s = compact_is_one_line (text s)

patch_why_is : (why : PatchWhy) → IsOneLine (patch_why why)
patch_why_is NotArray = word (codes "NotArray") refl
patch_why_is NotObject = word (codes "NotObject") refl
patch_why_is NoOp = word (codes "NoOp") refl
patch_why_is UnknownOp = word (codes "UnknownOp") refl
patch_why_is NoPath = word (codes "NoPath") refl
patch_why_is BadPath = word (codes "BadPath") refl
patch_why_is NoValue = word (codes "NoValue") refl
patch_why_is BadValue = word (codes "BadValue") refl
patch_why_is NoFrom = word (codes "NoFrom") refl
patch_why_is BadFrom = word (codes "BadFrom") refl

fail_why_is : (why : FailWhy) → IsOneLine (fail_why why)
fail_why_is NoParent = word (codes "NoParent") refl
fail_why_is BadIndex = word (codes "BadIndex") refl
fail_why_is NoTarget = word (codes "NoTarget") refl
fail_why_is RootRemove = word (codes "RootRemove") refl
fail_why_is TestFailed = word (codes "TestFailed") refl
fail_why_is IntoItself = word (codes "IntoItself") refl
fail_why_is TooLarge = word (codes "TooLarge") refl

stored_why_is : (why : StoredWhy) → IsOneLine (stored_why why)
stored_why_is stored.NoFile = word (codes "NoFile") refl
stored_why_is stored.BadJson = word (codes "BadJson") refl
stored_why_is stored.BadKind = word (codes "BadKind") refl
stored_why_is stored.BadShape = word (codes "BadShape") refl
stored_why_is (stored.BadStep n) = behind (codes "BadStep ") refl (decimal n) (decimal_is_one_line n)

rule_name_is : (why : RuleName) → IsOneLine (rule_name why)
rule_name_is rules.KeyShape = word (codes "KeyShape") refl
rule_name_is rules.KeyReference = word (codes "KeyReference") refl
rule_name_is rules.UnknownField = word (codes "UnknownField") refl
rule_name_is rules.WrongKind = word (codes "WrongKind") refl
rule_name_is rules.BadValue = word (codes "BadValue") refl
rule_name_is rules.DuplicateItem = word (codes "DuplicateItem") refl
rule_name_is rules.MissingField = word (codes "MissingField") refl
rule_name_is rules.Must = word (codes "Must") refl

model_why_is : (why : ModelWhy) → IsOneLine (model_why why)
model_why_is models.NotUtf8 = word (codes "NotUtf8") refl
model_why_is models.BadToken = word (codes "BadToken") refl
model_why_is models.Unbalanced = word (codes "Unbalanced") refl
model_why_is models.TooDeep = word (codes "TooDeep") refl
model_why_is models.Unsupported = word (codes "Unsupported") refl
model_why_is models.Repeated = word (codes "Repeated") refl
model_why_is models.Missing = word (codes "Missing") refl
model_why_is models.BadArgument = word (codes "BadArgument") refl
model_why_is models.Duplicate = word (codes "Duplicate") refl
model_why_is models.UnknownName = word (codes "UnknownName") refl
model_why_is models.Circle = word (codes "Circle") refl
model_why_is models.BadPattern = word (codes "BadPattern") refl
model_why_is models.BadExpr = word (codes "BadExpr") refl
model_why_is models.TooMany = word (codes "TooMany") refl

rules_why_is : (why : RulesWhy) → IsOneLine (rules_why why)
rules_why_is rules_file.Top = word (codes "Top") refl
rules_why_is rules_file.CreateOnly = word (codes "CreateOnly") refl
rules_why_is rules_file.Required = word (codes "Required") refl
rules_why_is rules_file.Services = word (codes "Services") refl

point_why_is : (why : PointWhy) → IsOneLine (point_why why)
point_why_is point.Absent = word (codes "Absent") refl
point_why_is point.NotConfig = word (codes "NotConfig") refl

no_why_is : (why : NoWhy) → IsOneLine (no_why why)
no_why_is plans.NotDefined = word (codes "NotDefined") refl
no_why_is plans.NotListed = word (codes "NotListed") refl
no_why_is plans.Same = word (codes "Same") refl
no_why_is plans.Rule1 = word (codes "Rule1") refl
no_why_is plans.Rule2 = word (codes "Rule2") refl
no_why_is plans.Rule3 = word (codes "Rule3") refl
no_why_is plans.Rule4 = word (codes "Rule4") refl
no_why_is plans.Rule5 = word (codes "Rule5") refl
no_why_is plans.WrongEnd = word (codes "WrongEnd") refl

-- ---- what stands behind the number of a refusal

said_is_one_line : (e : Outcome) → IsOneLine (said e)
said_is_one_line Done = word (codes "done") refl
said_is_one_line Memory = word (codes "memory") refl
said_is_one_line Usage = word (codes "usage") refl
said_is_one_line InputFault = word (codes "input fault") refl
said_is_one_line (DiskFault step) = behind (codes "disk fault after ") refl (decimal step) (decimal_is_one_line step)
said_is_one_line (PrintFault step) = behind (codes "print fault after ") refl (decimal step) (decimal_is_one_line step)
said_is_one_line (ServiceFault step service) =
    behind (codes "service fault after ") refl (decimal step) (decimal_is_one_line step)
said_is_one_line (NoInput path) = behind (codes "no input ") refl (quoted path) (quoted_is_one_line path)
said_is_one_line (TooBig path limit) =
    behind (codes "too big ") refl (quoted path ++ space ++ decimal limit)
    (spaced (quoted path) (decimal limit) (quoted_is_one_line path) (decimal_is_one_line limit))
said_is_one_line (BadJson path) = behind (codes "bad json ") refl (quoted path) (quoted_is_one_line path)
said_is_one_line (BadConfig path place) =
    behind (codes "bad config ") refl (quoted path ++ space ++ quoted place)
    (spaced (quoted path) (quoted place) (quoted_is_one_line path) (quoted_is_one_line place))
said_is_one_line (BadModels file line why) =
    behind (codes "bad models ") refl (quoted file ++ space ++ decimal line ++ space ++ model_why why)
    (spaced (quoted file ++ space ++ decimal line) (model_why why)
    (spaced (quoted file) (decimal line) (quoted_is_one_line file) (decimal_is_one_line line)) (model_why_is why))
said_is_one_line (BadRules why) = behind (codes "bad rules ") refl (rules_why why) (rules_why_is why)
said_is_one_line (BadPatch index why) =
    behind (codes "bad patch ") refl (decimal index ++ space ++ patch_why why)
    (spaced (decimal index) (patch_why why) (decimal_is_one_line index) (patch_why_is why))
said_is_one_line (PatchFailed index why) =
    behind (codes "patch failed ") refl (decimal index ++ space ++ fail_why why)
    (spaced (decimal index) (fail_why why) (decimal_is_one_line index) (fail_why_is why))
said_is_one_line (TargetShape place) = behind (codes "target shape ") refl (quoted place) (quoted_is_one_line place)
said_is_one_line (NoCheckpoint name why) =
    behind (codes "no checkpoint ") refl (quoted name ++ space ++ point_why why)
    (spaced (quoted name) (point_why why) (quoted_is_one_line name) (point_why_is why))
said_is_one_line (CheckpointExists name) =
    behind (codes "checkpoint exists ") refl (quoted name) (quoted_is_one_line name)
said_is_one_line (BadName name) = behind (codes "bad name ") refl (quoted name) (quoted_is_one_line name)
said_is_one_line (CurrentInvalid place rule) =
    behind (codes "current invalid ") refl (quoted place ++ space ++ rule_name rule)
    (spaced (quoted place) (rule_name rule) (quoted_is_one_line place) (rule_name_is rule))
said_is_one_line (TargetInvalid place rule) =
    behind (codes "target invalid ") refl (quoted place ++ space ++ rule_name rule)
    (spaced (quoted place) (rule_name rule) (quoted_is_one_line place) (rule_name_is rule))
said_is_one_line (NoModel table) = behind (codes "no model ") refl (quoted table) (quoted_is_one_line table)
said_is_one_line (EmptyTable table) = behind (codes "empty table ") refl (quoted table) (quoted_is_one_line table)
said_is_one_line Unorderable = word (codes "unorderable") refl
said_is_one_line (Budget n) = behind (codes "budget ") refl (decimal n) (decimal_is_one_line n)
said_is_one_line (BadStored why) = behind (codes "bad stored ") refl (stored_why why) (stored_why_is why)
said_is_one_line Interrupted = word (codes "interrupted") refl
said_is_one_line NoIntent = word (codes "no intent") refl
said_is_one_line BadIntent = word (codes "bad intent") refl
said_is_one_line SequenceFull = word (codes "sequence full") refl
said_is_one_line (BadPlan path line) =
    behind (codes "bad plan ") refl (quoted path ++ space ++ decimal line)
    (spaced (quoted path) (decimal line) (quoted_is_one_line path) (decimal_is_one_line line))
said_is_one_line (PlanRejected n why) =
    behind (codes "no plan ") refl (decimal n ++ space ++ no_why why)
    (spaced (decimal n) (no_why why) (decimal_is_one_line n) (no_why_is why))
said_is_one_line (BadScope index) = behind (codes "bad scope ") refl (decimal index) (decimal_is_one_line index)
said_is_one_line (ScopeRefused scope status) =
    behind (codes "scope ") refl (quoted scope ++ space ++ decimal status)
    (spaced (quoted scope) (decimal status) (quoted_is_one_line scope) (decimal_is_one_line status))
said_is_one_line (BadScript line) = behind (codes "bad script ") refl (decimal line) (decimal_is_one_line line)

-- ---- lines

no_feed : (s : List ℕ) → IsOneLine s → (front back : List ℕ) → s ≢ front ++ documents.line_feed ++ back
no_feed [] h [] back e = absurd cc
no_feed [] h (c ∷ front) back e = absurd cc
no_feed (b ∷ s) h [] back e = let first : b ≡ 10 = cc in h.0 first
no_feed (b ∷ s) h (c ∷ front) back e =
    let rest : s ≡ front ++ documents.line_feed ++ back = cc in no_feed s h.1 front back rest

numbered : (n : ℕ) (rest : List ℕ) → IsOneLine rest → IsRefusalLine (numbered_line n rest)
numbered n rest h = (
  decimal n ++ space ++ rest,
  refl,
  no_feed (decimal n ++ space ++ rest) (spaced (decimal n) rest (decimal_is_one_line n) h),
)

refused_is : (e : Outcome) → IsRefusalLine (refused_line e)
refused_is e = numbered (number e) (said e) (said_is_one_line e)

-- ---- last lines

-- the last line of a refusal
pub refusal_line : (e : Outcome) (line : List ℕ) → line ≡ last_line e → IsRefusal e → IsRefusalLine line
refusal_line Done line is never = absurd never
refusal_line (DiskFault step) line is never = absurd never
refusal_line (PrintFault step) line is never = absurd never
refusal_line (ServiceFault step service) line is never = absurd never
refusal_line other line is any = subst IsRefusalLine (sym is) (refused_is other)

-- there is one: printing didn't fail
abbrev pub HasLastLine : Outcome → Type 0
HasLastLine (PrintFault step) = ⊥
HasLastLine other = Unit {0}

pub last_line_of : (e : Outcome) (line : List ℕ) → line ≡ last_line e → HasLastLine e → IsLastLine line
last_line_of Done line is any = inl is
last_line_of (PrintFault step) line is never = absurd never
last_line_of other line is any = inr (subst IsRefusalLine (sym is) (refused_is other))

pub service_last_line : (step service : ℕ) (name line : List ℕ) → line ≡ service_line step service name
    → IsLastLine line
service_last_line step service name line is =
    inr (subst IsRefusalLine (sym is)
    (numbered (number (ServiceFault step service)) (said (ServiceFault step service) ++ space ++ quoted name)
    (spaced (said (ServiceFault step service)) (quoted name) (said_is_one_line (ServiceFault step service))
    (quoted_is_one_line name))))
