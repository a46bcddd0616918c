-- The budget of a command is no greater than the greatest.
use Rattle.std.proofs.Common.{◌≡◌, ◌≤◌, ℕ, List, [], ◌∷◌, Bool, true, false, cond, Option, Some, None, refl, arith}
use Rattle.std.specs.Prelude.{codes, nat_le, ◌&&◌, ◌==◌, option_map, option_and_then}
use Rattle.std.specs.Char.{is_ascii_digit}
use Rattle.std.specs.List.{list_all}
use Rattle.std.proofs.lemmas.Bool.Decides.{nat_tests}
use Rattle.host_core.specs.Characters.{digit_zero}
use Rattle.patch_core.specs.Indexes.{number}
use Rattle.gcu_words.specs.Decimals.{number_within}
use Rattle.gcu_words.specs.Demos.{demo_of, Demo}
use Rattle.gcu_words.specs.Options.{Options, budget_in, budget_word, dry_run_word, most_budget, options, with_budget}
use Rattle.gcu_words.specs.Targets.{resumed}
use Rattle.gcu_words.specs.Words.{is_positional, is_word}
use Rattle.gcu_words.specs.Form.{Form, abandon, change, check, check_plan, delete_checkpoint, demo, form, form_of_check, form_of_demo, form_of_interruption, form_of_plan, form_of_resume, list_checkpoints, migrate_checkpoints, plan, planned, preview, save_checkpoint, status}
use Rattle.gcu_words.specs.Tasks.{Task, reach, task_of}

-- ---- options

abbrev IsWithin : Option ℕ → Type 0
IsWithin None = Unit {0}
IsWithin (Some n) = n ≤ most_budget

abbrev AreWithin : Option Options → Type 0
AreWithin None = Unit {0}
AreWithin (Some given) = given.budget ≤ most_budget

number_is_within : (ds : List ℕ) → IsWithin (number_within most_budget ds)
number_is_within ds = by (list_all is_ascii_digit ds) (nat_le (number ds) most_budget) refl
  where
    by : (a b : Bool) → nat_le (number ds) most_budget ≡ b → IsWithin (cond (a && b) (Some (number ds)) None)
    by true true e = grind (arith, nat_tests)
    by true false e = tt
    by false b e = tt

budget_is_within : (word : List ℕ) → IsWithin (budget_in word)
budget_is_within [] = tt
budget_is_within (d ∷ ds) =
    elim (d == digit_zero) as (λ b. IsWithin (cond b None (number_within most_budget (d ∷ ds))))
    [ true ↦ tt | false ↦ number_is_within (d ∷ ds) ]

with_is_within : (dry_run : Bool) (word : List ℕ) → AreWithin (with_budget dry_run word)
with_is_within dry_run word = by (budget_in word) (budget_is_within word)
  where
    by : (o : Option ℕ) → IsWithin o → AreWithin (option_map (λ n. record { dry_run = dry_run; budget = n }) o)
    by None h = tt
    by (Some n) h = h

either_within : (b : Bool) (x y : Option Options) → AreWithin x → AreWithin y → AreWithin (cond b x y)
either_within true x y h k = h
either_within false x y h k = k

options_are_within : (ws : List (List ℕ)) → AreWithin (options ws)
options_are_within [] = omega arith
options_are_within (a ∷ []) =
    either_within (is_word a dry_run_word) (Some (record { dry_run = true; budget = 2000 })) None (omega arith) tt
options_are_within (a ∷ b ∷ []) =
    either_within (is_word a budget_word) (with_budget false b) None (with_is_within false b) tt
options_are_within (a ∷ b ∷ c ∷ []) =
    either_within (is_word a dry_run_word && is_word b budget_word) (with_budget true c)
    (cond (is_word a budget_word && is_word c dry_run_word) (with_budget true b) None) (with_is_within true c)
    (either_within (is_word a budget_word && is_word c dry_run_word) (with_budget true b) None (with_is_within true b)
    tt)
options_are_within (a ∷ b ∷ c ∷ d ∷ ws) = tt

-- ---- forms

-- a task is asked for with such a budget
abbrev pub IsBudgeted : Option Form → Type 0
IsBudgeted (Some (plan task budget)) = budget ≤ most_budget
IsBudgeted (Some (change task budget)) = budget ≤ most_budget
IsBudgeted other = Unit {0}

either_budgeted : (b : Bool) (x y : Option Form) → IsBudgeted x → IsBudgeted y → IsBudgeted (cond b x y)
either_budgeted true x y h k = h
either_budgeted false x y h k = k

planned_budgeted : (task : Task) (o : Option Options) → AreWithin o → IsBudgeted (option_map (planned task) o)
planned_budgeted task None h = tt
planned_budgeted task (Some given) h =
    elim given.dry_run as (λ b. IsBudgeted (Some (cond b (plan task given.budget) (change task given.budget))))
    [ true ↦ h | false ↦ h ]

plan_budgeted : (command word : List ℕ) (ws : List (List ℕ)) → IsBudgeted (form_of_plan command word ws)
plan_budgeted command word ws = by (task_of command word)
  where
    by : (o : Option Task) → IsBudgeted (option_and_then (λ task. option_map (planned task) (options ws)) o)
    by None = tt
    by (Some task) = planned_budgeted task (options ws) (options_are_within ws)

demo_budgeted : (seed : List ℕ) (ws : List (List ℕ)) → IsBudgeted (form_of_demo seed ws)
demo_budgeted seed [] = tt
demo_budgeted seed (ports ∷ []) = by (demo_of seed ports)
  where
    by : (o : Option Demo) → IsBudgeted (option_map (λ d. demo d.seed d.ports) o)
    by None = tt
    by (Some d) = tt
demo_budgeted seed (a ∷ b ∷ ws) = tt

check_budgeted : (patch : List ℕ) (ws : List (List ℕ)) → IsBudgeted (form_of_check patch ws)
check_budgeted patch [] = tt
check_budgeted patch (saved ∷ []) =
    either_budgeted (is_positional patch && is_positional saved) (Some (check_plan patch saved)) None tt tt
check_budgeted patch (a ∷ b ∷ ws) = tt

resume_budgeted : (ws : List (List ℕ)) → IsBudgeted (form_of_resume ws)
resume_budgeted [] = omega arith
resume_budgeted (a ∷ []) = tt
resume_budgeted (a ∷ b ∷ []) = by (options (a ∷ b ∷ [])) (options_are_within (a ∷ b ∷ []))
  where
    by : (o : Option Options) → AreWithin o → IsBudgeted (option_map (λ given. change (reach resumed) given.budget) o)
    by None h = tt
    by (Some given) h = h
resume_budgeted (a ∷ b ∷ c ∷ ws) = tt

-- the forms of one word that come after the first ones
abbrev giving_up : List ℕ → Option Form
giving_up a = cond (is_word a (codes "abandon")) (Some abandon) None

abbrev resuming : List ℕ → Option Form
resuming a = cond (is_word a (codes "resume")) (form_of_resume []) (giving_up a)

interruption_budgeted : (a : List ℕ) → IsBudgeted (form_of_interruption a)
interruption_budgeted a =
    either_budgeted (is_word a (codes "status")) (Some status) (resuming a) tt
    (either_budgeted (is_word a (codes "resume")) (form_of_resume []) (giving_up a) (resume_budgeted [])
    (either_budgeted (is_word a (codes "abandon")) (Some abandon) None tt tt))

-- the forms of three words or more that come after the first ones
abbrev checking : (a b : List ℕ) → List (List ℕ) → Option Form
checking a b ws = cond (is_word a (codes "check-plan")) (form_of_check b ws) (form_of_plan a b ws)

abbrev resuming_more : (a b : List ℕ) → List (List ℕ) → Option Form
resuming_more a b ws = cond (is_word a (codes "resume")) (form_of_resume (b ∷ ws)) (checking a b ws)

-- the forms of one word that come after the first one
abbrev migrating : List ℕ → Option Form
migrating a = cond (is_word a (codes "migrate-checkpoints")) (Some migrate_checkpoints) (form_of_interruption a)

abbrev listing : List ℕ → Option Form
listing a = cond (is_word a (codes "list-checkpoints")) (Some list_checkpoints) (migrating a)

-- the forms of two words that come after the first one
abbrev deleting : (a b : List ℕ) → Option Form
deleting a b = cond (is_word a (codes "delete-checkpoint") && is_positional b) (Some (delete_checkpoint b))
    (form_of_plan a b [])

abbrev saving : (a b : List ℕ) → Option Form
saving a b = cond (is_word a (codes "checkpoint") && is_positional b) (Some (save_checkpoint b)) (deleting a b)

pub form_is_budgeted : (ws : List (List ℕ)) → IsBudgeted (form ws)
form_is_budgeted [] = tt
form_is_budgeted (a ∷ []) =
    either_budgeted (is_word a (codes "check")) (Some check) (listing a) tt
    (either_budgeted (is_word a (codes "list-checkpoints")) (Some list_checkpoints) (migrating a) tt
    (either_budgeted (is_word a (codes "migrate-checkpoints")) (Some migrate_checkpoints) (form_of_interruption a) tt
    (interruption_budgeted a)))
form_is_budgeted (a ∷ b ∷ []) =
    either_budgeted (is_word a (codes "preview") && is_positional b) (Some (preview b)) (saving a b) tt
    (either_budgeted (is_word a (codes "checkpoint") && is_positional b) (Some (save_checkpoint b)) (deleting a b) tt
    (either_budgeted (is_word a (codes "delete-checkpoint") && is_positional b) (Some (delete_checkpoint b))
    (form_of_plan a b []) tt (plan_budgeted a b [])))
form_is_budgeted (a ∷ b ∷ c ∷ ws) =
    either_budgeted (is_word a (codes "demo")) (form_of_demo b (c ∷ ws)) (resuming_more a b (c ∷ ws))
    (demo_budgeted b (c ∷ ws))
    (either_budgeted (is_word a (codes "resume")) (form_of_resume (b ∷ c ∷ ws)) (checking a b (c ∷ ws))
    (resume_budgeted (b ∷ c ∷ ws))
    (either_budgeted (is_word a (codes "check-plan")) (form_of_check b (c ∷ ws)) (form_of_plan a b (c ∷ ws))
    (check_budgeted b (c ∷ ws)) (plan_budgeted a b (c ∷ ws))))
