-- What the words of a command say of its form, and its form of the words.
use Rattle.std.proofs.Common.{◌≡◌, ◌≢◌, ◌⊎◌, inl, inr, ℕ, zero, suc, List, [], ◌∷◌, ◌++◌, Bool, true, false, ◌&&◌, not, refl, sym, ap, ◌∙◌, subst, arith, Option, Some, None, IfSome, option_map, if◌then◌else◌}
use Rattle.std.specs.Prelude.{codes, Contains, option_and_then}
use Rattle.std.specs.Cmp.Lexicographic.{bytes_decides}
use Rattle.gcu_words.specs.Demos.{Demo, demo_of}
use Rattle.gcu_words.specs.Options.{Options, budget_in, budget_word, dry_run_word, options, with_budget}
use Rattle.gcu_words.specs.Targets.{Target, patched, replaced, resumed, rolled_back, target_of}
use Rattle.gcu_words.specs.Words.{is_positional, is_word}
use Rattle.gcu_words.specs.Form.{Form, form, form_of_check, form_of_demo, form_of_more, form_of_one, form_of_plan, form_of_resume, form_of_two, planned}
use Rattle.gcu_words.specs.Form as forms
use Rattle.gcu_words.specs.Tasks.{Task, reach, run_script, task_of}
use Rattle.gcu_engine.specs.Headline.{IsChangeCommand, first_words}

-- ---- words

pub same_word : (a b : List ℕ) → is_word a b ≡ true → a ≡ b
same_word a b is = (bytes_decides a b).0 is

pub first_true : (a b : Bool) → (a && b) ≡ true → a ≡ true
first_true true b e = refl
first_true false b e = absurd cc

lacks_two : (a b x : List ℕ) → a ≢ x → b ≢ x → ¬ Contains (a ∷ b ∷ []) x
lacks_two a b x first second (zero, low, e) = first e
lacks_two a b x first second (suc zero, low, e) = second e
lacks_two a b x first second (suc (suc k), low, e) = absurd (omega (arith, low))

-- ---- options

-- whether the plan is only printed, as the words have it
abbrev pub TellsDryRun : List (List ℕ) → Bool → Type 0
TellsDryRun ws true = Contains ws dry_run_word
TellsDryRun ws false = ¬ Contains ws dry_run_word

-- a word that is a budget is no option
budget_is_none : (n : ℕ) → budget_in dry_run_word ≡ Some n → ⊥
budget_is_none n e = cc

apart : budget_word ≡ dry_run_word → ⊥
apart e = cc

given_budget : (dry : Bool) (word : List ℕ) (given : Options) → with_budget dry word ≡ Some given
    → (dry ≡ given.dry_run) × (word ≢ dry_run_word)
given_budget dry word given e = by (budget_in word) refl e
  where
    by : (o : Option ℕ) → budget_in word ≡ o
        → option_map (λ (n : ℕ). record { dry_run = dry; budget = n }) o ≡ Some given
        → (dry ≡ given.dry_run) × (word ≢ dry_run_word)
    by None is e = absurd cc
    by (Some n) is e =
        let same : record { dry_run = dry; budget = n } ≡ given = cc in (
          ap (λ (o : Options). o.dry_run) same,
          λ w. budget_is_none n
              (subst (λ (t : List ℕ). budget_in t ≡ Some n) w is),
        )

pub options_tell : (ws : List (List ℕ)) (given : Options) → options ws ≡ Some given → TellsDryRun ws given.dry_run
options_tell [] given e =
    let same : record { dry_run = false; budget = 2000 } ≡ given = cc in
    subst (λ (o : Options). TellsDryRun [] o.dry_run) same (λ (k, low, is). absurd (omega (arith, low)))
options_tell (a ∷ []) given e = by (is_word a dry_run_word) refl e
  where
    by : (b : Bool) → is_word a dry_run_word ≡ b
        → (if b then Some (record { dry_run = true; budget = 2000 }) else None) ≡ Some given
        → TellsDryRun (a ∷ []) given.dry_run
    by true is e =
        let same : record { dry_run = true; budget = 2000 } ≡ given = cc in
        subst (λ (o : Options). TellsDryRun (a ∷ []) o.dry_run) same (0, omega arith, same_word a dry_run_word is)
    by false is e = absurd cc
options_tell (a ∷ b ∷ []) given e = by (is_word a budget_word) refl e
  where
    by : (t : Bool) → is_word a budget_word ≡ t → (if t then with_budget false b else None) ≡ Some given
        → TellsDryRun (a ∷ b ∷ []) given.dry_run
    by true is e =
        let h = given_budget false b given e in
        subst (TellsDryRun (a ∷ b ∷ []))
        h.0 (lacks_two a b dry_run_word (λ w. apart (sym (same_word a budget_word is) ∙ w)) h.1)
    by false is e = absurd cc
options_tell (a ∷ b ∷ c ∷ []) given e =
    by (is_word a dry_run_word && is_word b budget_word) refl (is_word a budget_word && is_word c dry_run_word) refl e
  where
    by : (t : Bool) → (is_word a dry_run_word && is_word b budget_word) ≡ t → (u : Bool)
        → (is_word a budget_word && is_word c dry_run_word) ≡ u
        → (if t then with_budget true c else if u then with_budget true b else None) ≡ Some given
        → TellsDryRun (a ∷ b ∷ c ∷ []) given.dry_run
    by true is u other e =
        subst (TellsDryRun (a ∷ b ∷ c ∷ []))
        (given_budget true c given e).0 (
          0,
          omega arith,
          same_word a dry_run_word
              (first_true _ (is_word b budget_word) is),
        )
    by false is true other e =
        subst (TellsDryRun (a ∷ b ∷ c ∷ []))
        (given_budget true b given e).0 (
          2,
          omega arith,
          same_word c dry_run_word
              (second_true (is_word a budget_word) _ other),
        )
      where
        second_true : (x y : Bool) → (x && y) ≡ true → y ≡ true
        second_true true y e = e
        second_true false y e = absurd cc
    by false is false other e = absurd cc
options_tell (a ∷ b ∷ c ∷ d ∷ ws) given e = absurd cc

-- two words are no option for a plan that is only printed
not_printed : (a b : List ℕ) (given : Options) → options (a ∷ b ∷ []) ≡ Some given
    → ¬ Contains (a ∷ b ∷ []) dry_run_word
not_printed a b given is =
    subst (TellsDryRun (a ∷ b ∷ [])) (by (is_word a budget_word) is) (options_tell (a ∷ b ∷ []) given is)
  where
    by : (t : Bool) → (if t then with_budget false b else None) ≡ Some given → given.dry_run ≡ false
    by true e = sym (given_budget false b given e).0
    by false e = absurd cc

-- ---- from the words to the form

-- the form of a command with a task, by its options
abbrev pub IsPlanForm : Task → List (List ℕ) → Option Form → Type 0
IsPlanForm task ws f =
    (f ≡ None)
    ⊎ (((budget : ℕ) × (f ≡ Some (forms.plan task budget)) × Contains ws dry_run_word)
    ⊎ ((budget : ℕ) × (f ≡ Some (forms.change task budget)) × (¬ Contains ws dry_run_word)))

planned_form : (task : Task) (ws : List (List ℕ)) → IsPlanForm task ws (option_map (planned task) (options ws))
planned_form task ws = by (options ws) refl
  where
    told : (given : Options) → (dry : Bool) → given.dry_run ≡ dry → TellsDryRun ws dry
        → IsPlanForm task ws (Some (if dry then forms.plan task given.budget else forms.change task given.budget))
    told given true is tells = inr (inl (given.budget, refl, tells))
    told given false is tells = inr (inr (given.budget, refl, tells))

    by : (o : Option Options) → options ws ≡ o → IsPlanForm task ws (option_map (planned task) o)
    by None is = inl refl
    by (Some given) is = told given given.dry_run refl (options_tell ws given is)

named_form : (from : Target) (word : List ℕ) (ws : List (List ℕ)) (named : Bool)
    → IsPlanForm (reach from) ws (option_and_then (λ t. option_map (planned t) (options ws))
    (option_map reach (if not named then None else Some from)))
named_form from word ws true = planned_form (reach from) ws
named_form from word ws false = inl refl

no_target : (ws : List (List ℕ)) (named : Bool)
    → option_and_then (λ (t : Task). option_map (planned t) (options ws))
    (option_map reach (if not named then None else None)) ≡ None
no_target ws true = refl
no_target ws false = refl

script_form : (path : List ℕ) (ws : List (List ℕ)) (named : Bool)
    → IsPlanForm (run_script path) ws
    (option_and_then (λ t. option_map (planned t) (options ws))
    (if named then Some (run_script path) else option_map reach (if not named then None else None)))
script_form path ws true = planned_form (run_script path) ws
script_form path ws false = inl refl

pub plan_form : (task : Task) (ws : List (List ℕ)) → IsPlanForm task ws (form (first_words task ++ ws))
plan_form (reach (patched path)) [] = named_form (patched path) path [] (is_positional path)
plan_form (reach (patched path)) (c ∷ ws) = named_form (patched path) path (c ∷ ws) (is_positional path)
plan_form (reach (replaced path)) [] = named_form (replaced path) path [] (is_positional path)
plan_form (reach (replaced path)) (c ∷ ws) = named_form (replaced path) path (c ∷ ws) (is_positional path)
plan_form (reach (rolled_back name)) [] = named_form (rolled_back name) name [] (is_positional name)
plan_form (reach (rolled_back name)) (c ∷ ws) = named_form (rolled_back name) name (c ∷ ws) (is_positional name)
plan_form (reach resumed) [] = inr (inr (2000, refl, λ (k, low, is). absurd (omega (arith, low))))
plan_form (reach resumed) (a ∷ []) = inl (no_target [] (is_positional a))
plan_form (reach resumed) (a ∷ b ∷ []) = by (options (a ∷ b ∷ [])) refl
  where
    by : (o : Option Options) → options (a ∷ b ∷ []) ≡ o
        → IsPlanForm (reach resumed) (a ∷ b ∷ []) (option_map (λ given. forms.change (reach resumed) given.budget) o)
    by None is = inl refl
    by (Some given) is =
        inr (inr (given.budget, refl, not_printed a b given is))
plan_form (reach resumed) (a ∷ b ∷ c ∷ ws) = inl refl
plan_form (run_script path) [] = script_form path [] (is_positional path)
plan_form (run_script path) (c ∷ ws) = script_form path (c ∷ ws) (is_positional path)

-- ---- from the form to the words

-- the words of a form: of a checkpoint that is saved or deleted, and of a task that is done
abbrev pub IsFormOf : List (List ℕ) → Form → Type 0
IsFormOf words (forms.save_checkpoint name) = words ≡ codes "checkpoint" ∷ name ∷ []
IsFormOf words (forms.delete_checkpoint name) = words ≡ codes "delete-checkpoint" ∷ name ∷ []
IsFormOf words (forms.change task budget) = IsChangeCommand task words
IsFormOf words other = Unit {0}

module _ (words : List (List ℕ)) where
  branch : (b : Bool) (x y : Option Form) → (b ≡ true → IfSome x (IsFormOf words)) → IfSome y (IsFormOf words)
      → IfSome (if b then x else y) (IsFormOf words)
  branch true x y h other = h refl
  branch false x y h other = other

named_words : (command word : List ℕ) (t : Target) → target_of command word ≡ Some t
    → command ∷ word ∷ [] ≡ first_words (reach t)
named_words command word t e = by (is_positional word) e
  where
    unnamed : (a b : Bool)
        → ((if a then Some (replaced word) else if b then Some (rolled_back word) else None) ≡ Some t)
        → is_word command (codes "replace") ≡ a → is_word command (codes "rollback") ≡ b
        → command ∷ word ∷ [] ≡ first_words (reach t)
    unnamed true b e is other =
        let same : replaced word ≡ t = cc in
        ap (λ c. c ∷ word ∷ []) (same_word command (codes "replace") is) ∙ ap (λ (x : Target). first_words (reach x))
        same
    unnamed false true e other is =
        let same : rolled_back word ≡ t = cc in
        ap (λ c. c ∷ word ∷ []) (same_word command (codes "rollback") is) ∙ ap (λ (x : Target). first_words (reach x))
        same
    unnamed false false e other none = absurd cc

    patching : (a : Bool)
        → (if a then Some (patched word) else if is_word command (codes "replace") then Some (replaced word) else if
        is_word command (codes "rollback") then Some (rolled_back word) else None) ≡ Some t
        → is_word command (codes "apply-patch") ≡ a → command ∷ word ∷ [] ≡ first_words (reach t)
    patching true e is =
        let same : patched word ≡ t = cc in
        ap (λ c. c ∷ word ∷ []) (same_word command (codes "apply-patch") is)
        ∙ ap (λ (x : Target). first_words (reach x)) same
    patching false e other =
        unnamed (is_word command (codes "replace")) (is_word command (codes "rollback")) e refl refl

    by : (positional : Bool)
        → (if not positional then None else if is_word command (codes "apply-patch") then Some (patched word) else if
        is_word command (codes "replace") then Some (replaced word) else if is_word command (codes "rollback") then
        Some (rolled_back word) else None) ≡ Some t
        → command ∷ word ∷ [] ≡ first_words (reach t)
    by true e = patching (is_word command (codes "apply-patch")) e refl
    by false e = absurd cc

task_words : (command word : List ℕ) (t : Task) → task_of command word ≡ Some t → command ∷ word ∷ [] ≡ first_words t
task_words command word t e = by (is_word command (codes "sessions")) (is_positional word) refl e
  where
    reached : (o : Option Target) → target_of command word ≡ o → option_map reach o ≡ Some t
        → command ∷ word ∷ [] ≡ first_words t
    reached None is e = absurd cc
    reached (Some x) is e = let same : reach x ≡ t = cc in named_words command word x is ∙ ap first_words same

    by : (a b : Bool) → is_word command (codes "sessions") ≡ a
        → (if a && b then Some (run_script word) else option_map reach (target_of command word)) ≡ Some t
        → command ∷ word ∷ [] ≡ first_words t
    by true true is e =
        let same : run_script word ≡ t = cc in
        ap (λ c. c ∷ word ∷ []) (same_word command (codes "sessions") is) ∙ ap first_words same
    by true false is e = reached (target_of command word) refl e
    by false b is e = reached (target_of command word) refl e

plan_words : (command word : List ℕ) (ws : List (List ℕ))
    → IfSome (form_of_plan command word ws) (IsFormOf (command ∷ word ∷ ws))
plan_words command word ws = by (task_of command word) refl
  where
    told : (t : Task) (given : Options) → task_of command word ≡ Some t → (dry : Bool) → TellsDryRun ws dry
        → IsFormOf (command ∷ word ∷ ws) (if dry then forms.plan t given.budget else forms.change t given.budget)
    told t given named true tells = tt
    told t given named false tells = (ws, ap (λ c. c ++ ws) (task_words command word t named), tells)

    with_options : (t : Task) → task_of command word ≡ Some t → (o : Option Options) → options ws ≡ o
        → IfSome (option_map (planned t) o) (IsFormOf (command ∷ word ∷ ws))
    with_options t named None is = tt
    with_options t named (Some given) is = told t given named given.dry_run (options_tell ws given is)

    by : (o : Option Task) → task_of command word ≡ o
        → IfSome (option_and_then (λ t. option_map (planned t) (options ws)) o) (IsFormOf (command ∷ word ∷ ws))
    by None named = tt
    by (Some t) named = with_options t named (options ws) refl

-- `resume` with what is behind it
resume_words : (ws : List (List ℕ)) → IfSome (form_of_resume ws) (IsFormOf (codes "resume" ∷ ws))
resume_words [] = ([], refl, λ (k, low, is). absurd (omega (arith, low)))
resume_words (a ∷ []) = tt
resume_words (a ∷ b ∷ []) = by (options (a ∷ b ∷ [])) refl
  where
    by : (o : Option Options) → options (a ∷ b ∷ []) ≡ o
        → IfSome (option_map (λ given. forms.change (reach resumed) given.budget) o)
        (IsFormOf (codes "resume" ∷ a ∷ b ∷ []))
    by None is = tt
    by (Some given) is = (a ∷ b ∷ [], refl, not_printed a b given is)
resume_words (a ∷ b ∷ c ∷ ws) = tt

demo_words : (words ws : List (List ℕ)) (seed : List ℕ) → IfSome (form_of_demo seed ws) (IsFormOf words)
demo_words words [] seed = tt
demo_words words (ports ∷ []) seed = by (demo_of seed ports)
  where
    by : (o : Option Demo) → IfSome (option_map (λ d. forms.demo d.seed d.ports) o) (IsFormOf words)
    by None = tt
    by (Some d) = tt
demo_words words (a ∷ b ∷ ws) seed = tt

check_words : (words ws : List (List ℕ)) (patch : List ℕ) → IfSome (form_of_check patch ws) (IsFormOf words)
check_words words [] patch = tt
check_words words (saved ∷ []) patch = branch words (is_positional patch && is_positional saved) _ _ (λ is. tt) tt
check_words words (a ∷ b ∷ ws) patch = tt

-- what is behind the name of a command
behind : (command name : List ℕ) (ws : List (List ℕ)) (o : Option Form) → is_word command name ≡ true
    → IfSome o (IsFormOf (name ∷ ws)) → IfSome o (IsFormOf (command ∷ ws))
behind command name ws o is h = subst (λ w. IfSome o (IsFormOf (w ∷ ws))) (sym (same_word command name is)) h

one_words : (a : List ℕ) → IfSome (form_of_one a) (IsFormOf (a ∷ []))
one_words a =
    branch (a ∷ []) (is_word a (codes "check")) _ _ (λ is. tt)
    (branch (a ∷ []) (is_word a (codes "list-checkpoints")) _ _ (λ is. tt)
    (branch (a ∷ []) (is_word a (codes "migrate-checkpoints")) _ _ (λ is. tt)
    (branch (a ∷ []) (is_word a (codes "status")) _ _ (λ is. tt)
    (branch (a ∷ []) (is_word a (codes "resume")) _ _ (λ is. behind a (codes "resume") [] (form_of_resume []) is
    (resume_words []))
    (branch (a ∷ []) (is_word a (codes "abandon")) _ _ (λ is. tt) tt)))))

two_words : (a b : List ℕ) → IfSome (form_of_two a b) (IsFormOf (a ∷ b ∷ []))
two_words a b =
    branch (a ∷ b ∷ []) (is_word a (codes "preview") && is_positional b) _ _ (λ is. tt)
    (branch (a ∷ b ∷ []) (is_word a (codes "checkpoint") && is_positional b) _ _
    (λ is. behind a (codes "checkpoint") (b ∷ []) (Some (forms.save_checkpoint b)) (first_true _ (is_positional b) is)
    refl)
    (branch (a ∷ b ∷ []) (is_word a (codes "delete-checkpoint") && is_positional b) _ _
    (λ is. behind a (codes "delete-checkpoint") (b ∷ []) (Some (forms.delete_checkpoint b))
    (first_true _ (is_positional b) is) refl)
    (plan_words a b [])))

more_words : (a b : List ℕ) (ws : List (List ℕ)) → IfSome (form_of_more a b ws) (IsFormOf (a ∷ b ∷ ws))
more_words a b ws =
    branch (a ∷ b ∷ ws) (is_word a (codes "demo")) _ _ (λ is. demo_words (a ∷ b ∷ ws) ws b)
    (branch (a ∷ b ∷ ws) (is_word a (codes "resume")) _ _
    (λ is. behind a (codes "resume") (b ∷ ws) (form_of_resume (b ∷ ws)) is (resume_words (b ∷ ws)))
    (branch (a ∷ b ∷ ws) (is_word a (codes "check-plan")) _ _ (λ is. check_words (a ∷ b ∷ ws) ws b)
    (plan_words a b ws)))

pub form_words : (words : List (List ℕ)) → IfSome (form words) (IsFormOf words)
form_words [] = tt
form_words (a ∷ []) = one_words a
form_words (a ∷ b ∷ []) = two_words a b
form_words (a ∷ b ∷ c ∷ ws) = more_words a b (c ∷ ws)
