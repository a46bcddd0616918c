-- That words ask one thing: each part of a question has one answer, and so have two parts one after the other.
use Rattle.std.proofs.Common.{◌≡◌, inl, inr, ℕ, List, [], ◌∷◌, ◌++◌, map, slice_get, Option, Some, None, Result, Ok, Err, Ordering, Less, Equal, Greater, refl, sym, ap, ◌∙◌, subst}
use Rattle.host_core.specs.Names.{name_cmp}
use Rattle.host_core.specs.State.{State}
use Rattle.conf_doc.specs.declared.configuration.Config.{Config}
use Rattle.conf_doc.proofs.Edits.{same_name, turned}
use Rattle.yang_text.specs.Declarations.{Declaration}
use Rattle.yang_scope.specs.Faults.{least_of}
use Rattle.yang_scope.specs.declared.faults.Fault.{Fault}
use Rattle.yang_model.specs.Answers.{AreModelsOf, IsLeastFaultOf}
use Rattle.yang_model.specs.ModelSets.{ModelSet}
use Rattle.yang_model.specs.Readers.{AreTrue, Readers}
use Rattle.conf_check.specs.declared.violations.RuleName.{RuleName}
use Rattle.move_core.specs.declared.contexts.Ctx.{Ctx}
use Rattle.gcu_requests.specs.GoalTables.{AgreeAt, DifferAt, HasKeysAt, IsEmptyAt, IsFirstByName}
use Rattle.patch_core.specs.Operation.{Operation}
use Rattle.gcu_words.specs.Targets.{Target, patched, replaced, resumed, rolled_back}
use Rattle.plan_texts.specs.PlanTexts.{most_bytes}
use Rattle.gcu_words.specs.declared.script_lines.ScriptLine.{ScriptLine}
use Rattle.gcu_output.specs.declared.outcomes.Outcome.{Outcome}
use Rattle.gcu_output.specs.declared.outcomes.Outcome.TheVariants.{BadModels, CurrentInvalid, TargetInvalid, NoModel, EmptyTable}
use Rattle.gcu_inputs.specs.Asking.{Asking, IsRefused, Source, asks, follows, follows_by, settles_first, ◌>>>◌}
use Rattle.gcu_words.specs.Form.{Form, form}
use Rattle.gcu_words.specs.Form as forms
use Rattle.gcu_inputs.specs.IntentAsked.{gate_asked, intent_asked, interrupted, uninterrupted}
use Rattle.gcu_inputs.specs.ModelFiles.{AreModels, File, IsModelRefusal, Text, bytes_asked, files_asked, list_limit, list_path, model_limit, models_asked, paths_asked, statements_of, texts_asked}
use Rattle.gcu_inputs.specs.PatchAsked.{patch_asked}
use Rattle.gcu_inputs.specs.RulesAsked.{ctx_asked, rules_limit, rules_path, settings_asked}
use Rattle.gcu_inputs.specs.StoredAsked.{stored_asked}
use Rattle.gcu_words.specs.Tasks.{Task, reach, run_script}
use Rattle.gcu_requests.specs.Asked.{delete_asked, form_asked, list_asked, migrate_asked, preview_asked, save_asked, target_asked}
use Rattle.gcu_requests.specs.Checking.{IsJudged, check_asked, judging_asked}
use Rattle.gcu_requests.specs.DemoAsked.{demo_asked, demo_planning_asked, generated_asked}
use Rattle.gcu_requests.specs.FileAsked.{file_limit}
use Rattle.gcu_requests.specs.InterruptionAsked.{abandon_asked, status_asked}
use Rattle.gcu_requests.specs.OneAnswer.{AskedIsOne, HasOneAnswer}
use Rattle.gcu_requests.specs.PlanAsked.{HasKeys, IsElsewhereAs, IsValidOr, goal_asked, judged_asked, made_asked, needs_asked, planning_asked, start_asked}
use Rattle.gcu_requests.specs.PlanCheckAsked.{check_plan_asked, moves_asked}
use Rattle.gcu_requests.specs.PointAsked.{name_answer}
use Rattle.gcu_requests.specs.Request.{Patched, Request}
use Rattle.gcu_requests.specs.SessionsAsked.{file_of, line_asked, patch_at, patches_asked, operating_asked, script_asked, script_limit, unread_asked}
use Rattle.gcu_requests.specs.WorkAsked.{change_asked, dry_run_asked, task_answer, work_asked}
use Rattle.gcu_requests.proofs.FirstBreaches.{invalid_one}
use Rattle.gcu_requests.proofs.OnePlanAnswer.{PlanLaws, accepted_same, plan_same}

-- ---- one call, and no call

pub asks_one : {X : Type 0} (source : Source) (answer : Result X Outcome) → HasOneAnswer (asks source answer)
asks_one source answer = record { same = λ r q e f. sym e ∙ f }

pub follows_one : {X : Type 0} (answer : Result X Outcome) → HasOneAnswer (follows answer)
follows_one answer = record { same = λ r q e f. sym e ∙ f }

settles_one : HasOneAnswer settles_first
settles_one = record { same = λ r q e f. sym e ∙ f }

-- ---- one question after the other

module _ {X : Type 0} where
  pub same_err : (e f : Outcome) (r q : Result X Outcome) → r ≡ Err e → q ≡ Err f → r ≡ q → e ≡ f
  same_err e f r q is are same = cc

  pub same_ok : (x y : X) (r q : Result X Outcome) → r ≡ Ok x → q ≡ Ok y → r ≡ q → x ≡ y
  same_ok x y r q is are same = cc

  pub apart : (x : X) (e : Outcome) (r q : Result X Outcome) → r ≡ Ok x → q ≡ Err e → r ≡ q → ⊥
  apart x e r q is are same = cc

module _ {X Y : Type 0} (first : Asking X) (next : X → Asking Y) (one : HasOneAnswer first)
    (ones : (x : X) → HasOneAnswer (next x)) where
  both_refused : (r q : Result Y Outcome) → IsRefused first r → IsRefused first q → r ≡ q
  both_refused (Ok y) q never k = absurd never
  both_refused (Err e) (Ok y) h never = absurd never
  both_refused (Err e) (Err f) h k =
      ap (λ (o : Outcome). Err o) (same_err {X = X} e f (Err e) (Err f) refl refl (one.same (Err e) (Err f) h k))

  -- what is refused first gives nothing to go on with
  refused_not : (x : X) (r : Result Y Outcome) → first.Gives (Ok x) → IsRefused first r → ⊥
  refused_not x (Ok y) given never = never
  refused_not x (Err e) given h = apart x e (Ok x) (Err e) refl refl (one.same (Ok x) (Err e) given h)

  both_given : (r q : Result Y Outcome) → (first >>> next).Gives r → (first >>> next).Gives q → r ≡ q
  both_given r q (inl h) (inl k) = both_refused r q h k
  both_given r q (inl h) (inr (x, given, k)) = absurd (refused_not x r given h)
  both_given r q (inr (x, given, h)) (inl k) = absurd (refused_not x q given k)
  both_given r q (inr (x, given, h)) (inr (y, too, k)) =
      let same : x ≡ y = same_ok x y (Ok x) (Ok y) refl refl (one.same (Ok x) (Ok y) given too) in
      (ones y).same r q (subst (λ (z : X). (next z).Gives r) same h) k

  pub chain_one : HasOneAnswer (first >>> next)
  chain_one = record { same = both_given }

-- ---- what a relation tells

same_some : {A : Type 0} (x y : A) → Some x ≡ Some y → x ≡ y
same_some x y e = cc

-- of what differs and what comes before it, one is the first
first_one : (P D : List ℕ → Type 0) → ((t : List ℕ) → P t → D t → ⊥) → (t u : List ℕ) → D t → IsFirstByName P t → D u
    → IsFirstByName P u → t ≡ u
first_one P D never t u differs before too first = by (name_cmp t u) refl
  where
    by : (c : Ordering) → name_cmp t u ≡ c → t ≡ u
    by Less e = absurd (never t (first t e) differs)
    by Equal e = same_name t u e
    by Greater e = absurd (never u (before u (turned t u Greater e)) too)

module _ (ctx : Ctx) (start goal : Config) where
  elsewhere_same : (r q : Result (Unit {0}) Outcome) → IsElsewhereAs ctx start goal r → IsElsewhereAs ctx start goal q
      → r ≡ q
  elsewhere_same (Ok u) (Ok v) p k = refl
  elsewhere_same (Ok u) (Err f) p k = absurd (k.1.0.1 (p k.0 k.1.0.0))
  elsewhere_same (Err e) (Ok v) p k = absurd (p.1.0.1 (k p.0 p.1.0.0))
  elsewhere_same (Err e) (Err f) p k =
      let same : p.0 ≡ k.0 = first_one (AgreeAt ctx start goal) (DifferAt ctx start goal)
      (λ t agree differ. differ.1 (agree differ.0)) p.0 k.0 p.1.0 p.1.1 k.1.0 k.1.1 in
      ap (λ (o : Outcome). Err o) (p.2 ∙ ap NoModel same ∙ sym k.2)

  keys_same : (r q : Result (Unit {0}) Outcome) → HasKeys ctx goal r → HasKeys ctx goal q → r ≡ q
  keys_same (Ok u) (Ok v) p k = refl
  keys_same (Ok u) (Err f) p k = absurd (p k.0 k.1.0.0 k.1.0.1)
  keys_same (Err e) (Ok v) p k = absurd (k p.0 p.1.0.0 p.1.0.1)
  keys_same (Err e) (Err f) p k =
      let same : p.0 ≡ k.0 = first_one (HasKeysAt ctx goal) (IsEmptyAt ctx goal) (λ t has empty. has empty.0 empty.1)
      p.0 k.0 p.1.0 p.1.1 k.1.0 k.1.1 in
      ap (λ (o : Outcome). Err o) (p.2 ∙ ap EmptyTable same ∙ sym k.2)

module _ (answer : List ℕ → RuleName → Outcome) (ctx : Ctx) (config : Config) where
  valid_same : (r q : Result Config Outcome) → IsValidOr answer ctx config r → IsValidOr answer ctx config q → r ≡ q
  valid_same (Ok c) (Ok d) p k = ap (λ (x : Config). Ok x) (p.1 ∙ sym k.1)
  valid_same (Ok c) (Err f) p k = absurd (p.0 k.breach k.first.broken)
  valid_same (Err e) (Ok d) p k = absurd (k.0 p.breach p.first.broken)
  valid_same (Err e) (Err f) p k = ap (λ (o : Outcome). Err o) (invalid_one answer ctx.models config e f p k)

  valid_one : HasOneAnswer (follows_by (IsValidOr answer ctx config))
  valid_one = record { same = valid_same }

checked_same : (models : ModelSet) (config : Config) (r q : Result Request Outcome) → IsJudged models config r
    → IsJudged models config q → r ≡ q
checked_same models config (Ok a) (Ok b) p k = ap (λ (x : Request). Ok x) (p.1 ∙ sym k.1)
checked_same models config (Ok a) (Err f) p k = absurd (p.0 k.breach k.first.broken)
checked_same models config (Err e) (Ok b) p k = absurd (k.0 p.breach p.first.broken)
checked_same models config (Err e) (Err f) p k =
    ap (λ (o : Outcome). Err o) (invalid_one CurrentInvalid models config e f p k)

-- ---- the questions

stored_one : (s : State) → HasOneAnswer (stored_asked s)
stored_one s = asks_one _ _

pub uninterrupted_one : (s : State) → HasOneAnswer (uninterrupted s)
uninterrupted_one s = chain_one (intent_asked s) _ (asks_one _ _) (λ found. follows_one _)

interrupted_one : (s : State) → HasOneAnswer (interrupted s)
interrupted_one s = chain_one (intent_asked s) _ (asks_one _ _) (λ found. follows_one _)

gate_one : (from : Target) (s : State) → HasOneAnswer (gate_asked from s)
gate_one (patched path) s = uninterrupted_one s
gate_one (replaced path) s = uninterrupted_one s
gate_one (rolled_back name) s = uninterrupted_one s
gate_one resumed s = interrupted_one s

status_one : (s : State) → HasOneAnswer (status_asked s)
status_one s =
    chain_one (stored_asked s) _ (stored_one s)
    (λ start. chain_one (intent_asked s) _ (asks_one _ _) (λ found. follows_one _))

abandon_one : (s : State) → HasOneAnswer (abandon_asked s)
abandon_one s =
    chain_one settles_first _ settles_one (λ u. chain_one (interrupted s) _ (interrupted_one s) (λ v. follows_one _))

list_one : (s : State) → HasOneAnswer (list_asked s)
list_one s = chain_one (uninterrupted s) _ (uninterrupted_one s) (λ u. asks_one _ _)

migrate_one : (s : State) → HasOneAnswer (migrate_asked s)
migrate_one s =
    chain_one settles_first _ settles_one (λ u. chain_one (uninterrupted s) _ (uninterrupted_one s) (λ v. asks_one _ _))

name_one : (word : List ℕ) → HasOneAnswer (follows (name_answer word))
name_one word = follows_one (name_answer word)

preview_one : (path : List ℕ) (s : State) → HasOneAnswer (preview_asked path s)
preview_one path s =
    chain_one (target_asked path s) _
    (chain_one (uninterrupted s) _ (uninterrupted_one s) (λ u.
    chain_one (stored_asked s) _ (stored_one s)
    (λ start. chain_one (patch_asked path s) _ (asks_one _ _) (λ ops. follows_one _))))
    (λ c. follows_one _)

delete_one : (word : List ℕ) (s : State) → HasOneAnswer (delete_asked word s)
delete_one word s =
    chain_one (follows (name_answer word)) _ (name_one word)
    (λ name. chain_one settles_first _ settles_one (λ u. chain_one (uninterrupted s) _ (uninterrupted_one s)
    (λ v. asks_one _ _)))

files_one : (found : List File) (paths : List (List ℕ)) (s : State) → HasOneAnswer (files_asked found paths s)
files_one found [] s = follows_one (Ok found)
files_one found (path ∷ paths) s =
    chain_one (bytes_asked path model_limit s) _ (asks_one _ _)
    (λ bytes. files_one (found ++ (path, bytes) ∷ []) paths s)

texts_one : (s : State) → HasOneAnswer (texts_asked s)
texts_one s =
    chain_one (paths_asked s) _
    (chain_one (bytes_asked list_path list_limit s) _ (asks_one _ _) (λ bytes. follows_one _))
    (λ paths. chain_one (files_asked [] paths s) _ (files_one [] paths s) (λ files. follows_one _))

settings_one : (s : State) → HasOneAnswer (settings_asked s)
settings_one s = chain_one (bytes_asked rules_path rules_limit s) _ (asks_one _ _) (λ bytes. follows_one _)

made_one : (from : Target) (start : Config) (s : State) → HasOneAnswer (made_asked from start s)
made_one (patched path) start s = chain_one (patch_asked path s) _ (asks_one _ _) (λ ops. follows_one _)
made_one (replaced path) start s = chain_one (bytes_asked path file_limit s) _ (asks_one _ _) (λ bytes. follows_one _)
made_one (rolled_back name) start s = asks_one _ _
made_one resumed start s = chain_one (intent_asked s) _ (asks_one _ _) (λ found. follows_one _)

pub judged_one : (ctx : Ctx) (start goal : Config) → HasOneAnswer (judged_asked ctx start goal)
judged_one ctx start goal =
    chain_one (follows_by (IsElsewhereAs ctx start goal)) _ (record { same = elsewhere_same ctx start goal })
    (λ u. chain_one (follows_by (HasKeys ctx goal)) _ (record { same = keys_same ctx start goal })
    (λ v. valid_one TargetInvalid ctx goal))

goal_one : (from : Target) (ctx : Ctx) (start : Config) (s : State) → HasOneAnswer (goal_asked from ctx start s)
goal_one from ctx start s =
    chain_one (made_asked from start s) _ (made_one from start s) (λ goal. judged_one ctx start goal)

pub start_one : (ctx : Ctx) (s : State) → HasOneAnswer (start_asked ctx s)
start_one ctx s = chain_one (stored_asked s) _ (stored_one s) (λ stored. valid_one CurrentInvalid ctx stored)

-- ---- scripts

script_one : (path : List ℕ) (s : State) → HasOneAnswer (script_asked path s)
script_one path s = chain_one (bytes_asked path script_limit s) _ (asks_one _ _) (λ bytes. follows_one _)

unread_one : (found : List Patched) (path : List ℕ) (ops : Option (List Operation)) (s : State)
    → HasOneAnswer (unread_asked found path ops s)
unread_one found path (Some ops) s = follows_one _
unread_one found path None s = chain_one (patch_asked path s) _ (asks_one _ _) (λ ops. follows_one _)

line_one : (found : List Patched) (file : Option (List ℕ)) (s : State) → HasOneAnswer (line_asked found file s)
line_one found None s = follows_one _
line_one found (Some path) s = unread_one found path (patch_at path found) s

patches_one : (found : List Patched) (lines : List ScriptLine) (s : State) → HasOneAnswer (patches_asked found lines s)
patches_one found [] s = follows_one _
patches_one found (line ∷ lines) s =
    chain_one (line_asked found (file_of line) s) _ (line_one found (file_of line) s) (λ more. patches_one more lines s)

-- what holds of readers of models
module _ (one : (files : List (List Declaration)) (a b : ModelSet) → AreModelsOf files a → AreModelsOf files b → a ≡ b)
    (some : (readers : Readers) × AreTrue readers) where
  -- files with models have no fault
  no_fault : (files : List (List Declaration)) (models : ModelSet) (fault : Fault) → AreModelsOf files models
      → IsLeastFaultOf files fault → ⊥
  no_fault files models fault are least =
      let nothing : least_of None [] ≡ Some fault = subst (λ (fs : List Fault). least_of None fs ≡ Some fault)
      (are some.0 some.1).0 (least some.0 some.1) in
      absurd cc

  refusal_one : (texts : List Text) (e f : Outcome) → IsModelRefusal texts e → IsModelRefusal texts f → e ≡ f
  refusal_one texts e f p q =
      let same : p.fault ≡ q.fault = same_some p.fault q.fault (sym (p.least some.0 some.1) ∙ q.least some.0 some.1) in
      let at : slice_get (map (λ (t : Text). t.0) texts) q.fault.file ≡ Some p.path =
      subst (λ (x : Fault). slice_get (map (λ (t : Text). t.0) texts) x.file ≡ Some p.path) same p.at in
      let paths : p.path ≡ q.path = same_some p.path q.path (sym at ∙ q.at) in
      p.told ∙ (λ i. BadModels (paths i) (same i).line (same i).why) ∙ sym q.told

  read_same : (texts : List Text) (r q : Result ModelSet Outcome) → AreModels texts r → AreModels texts q → r ≡ q
  read_same texts (Ok a) (Ok b) p k = ap (λ (m : ModelSet). Ok m) (one (statements_of texts) a b p k)
  read_same texts (Ok a) (Err f) p k = absurd (no_fault (statements_of texts) a k.fault p k.least)
  read_same texts (Err e) (Ok b) p k = absurd (no_fault (statements_of texts) b p.fault k p.least)
  read_same texts (Err e) (Err f) p k = ap (λ (o : Outcome). Err o) (refusal_one texts e f p k)

  read_one : (s : State) → HasOneAnswer (models_asked s)
  read_one s = chain_one (texts_asked s) _ (texts_one s) (λ texts. record { same = read_same texts })

  pub judges_one : (s : State) → HasOneAnswer (ctx_asked s)
  judges_one s =
      chain_one (models_asked s) _ (read_one s) (λ models. chain_one (settings_asked s) _ (settings_one s)
      (λ settings. follows_one _))

-- and of plans
module _ (one : (files : List (List Declaration)) (a b : ModelSet) → AreModelsOf files a → AreModelsOf files b → a ≡ b)
    (some : (readers : Readers) × AreTrue readers) (laws : PlanLaws) where
  models_one : (s : State) → HasOneAnswer (models_asked s)
  models_one s = read_one one some s

  ctx_one : (s : State) → HasOneAnswer (ctx_asked s)
  ctx_one s = judges_one one some s

  judging_one : (s : State) → HasOneAnswer (judging_asked s)
  judging_one s =
      chain_one (models_asked s) _ (models_one s)
      (λ models. chain_one (stored_asked s) _ (stored_one s) (λ start. record { same = checked_same models start }))

  check_one : (s : State) → HasOneAnswer (check_asked s)
  check_one s = chain_one (uninterrupted s) _ (uninterrupted_one s) (λ u. judging_one s)

  save_one : (word : List ℕ) (s : State) → HasOneAnswer (save_asked word s)
  save_one word s =
      chain_one (follows (name_answer word)) _ (name_one word)
      (λ name. chain_one settles_first _ settles_one
      (λ u. chain_one (check_asked s) _ (check_one s) (λ c. chain_one (stored_asked s) _ (stored_one s)
      (λ start. asks_one _ _))))

  needs_one : (from : Target) (budget : ℕ) (s : State) → HasOneAnswer (needs_asked from budget s)
  needs_one from budget s =
      chain_one (ctx_asked s) _ (ctx_one s)
      (λ ctx. chain_one (start_asked ctx s) _ (start_one ctx s)
      (λ start. chain_one (goal_asked from ctx start s) _ (goal_one from ctx start s) (λ goal. follows_one _)))

  planning_one : (from : Target) (budget : ℕ) (s : State) → HasOneAnswer (planning_asked from budget s)
  planning_one from budget s = chain_one (gate_asked from s) _ (gate_one from s) (λ u. needs_one from budget s)

  operating_one : (path : List ℕ) (budget : ℕ) (s : State) → HasOneAnswer (operating_asked path budget s)
  operating_one path budget s =
      chain_one (uninterrupted s) _ (uninterrupted_one s)
      (λ u. chain_one (ctx_asked s) _ (ctx_one s)
      (λ ctx. chain_one (start_asked ctx s) _ (start_one ctx s)
      (λ start. chain_one (script_asked path s) _ (script_one path s)
      (λ lines. chain_one (patches_asked [] lines s) _ (patches_one [] lines s) (λ patches. follows_one _)))))

  work_one : (task : Task) (budget : ℕ) (s : State) → HasOneAnswer (work_asked task budget s)
  work_one (reach from) budget s =
      chain_one (planning_asked from budget s) _ (planning_one from budget s) (λ p. follows_one _)
  work_one (run_script path) budget s =
      chain_one (operating_asked path budget s) _ (operating_one path budget s) (λ p. follows_one _)

  dry_run_one : (word : Task) (budget : ℕ) (s : State) → HasOneAnswer (dry_run_asked word budget s)
  dry_run_one word budget s =
      chain_one (follows (task_answer word)) _ (follows_one (task_answer word))
      (λ task. chain_one (work_asked task budget s) _ (work_one task budget s) (λ w. follows_one _))

  change_one : (word : Task) (budget : ℕ) (s : State) → HasOneAnswer (change_asked word budget s)
  change_one word budget s =
      chain_one (follows (task_answer word)) _ (follows_one (task_answer word))
      (λ task. chain_one settles_first _ settles_one
      (λ u. chain_one (work_asked task budget s) _ (work_one task budget s) (λ w. follows_one _)))

  generated_one : (seed ports : ℕ) (ctx : Ctx) → HasOneAnswer (generated_asked seed ports ctx)
  generated_one seed ports ctx =
      chain_one (follows_by (IsValidOr CurrentInvalid ctx _)) _ (valid_one CurrentInvalid ctx _)
      (λ start. chain_one (judged_asked ctx start _) _ (judged_one ctx start _) (λ goal. follows_one _))

  demo_one : (seed ports : ℕ) (s : State) → HasOneAnswer (demo_asked seed ports s)
  demo_one seed ports s =
      chain_one (demo_planning_asked seed ports s) _
      (chain_one (uninterrupted s) _ (uninterrupted_one s)
      (λ u. chain_one (ctx_asked s) _ (ctx_one s) (λ ctx. generated_one seed ports ctx))) (λ p. follows_one _)

  moves_one : (path : List ℕ) (s : State) → HasOneAnswer (moves_asked path s)
  moves_one path s =
      chain_one (bytes_asked path most_bytes s) _ (asks_one _ _) (λ bytes. record { same = plan_same laws path bytes })

  check_plan_one : (patch plan : List ℕ) (s : State) → HasOneAnswer (check_plan_asked patch plan s)
  check_plan_one patch plan s =
      chain_one (uninterrupted s) _ (uninterrupted_one s)
      (λ u. chain_one (ctx_asked s) _ (ctx_one s)
      (λ ctx. chain_one (start_asked ctx s) _ (start_one ctx s)
      (λ start. chain_one (goal_asked (patched patch) ctx start s) _ (goal_one (patched patch) ctx start s)
      (λ goal. chain_one (moves_asked plan s) _ (moves_one plan s)
      (λ ms. record { same = accepted_same laws ctx start goal ms })))))

  form_one : (f : Option Form) (s : State) → HasOneAnswer (form_asked f s)
  form_one None s = follows_one _
  form_one (Some (forms.preview path)) s = preview_one path s
  form_one (Some forms.check) s = check_one s
  form_one (Some forms.list_checkpoints) s = list_one s
  form_one (Some forms.migrate_checkpoints) s = migrate_one s
  form_one (Some (forms.save_checkpoint name)) s = save_one name s
  form_one (Some (forms.delete_checkpoint name)) s = delete_one name s
  form_one (Some (forms.plan task budget)) s = dry_run_one task budget s
  form_one (Some (forms.change task budget)) s = change_one task budget s
  form_one (Some forms.status) s = status_one s
  form_one (Some forms.abandon) s = abandon_one s
  form_one (Some (forms.demo seed ports)) s = demo_one seed ports s
  form_one (Some (forms.check_plan patch plan)) s = check_plan_one patch plan s

  pub asked_one : AskedIsOne
  asked_one words s = form_one (form words) s
