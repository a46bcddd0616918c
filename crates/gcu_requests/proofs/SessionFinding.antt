-- How what is read for the script of several operators is found.
use Rattle.std.proofs.Common.{◌≡◌, ◌∙◌, ℕ, List, [], ◌∷◌, ◌++◌, Bool, true, false, if◌then◌else◌, refl, sym, ap, subst, Option, Some, None, IsSome, option_map, is_some, Result, Ok, Err, IfErr}
use Rattle.std.proofs.lemmas.List.{map-append}
use Rattle.std.proofs.lemmas.Cmp.{nat_list_eq_equiv}
use Rattle.host_core.specs.Answers.{Gives}
use Rattle.host_core.specs.State.{State}
use Rattle.conf_doc.specs.declared.configuration.Config.{Config}
use Rattle.conf_store.specs.declared.loaded.Stored.{Stored}
use Rattle.move_core.specs.declared.contexts.Ctx.{Ctx}
use Rattle.patch_core.specs.Operation.{Operation, operations}
use Rattle.patch_core.specs.declared.patches.Patch.{Patch}
use Rattle.gcu_words.specs.Words.{is_word}
use Rattle.gcu_words.specs.Scripts.{script}
use Rattle.gcu_words.specs.declared.script_lines.ScriptLine.{ScriptLine}
use Rattle.gcu_words.specs.declared.script_lines.ScriptLine.TheVariants.{Begin, Step, Retarget, End}
use Rattle.gcu_output.specs.declared.outcomes.Outcome.{Outcome}
use Rattle.gcu_inputs.specs.Asking.{follows}
use Rattle.gcu_inputs.specs.ModelFiles.{bytes_asked}
use Rattle.gcu_inputs.specs.PatchAsked.{patch_asked, target}
use Rattle.gcu_inputs.specs.Preparing.{Finds, Found, RefusesAlways, refusal}
use Rattle.gcu_inputs.specs.RulesAsked.{ctx_asked}
use Rattle.gcu_requests.specs.PlanAsked.{judged_asked, start_asked}
use Rattle.gcu_requests.specs.ReadScripts.{GoesOn, IsFound, operating_of, patched, patched_all}
use Rattle.gcu_requests.specs.Request as request
use Rattle.gcu_requests.specs.Request.{Patched}
use Rattle.gcu_requests.specs.SessionsAsked.{aim_asked, file_of, line_asked, patch_at, patches_asked, script_answer, script_asked, script_limit, script_needs_asked, unread_asked}
use Rattle.gcu_requests.specs.declared.session_preparing.Operating as code
use Rattle.gcu_inputs.proofs.Finding.{first_refused, found_always, then_found}
use Rattle.gcu_requests.proofs.PlanFinding.{config_of}

abbrev self : {X : Type 0} → X → X
self x = x

-- patches with their paths, as the code keeps them
abbrev Kept : Type 0
Kept = List (List ℕ × Patch)

-- ---- the script

-- there are no bytes
pub no_script : (o : Option State) (path : List ℕ) (e : Outcome)
    → Finds {X = List ℕ} o self (Err e) (bytes_asked path script_limit)
    → Finds {X = List ScriptLine} o self (Err e) (script_asked path)
no_script None path e h = tt
no_script (Some s) path e h = first_refused self self e (bytes_asked path script_limit s) _ h

-- what they hold
pub script_found : (o : Option State) (path bytes : List ℕ) (r : Result (List ScriptLine) Outcome)
    → Finds o self (Ok bytes) (bytes_asked path script_limit)
    → Gives self refusal r (script_answer (script bytes)) → IfErr r RefusesAlways → Finds o self r (script_asked path)
script_found None path bytes r h gives always = tt
script_found (Some s) path bytes r h gives always =
    then_found self self bytes r (bytes_asked path script_limit s) _ h
    (found_always self r (script_answer (script bytes)) _ (λ q same. same) gives always)

-- ---- a patch at a path

some_or : {A : Type 0} (b : Bool) (a : A) (rest : Option A) → IsSome rest → IsSome (if b then Some a else rest)
some_or true a rest h = refl
some_or false a rest h = h

some_if : {A : Type 0} (b : Bool) (a : A) (rest : Option A) → b ≡ true → IsSome (if b then Some a else rest)
some_if true a rest h = refl
some_if false a rest h = absurd cc

either : {A : Type 0} (b : Bool) (a : A) (rest more : Option A) → (IsSome rest → IsSome more)
    → IsSome (if b then Some a else rest) → IsSome (if b then Some a else more)
either true a rest more go h = refl
either false a rest more go h = go h

-- what the code found is so
pub found_some : {A B : Type 0} (f : A → B) (o : Option A) (x : Option B) → option_map f o ≡ x → is_some o ≡ true
    → IsSome x
found_some f None x is h = absurd cc
found_some f (Some a) x is h = subst IsSome is refl

pub found_none : {A B : Type 0} (f : A → B) (o : Option A) (x : Option B) → option_map f o ≡ x → is_some o ≡ false
    → x ≡ None
found_none f None x is h = sym is
found_none f (Some a) x is h = absurd cc

-- one that was found is found behind others
found_last : (path : List ℕ) (ops : List Operation) (ps : List Patched)
    → IsSome (patch_at path (ps ++ (path, ops) ∷ []))
found_last path ops [] = some_if (is_word path path) ops None (nat_list_eq_equiv.refl path)
found_last path ops (p ∷ ps) =
    some_or (is_word p.0 path) p.1 (patch_at path (ps ++ (path, ops) ∷ [])) (found_last path ops ps)

-- and before others
goes_on : (ps qs : List Patched) → GoesOn ps (ps ++ qs)
goes_on [] qs path never = absurd cc
goes_on (p ∷ ps) qs path h =
    either (is_word p.0 path) p.1 (patch_at path ps) (patch_at path (ps ++ qs)) (goes_on ps qs path) h

module _ (found all : Kept) (path : List ℕ) (patch : Patch) (is : all ≡ found ++ (path, patch) ∷ []) where
  more : patched_all found ++ (path, operations patch) ∷ [] ≡ patched_all all
  more = sym (ap patched_all is ∙ map-append patched found ((path, patch) ∷ []))

  pub is_last : IsSome (patch_at path (patched_all all))
  is_last = subst (λ ps. IsSome (patch_at path ps)) more (found_last path (operations patch) (patched_all found))

  pub is_on : GoesOn (patched_all found) (patched_all all)
  is_on = subst (GoesOn (patched_all found)) more (goes_on (patched_all found) ((path, operations patch) ∷ []))

-- what was found of a line stays found
pub found_on : (before found : List Patched) (line : ScriptLine) → GoesOn before found → IsFound before line
    → IsFound found line
found_on before found (Begin name file) on h = on file h
found_on before found (Step name) on h = tt
found_on before found (Retarget name file) on h = on file h
found_on before found (End name) on h = tt

-- ---- the patch of a file

-- it was read
pub known_found : (o : Option State) (found : Kept) (path : List ℕ) → IsSome (patch_at path (patched_all found))
    → Finds {X = Kept} o patched_all (Ok found)
    (unread_asked (patched_all found) path (patch_at path (patched_all found)))
known_found o found path h = by o (patch_at path (patched_all found)) h
  where
    by : (o : Option State) (x : Option (List Operation)) → IsSome x
        → Finds {X = Kept} o patched_all (Ok found) (unread_asked (patched_all found) path x)
    by None x h = tt
    by (Some s) None never = absurd cc
    by (Some s) (Some ops) h = record { gives = refl; stands = tt }

-- it can't be read
pub no_file_read : (o : Option State) (found : Kept) (path : List ℕ) (e : Outcome)
    → patch_at path (patched_all found) ≡ None
    → Finds {X = Patch} o operations (Err e) (patch_asked path)
    → Finds {X = Kept} o patched_all (Err e) (unread_asked (patched_all found) path (patch_at path (patched_all found)))
no_file_read None found path e none h = tt
no_file_read (Some s) found path e none h =
    subst (λ x. Finds {X = Kept} (Some s) patched_all (Err e) (unread_asked (patched_all found) path x)) (sym none)
    (first_refused operations patched_all e (patch_asked path s) _ h)

-- it is read now
pub file_read_now : (o : Option State) (found all : Kept) (path : List ℕ) (patch : Patch)
    → all ≡ found ++ (path, patch) ∷ []
    → patch_at path (patched_all found) ≡ None → Finds {X = Patch} o operations (Ok patch) (patch_asked path)
    → Finds {X = Kept} o patched_all (Ok all)
    (unread_asked (patched_all found) path (patch_at path (patched_all found)))
file_read_now None found all path patch is none h = tt
file_read_now (Some s) found all path patch is none h =
    subst (λ x. Finds {X = Kept} (Some s) patched_all (Ok all) (unread_asked (patched_all found) path x)) (sym none)
    (then_found operations patched_all patch (Ok all) (patch_asked path s) _ h
    (record { gives = ap (λ (ps : List Patched). Ok ps) (more found all path patch is); stands = tt }))

-- ---- the patches of lines

-- that of the first line can't be read
pub no_line : (o : Option State) (found : Kept) (line : ScriptLine) (lines : List ScriptLine) (e : Outcome)
    → Finds {X = Kept} o patched_all (Err e) (line_asked (patched_all found) (file_of line))
    → Finds {X = Kept} o patched_all (Err e) (patches_asked (patched_all found) (line ∷ lines))
no_line None found line lines e h = tt
no_line (Some s) found line lines e h =
    first_refused patched_all patched_all e (line_asked (patched_all found) (file_of line) s) _ h

-- that of the first line, and then the others
pub line_found : (o : Option State) (found later : Kept) (line : ScriptLine) (lines : List ScriptLine)
    (r : Result Kept Outcome)
    → Finds o patched_all (Ok later) (line_asked (patched_all found) (file_of line))
    → Finds o patched_all r (patches_asked (patched_all later) lines)
    → Finds o patched_all r (patches_asked (patched_all found) (line ∷ lines))
line_found None found later line lines r h rest = tt
line_found (Some s) found later line lines r h rest =
    then_found patched_all patched_all later r (line_asked (patched_all found) (file_of line) s) _ h rest

-- ---- all of it

module _ (path : List ℕ) (budget : ℕ) where
  -- there is nothing to judge by
  pub no_script_ctx : (o : Option State) (e : Outcome) → Finds {X = Ctx} o self (Err e) ctx_asked
      → Finds {X = code.Operating} o operating_of (Err e) (script_needs_asked path budget)
  no_script_ctx None e h = tt
  no_script_ctx (Some s) e h = first_refused self operating_of e (ctx_asked s) _ h

  -- there is no start
  pub no_script_start : (o : Option State) (ctx : Ctx) (e : Outcome) → Finds o self (Ok ctx) ctx_asked
      → Finds {X = Stored} o config_of (Err e) (start_asked ctx)
      → Finds {X = code.Operating} o operating_of (Err e) (script_needs_asked path budget)
  no_script_start None ctx e h f = tt
  no_script_start (Some s) ctx e h f =
      then_found self operating_of ctx (Err e) (ctx_asked s) _ h
      (first_refused config_of operating_of e (start_asked ctx s) _ f)

  -- there are no lines
  pub no_script_lines : (o : Option State) (ctx : Ctx) (start : Stored) (e : Outcome) → Finds o self (Ok ctx) ctx_asked
      → Finds o config_of (Ok start) (start_asked ctx) → Finds {X = List ScriptLine} o self (Err e) (script_asked path)
      → Finds {X = code.Operating} o operating_of (Err e) (script_needs_asked path budget)
  no_script_lines None ctx start e h f g = tt
  no_script_lines (Some s) ctx start e h f g =
      then_found self operating_of ctx (Err e) (ctx_asked s) _ h
      (then_found config_of operating_of start (Err e) (start_asked ctx s) _ f
      (first_refused self operating_of e (script_asked path s) _ g))

  -- a patch can't be read
  pub no_script_patches : (o : Option State) (ctx : Ctx) (start : Stored) (lines : List ScriptLine) (e : Outcome)
      → Finds o self (Ok ctx) ctx_asked
      → Finds o config_of (Ok start) (start_asked ctx) → Finds o self (Ok lines) (script_asked path)
      → Finds {X = Kept} o patched_all (Err e) (patches_asked [] lines)
      → Finds {X = code.Operating} o operating_of (Err e) (script_needs_asked path budget)
  no_script_patches None ctx start lines e h f g k = tt
  no_script_patches (Some s) ctx start lines e h f g k =
      then_found self operating_of ctx (Err e) (ctx_asked s) _ h
      (then_found config_of operating_of start (Err e) (start_asked ctx s) _ f
      (then_found self operating_of lines (Err e) (script_asked path s) _ g
      (first_refused patched_all operating_of e (patches_asked [] lines s) _ k)))

  abbrev with_budget : code.Operating → ℕ → request.Operating
  with_budget p n =
      record { ctx = p.ctx; start = p.stored.config; lines = p.script; patches = patched_all p.patches; budget = n }

  -- there is all that a script needs
  pub script_ready : (o : Option State) (p : code.Operating) → p.budget ≡ budget → Finds o self (Ok p.ctx) ctx_asked
      → Finds o config_of (Ok p.stored) (start_asked p.ctx) → Finds o self (Ok p.script) (script_asked path)
      → Finds o patched_all (Ok p.patches) (patches_asked [] p.script)
      → Finds o operating_of (Ok p) (script_needs_asked path budget)
  script_ready None p same h f g k = tt
  script_ready (Some s) p same h f g k =
      then_found self operating_of p.ctx (Ok p) (ctx_asked s) _ h
      (then_found config_of operating_of p.stored (Ok p) (start_asked p.ctx s) _ f
      (then_found self operating_of p.script (Ok p) (script_asked path s) _ g
      (then_found patched_all operating_of p.patches (Ok p) (patches_asked [] p.script s) _ k
      (record { gives = ap (λ (n : ℕ). Ok (with_budget p n)) (sym same); stands = tt }))))

-- ---- a goal

-- the patch fails, or leaves no configuration
pub no_aim : (ctx : Ctx) (ops : List Operation) (now : Config) (e : Outcome)
    → Gives {X = Config} self refusal (Err e) (target ops now) → RefusesAlways e
    → Found {X = Config} self (Err e) (aim_asked ctx ops now)
no_aim ctx ops now e gives always =
    first_refused {X = Config} self self e (follows (target ops now)) _
    (found_always self (Err e) (target ops now) _ (λ q same. same) gives always)

-- what it leaves is judged
pub aim_found : (ctx : Ctx) (ops : List Operation) (now goal : Config) (r : Result Config Outcome)
    → Gives self refusal (Ok goal) (target ops now)
    → Found self r (judged_asked ctx now goal) → Found self r (aim_asked ctx ops now)
aim_found ctx ops now goal r gives judged =
    then_found self self goal r (follows (target ops now)) _
    (found_always self (Ok goal) (target ops now) _ (λ q same. same) gives tt) judged
