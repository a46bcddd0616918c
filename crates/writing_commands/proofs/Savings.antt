-- A checkpoint that is saved: what is found, and when it is right to save it.
use Rattle.std.proofs.Common.{◌≡◌, ◌⊎◌, ◌++◌, ◌∷◌, inl, inr, Bool, true, false, List, ℕ, [], refl, sym, subst, Option, Some, None, Result, Ok, Err, IfSome, option_map}
use Rattle.std.specs.Prelude.{IsSome}
use Rattle.std.specs.FinMap.{get}
use Rattle.host_core.specs.State.{State, settled, with_pending}
use Rattle.conf_doc.specs.declared.configuration.Config.{Config}
use Rattle.checkpoints.specs.Answers.{IsInTheWay}
use Rattle.checkpoints.specs.Changes.{IsSaved, IsSavedOrNot}
use Rattle.checkpoints.specs.Names.{is_good_name}
use Rattle.checkpoints.specs.Numbers.{is_full}
use Rattle.checkpoints.specs.Points.{Held, points}
use Rattle.gcu_output.specs.declared.outcomes.Outcome.{Outcome}
use Rattle.gcu_output.specs.declared.outcomes.Outcome.TheVariants.{BadName, DiskFault}
use Rattle.gcu_inputs.specs.Asking.{Asking, a_settling, follows, follows_by, settles_first, ◌>>>◌}
use Rattle.gcu_inputs.specs.IntentAsked.{uninterrupted}
use Rattle.gcu_inputs.specs.ModelFiles.{AreModels, File, bytes_asked, files_asked, model_limit, models_asked, paths_asked, texts_in}
use Rattle.gcu_inputs.specs.Preparing.{Finds, Found}
use Rattle.gcu_inputs.specs.StoredAsked.{stored_asked}
use Rattle.gcu_requests.specs.Asked.{absent_answer, absent_asked, save_asked}
use Rattle.gcu_requests.specs.Checking.{IsJudged, check_asked}
use Rattle.gcu_requests.specs.Request as request
use Rattle.gcu_requests.specs.Request.{Request}
use Rattle.gcu_inputs.proofs.Finding.{first_refused, then_found}
use Rattle.writing_commands.proofs.Writing.{FindsUnit, IsWriting}

-- what saving does to the files
pub saving : (name : List ℕ) (config : Config)
    → IsWriting (request.save_checkpoint name config) (IsSaved name config) (IsSavedOrNot name config)
saving name config = record {
  done = λ before files h. (files, refl, h);
  stopped = λ before now h. (refl, h);
  doing = λ before left h. h;
  says = refl;
}

-- ---- what is asked of the settled folder

-- what is pending tells nothing of the inputs
pub files_settled : (found : List File) (paths : List (List ℕ)) (s : State)
    → files_asked found paths (with_pending settled s) ≡ files_asked found paths s
files_settled found [] s = refl
files_settled found (path ∷ paths) s =
    λ i. bytes_asked path model_limit s >>> λ bytes. files_settled (found ++ (path, bytes) ∷ []) paths s i

-- so the models are the same once all is settled
pub models_settled : (s : State) → models_asked (with_pending settled s) ≡ models_asked s
models_settled s = λ i.
    (paths_asked s >>> λ paths. files_settled [] paths s i >>> λ files. follows (texts_in [] files)) >>> λ texts.
    follows_by (AreModels texts)

-- so a check asks the same
check_settled : (s : State) → check_asked (with_pending settled s) ≡ check_asked s
check_settled s = λ i.
    uninterrupted s >>> λ _.
    models_settled s i >>> λ models.
    stored_asked s >>> λ start.
    follows_by (IsJudged models start)

-- what the saving asks once it is settled
abbrev behind : List ℕ → State → Asking Request
behind name s = check_asked s >>> λ _. stored_asked s >>> λ start. absent_asked name start s

module _ (s : State) (name : List ℕ) (r : Request) (result : Result (Unit {0}) Outcome)
    (good : is_good_name name ≡ true) where
  abbrev of_it : Unit {0} → Request
  of_it u = r

  behind_found : Found of_it result (behind name s) → Found of_it result (save_asked name s)
  behind_found h =
      rw good
      (then_found (λ n. n) of_it name result (follows (Ok name)) (λ n. settles_first >>> λ _. behind n s)
      (record { gives = refl; stands = tt })
      (then_found (λ u. u) of_it tt result settles_first (λ _. behind name s) (record { gives = refl; stands = tt }) h))

-- ---- what is found

pub bad_name_found : (o : Option State) (name : List ℕ) (r : Request) → is_good_name name ≡ false
    → FindsUnit o r (Err (BadName name)) (save_asked name)
bad_name_found None name r bad = tt
bad_name_found (Some s) name r bad = rw bad (record { gives = inl refl; stands = tt })

pub settling_fault_found : (o : Option State) (name : List ℕ) (r : Request) (step : ℕ) → is_good_name name ≡ true
    → FindsUnit o r (Err (DiskFault step)) (save_asked name)
settling_fault_found None name r step good = tt
settling_fault_found (Some s) name r step good =
    rw good (record { gives = tt; stands = inr (name, refl, inl (inr refl)) })

-- the stored configuration isn't there or isn't valid
pub not_valid_found : (o mid : Option State) (name : List ℕ) (r : Request) (e : Outcome) → is_good_name name ≡ true
    → mid ≡ option_map (with_pending settled) o
    → Finds {X = Config} mid (λ c. request.check) (Err e) check_asked → FindsUnit o r (Err e) (save_asked name)
not_valid_found None mid name r e good is h = tt
not_valid_found (Some s) mid name r e good is h =
    let checked : Found {X = Config} (λ c. request.check) (Err e) (check_asked s) =
    subst (λ a. Found {X = Config} (λ c. request.check) (Err e) a) (check_settled s)
    (subst (λ m. Finds {X = Config} m (λ c. request.check) (Err e) check_asked) is h) in
    behind_found s name r (Err e) good
    (first_refused (λ (c : Config). request.check) (λ (u : Unit {0}). r) e (check_asked s)
    (λ _. stored_asked s >>> λ start. absent_asked name start s) checked)

-- it is valid
pub saving_found : (o mid : Option State) (name : List ℕ) (config : Config) (result : Result (Unit {0}) Outcome)
    → is_good_name name ≡ true
    → mid ≡ option_map (with_pending settled) o
    → Finds {X = Config} mid (λ c. request.check) (Ok config) check_asked
    → Finds {X = Config} mid (λ c. config) (Ok config) stored_asked
    → FindsUnit mid (request.save_checkpoint name config) result (absent_asked name config)
    → FindsUnit o (request.save_checkpoint name config) result (save_asked name)
saving_found None mid name config result good is valid there absent = tt
saving_found (Some s) mid name config result good is valid there absent =
    let of_it : Unit {0} → Request = λ u. request.save_checkpoint name config in
    let checked : Found {X = Config} (λ c. request.check) (Ok config) (check_asked s) =
    subst (λ a. Found {X = Config} (λ c. request.check) (Ok config) a) (check_settled s)
    (subst (λ m. Finds {X = Config} m (λ c. request.check) (Ok config) check_asked) is valid) in
    behind_found s name (request.save_checkpoint name config) result good
    (then_found (λ (c : Config). request.check) of_it config result (check_asked s)
    (λ _. stored_asked s >>> λ start. absent_asked name start s) checked
    (then_found (λ (c : Config). config) of_it config result (stored_asked s) (λ start. absent_asked name start s)
    (subst (λ m. Finds {X = Config} m (λ c. config) (Ok config) stored_asked) is there)
    (subst (λ m. FindsUnit m (request.save_checkpoint name config) result (absent_asked name config)) is absent)))

-- what is pending is settled where the name is good
pub settling_reads : (o : Option State) (name : List ℕ) → is_good_name name ≡ true
    → IfSome o (λ s. (save_asked name s).Reads a_settling)
settling_reads None name good = tt
settling_reads (Some s) name good = rw good (inr (name, refl, inl (inl refl)))

-- ---- what may be saved

-- it is right to save a checkpoint that isn't there, where a number is left
saving_given : (name : List ℕ) (config : Config) (s : State) → is_good_name name ≡ true
    → (check_asked s).Gives (Ok request.check) → (stored_asked s).Gives (Ok config) → is_full s.files ≡ false
    → get (points s.files) name ≡ None
    → (save_asked name s).Gives (Ok (request.save_checkpoint name config))
saving_given name config s good valid there room absent =
    rw good
    (inr (
      name,
      refl,
      inr (
        tt,
        refl,
        inr (
          request.check,
          valid,
          inr (
            config,
            there,
            λ i. absent_answer name config (room i)
                (absent i),
          ),
        ),
      ),
    ))

-- it is right to save it, or what holds where something is in the way
pub may_save : (o mid : Option State) (name : List ℕ) (config : Config) (Nothing : Type 0) → is_good_name name ≡ true
    → mid ≡ option_map (with_pending settled) o
    → Finds {X = Config} mid (λ c. request.check) (Ok config) check_asked
    → Finds {X = Config} mid (λ c. config) (Ok config) stored_asked
    → IfSome mid (λ t. IsInTheWay name t.files → Nothing)
    → IfSome o (λ s. (save_asked name s).Gives (Ok (request.save_checkpoint name config)) ⊎ Nothing)
may_save None mid name config Nothing good is valid there reads = tt
may_save (Some s) mid name config Nothing good is valid there reads =
    by (get (points s.files) name) refl (is_full s.files) refl
    (subst (λ m. IfSome m (λ t. IsInTheWay name t.files → Nothing)) is reads)
  where
    checked : (check_asked s).Gives (Ok request.check)
    checked =
        subst (λ a. a.Gives (Ok request.check)) (check_settled s)
        (subst (λ m. Finds {X = Config} m (λ c. request.check) (Ok config) check_asked) is valid).gives

    stood : (stored_asked s).Gives (Ok config)
    stood = (subst (λ m. Finds {X = Config} m (λ c. config) (Ok config) stored_asked) is there).gives

    by : (o : Option Held) → get (points s.files) name ≡ o → (full : Bool) → is_full s.files ≡ full
        → (IsInTheWay name s.files → Nothing)
        → (save_asked name s).Gives (Ok (request.save_checkpoint name config)) ⊎ Nothing
    by None absent false room reads = inl (saving_given name config s good checked stood room absent)
    by None absent true full reads = inr (reads (inr full))
    by (Some held) is full room reads = inr (reads (inl (subst (λ o. IsSome o) (sym is) refl)))
