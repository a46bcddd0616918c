-- The files of a change, from one step to the next.
use Rattle.std.proofs.Common.{◌≡◌, ◌<◌, ◌≤◌, ◌⊎◌, inl, inr, ⊎_elim, ℕ, zero, suc, true, false, List, [], ◌∷◌, ◌++◌, length, Option, Some, None, Result, Ok, Err, refl, sym, ap, ◌∙◌, subst, arith}
use Rattle.std.specs.Prelude.{is_some, unwrap_or, slice_get, IsSome, IsTrue}
use Rattle.std.specs.FinMap.{get}
use Rattle.std.specs.List.{AllPass}
use Rattle.std.proofs.lemmas.Bool.{cases_lt}
use Rattle.std.proofs.lemmas.List.Elements.{All-nil, All-push}
use Rattle.host_core.specs.Answers.{◌>>=◌}
use Rattle.host_core.specs.State.{Files, with_file}
use Rattle.conf_doc.specs.Configuration.{tree}
use Rattle.conf_doc.specs.Shaping.{configuration}
use Rattle.conf_doc.specs.Texts.{file_text}
use Rattle.conf_doc.specs.declared.configuration.Config.{Config}
use Rattle.patch_core.specs.Apply.{result_of}
use Rattle.patch_core.specs.Reading.{patch}
use Rattle.conf_store.specs.Files.{config_file, folded_file, intent_file, is_step_name, last_step, scratch, step_name, step_names, without_scratch}
use Rattle.conf_store.specs.Folds.{IsFolded, StandsFor}
use Rattle.conf_store.specs.Puts.{IsPutOrNot, IsSame, put}
use Rattle.conf_store.specs.Steps.{CanStep, IsStep, IsStepPut, IsStepPutOrNot, IsStepped}
use Rattle.conf_store.specs.Stored.{after_all_steps, after_steps, config_in, or_none, or_unfolded, stored}
use Rattle.conf_store.specs.declared.loaded.Stored.{Stored}
use Rattle.conf_store.specs.declared.errors.StoredWhy.{StoredWhy}
use Rattle.conf_store.specs.declared.errors.StoredWhy.TheVariants.{NoFile}
use Rattle.conf_store.proofs.Digits.{names_same}
use Rattle.conf_store.proofs.Entries.{no_step, same_steps}
use Rattle.conf_store.proofs.FileMaps.{get_other, get_there}
use Rattle.conf_store.proofs.FoldResults.{by_config, by_folded, config_not_scratch, folded_not_scratch, same_stored, seen, step_not_scratch}
use Rattle.move_core.specs.Plans.{conf}
use Rattle.move_core.specs.declared.moves.Move.{Move}
use Rattle.change_apply.specs.Change.{Change, conf_at, goal, step_text, steps}
use Rattle.change_apply.specs.Crashes.{HasNothingToFold, HasSmallSteps, KeepsBytes, KeepsOthers, StandAt}
use Rattle.change_apply.specs.Intents.{HoldsGoal}
use Rattle.change_apply.specs.Stages.{AreAllFolded, AreSteps, IsIntended, first_steps}
use Rattle.change_apply.proofs.IntentNames.{intent_not_scratch, intent_other}
use Rattle.change_apply.proofs.StepNames.{IsBehind, behind, behind_more, last_put, named}

-- ---- small facts

nothing_there : (o : Option (List ℕ)) → is_some o ≡ false → o ≡ None
nothing_there None e = refl
nothing_there (Some x) e = absurd cc

some_there : (o : Option (List ℕ)) (x : List ℕ) → o ≡ Some x → IsSome o
some_there None x e = cc
some_there (Some y) x e = refl

same_some : {A : Type 0} (x y : A) → Some x ≡ Some y → x ≡ y
same_some x y e = cc

same_ok : {A E : Type 0} (r : Result A E) (x y : A) → r ≡ Ok x → r ≡ Ok y → x ≡ y
same_ok r x y e f = let both : Ok x ≡ Ok y = sym e ∙ f in cc

at_index : {A : Type 0} (xs : List A) (i : ℕ) → i < length xs → (x : A) × (slice_get xs i ≡ Some x)
at_index [] i low = absurd (omega (arith, low))
at_index (x ∷ xs) zero low = (x, refl)
at_index (x ∷ xs) (suc i) low = at_index xs i (omega (arith, low))

-- a name of a step file is none that isn't one
pub no_step_name : (q : List ℕ) (n : ℕ) → is_step_name q ≡ false → q ≡ step_name n → ⊥
no_step_name q n isnt e = apart (sym (ap is_step_name e ∙ named n) ∙ isnt)
  where
    apart : true ≡ false → ⊥
    apart h = cc

-- a step makes one configuration of another
pub same_next : (bytes : List ℕ) (a b c : Config) → IsStep bytes a b → IsStep bytes a c → b ≡ c
same_next bytes a b c s t =
    let ops : s.op ∷ [] ≡ t.op ∷ [] = same_ok (patch bytes) (s.op ∷ []) (t.op ∷ []) s.holds t.holds in
    let op : s.op ≡ t.op = cc in
    let left : s.left ≡ t.left = same_ok (result_of t.op (tree a)) s.left t.left (subst (λ o. result_of o (tree a) ≡ Ok s.left) op s.leads) t.leads in
    same_ok (configuration t.left) b c (subst (λ d. configuration d ≡ Ok b) left s.shaped) t.shaped

-- the names of more steps stand behind those of fewer
pub behind_first : (k n : ℕ) → k < n → n ≤ last_step → IsBehind (step_name n) (first_steps k)
behind_first zero n more small = tt
behind_first (suc k) n more small =
    behind_more (step_name n) (step_name (suc k)) (first_steps k) (behind_first k n (omega (arith, more)) small) (behind (suc k) n more small)

pub all_named : (k : ℕ) → AllPass is_step_name (first_steps k)
all_named zero = All-nil (λ q. is_step_name q ≡ true)
all_named (suc k) = All-push (λ q. is_step_name q ≡ true) (first_steps k) (step_name (suc k)) (all_named k) (named (suc k))

-- ---- before the first step

pub conf_start : (c : Config) (ms : List Move) → conf c ms 0 ≡ c
conf_start c [] = refl
conf_start c (m ∷ ms) = refl

pub at_start : (change : Change) → ◌≡◌ {A = Result Config StoredWhy} (Ok change.stored.config) (Ok (conf_at change 0))
at_start change = ap (λ (c : Config). Ok c) (sym (conf_start change.stored.config change.moves))

-- something is to be folded
abbrev pub IsToFold : Stored → Type 0
IsToFold what = what.steps ≡ [] → what.folded ≡ false → ⊥

-- what a test for that says
pub untested : (what : Stored) → ((what.steps ≡ []) × (what.folded ≡ false) → IsTrue false) → IsToFold what
untested what test none isnt = let never : IsTrue false = test (none, isnt) in absurd cc

pub not_folded_yet : (what : Stored) (before : Files) → StandsFor what before → IsToFold what → HasNothingToFold before → ⊥
not_folded_yet what before stood some nothing =
    some (sym stood.steps ∙ nothing.steps) (sym stood.folded ∙ ap (λ (o : Option (List ℕ)). is_some o) nothing.unfolded)

module _ (change : Change) (before f : Files) (is : IsIntended change before f) where
  -- where there is nothing to fold
  pub begins_unfolded : change.stored.steps ≡ [] → change.stored.folded ≡ false → AreSteps change 0 before f
  begins_unfolded none isnt = found (get f config_file) refl
    where
      unfolded : get f folded_file ≡ None
      unfolded = nothing_there (get f folded_file) (is.stands.folded ∙ isnt)

      no_steps_there : step_names f ≡ []
      no_steps_there = is.stands.steps ∙ none

      found : (o : Option (List ℕ)) → get f config_file ≡ o → AreSteps change 0 before f
      found None e =
          let fails : stored f ≡ Err NoFile =
          ap (λ (o : Option (List ℕ)). or_unfolded o (after_all_steps f)) unfolded
          ∙ ap (λ (o : Option (List ℕ)). or_none NoFile o >>= λ bytes. config_in bytes >>= λ c. after_steps last_step 1 f c) e in
          let both : Ok change.stored.config ≡ Err NoFile = sym is.stands.config ∙ fails in
          absurd cc
      found (Some bytes) e = record {
        small = record {
          bytes = bytes;
          config = e;
          holds = sym (by_config bytes f unfolded e (no_step f (step_name 1) no_steps_there refl)) ∙ is.stands.config;
          steps = λ i m low there. absurd (omega (arith, low));
          unfolded = unfolded;
        };
        missing = λ n more small. no_step f (step_name n) no_steps_there (named n);
        names = no_steps_there;
        stands = is.stands.config ∙ at_start change;
        intent = is.intent;
        others = is.others;
        kept = λ nothing. is.config;
      }

  -- and where there is
  pub begins_folded : IsToFold change.stored → (bytes : List ℕ) → config_in bytes ≡ Ok change.stored.config → (g : Files)
      → IsFolded bytes f g → AreSteps change 0 before g
  begins_folded some bytes holds g folded = record {
    small = record {
      bytes = unwrap_or (get f folded_file) bytes;
      config = folded.config;
      holds = held (get f folded_file) refl;
      steps = λ i m low there. absurd (omega (arith, low));
      unfolded = folded.folded;
    };
    missing = λ n more small. no_step g (step_name n) folded.steps (named n);
    names = folded.steps;
    stands = by_config (unwrap_or (get f folded_file) bytes) g folded.folded folded.config (no_step g (step_name 1) folded.steps refl) ∙ held (get f folded_file) refl ∙ at_start change;
    intent = folded.others intent_file intent_other ∙ is.intent;
    others = λ q other apart. folded.others q other ∙ is.others q other apart;
    kept = λ nothing. absurd (not_folded_yet change.stored before is.stood some nothing);
  }
    where
      held : (o : Option (List ℕ)) → get f folded_file ≡ o → config_in (unwrap_or o bytes) ≡ Ok change.stored.config
      held None e = holds
      held (Some b) e = sym (by_folded b f e) ∙ is.stands.config

-- ---- a step more

module _ (change : Change) (k : ℕ) (before f : Files) (at : AreSteps change k before f) where
  pub may_step : (m : Move) → slice_get change.moves k ≡ Some m → suc k ≤ last_step
      → IsStep (step_text m) (conf_at change k) (conf_at change (suc k)) → k < steps change → CanStep (step_name (suc k)) (step_text m) f
  may_step m is small leads within = record {
    unfolded = at.small.unfolded;
    next_step = record {
      number = suc k;
      named = refl;
      first = omega arith;
      last = small;
      there = there;
      missing = λ n more few. at.missing n (omega (arith, more)) few;
    };
    start = conf_at change k;
    stood = at.stands;
    next = conf_at change (suc k);
    step = leads;
  }
    where
      there : (n : ℕ) → 1 ≤ n → n < suc k → IsSome (get f (step_name n))
      there zero one less = absurd (omega (arith, one))
      there (suc i) one less =
          let found = at_index change.moves i (omega (arith, less, within)) in
          some_there (get f (step_name (suc i))) (step_text found.0) (at.small.steps i found.0 (omega (arith, less)) found.1)

  module _ (m : Move) (is : slice_get change.moves k ≡ Some m) (small : suc k ≤ last_step)
      (leads : IsStep (step_text m) (conf_at change k) (conf_at change (suc k))) where
    abbrev name : List ℕ
    name = step_name (suc k)

    stepped : (g : Files) → IsStepped (step_text m) f g → stored g ≡ Ok (conf_at change (suc k))
    stepped g by =
        let start : by.start ≡ conf_at change k = same_ok (stored f) by.start (conf_at change k) by.stood at.stands in
        let next : by.next ≡ conf_at change (suc k) =
        same_next (step_text m) (conf_at change k) by.next (conf_at change (suc k)) (subst (λ c. IsStep (step_text m) c by.next) start by.step) leads in
        by.stands ∙ ap (λ (c : Config). Ok c) next

    other_step : (n : ℕ) → n ≤ last_step → (n ≡ suc k → ⊥) → step_name n ≡ name → ⊥
    other_step n few apart e = apart (names_same n (suc k) few small e)

    -- with all but the step's file as before, the first steps are there
    still_small : (g : Files) → ((q : List ℕ) → (q ≡ scratch → ⊥) → (q ≡ name → ⊥) → get g q ≡ get f q) → HasSmallSteps change k g
    still_small g alike = record {
      bytes = at.small.bytes;
      config = alike config_file config_not_scratch (no_step_name config_file (suc k) refl) ∙ at.small.config;
      holds = at.small.holds;
      steps = λ i n low there. alike (step_name (suc i)) (step_not_scratch (suc i)) (other_step (suc i) (omega (arith, low, small)) (λ e. omega (arith, e, low))) ∙ at.small.steps i n low there;
      unfolded = alike folded_file folded_not_scratch (no_step_name folded_file (suc k) refl) ∙ at.small.unfolded;
    }

    still_others : (g : Files) → ((q : List ℕ) → (q ≡ scratch → ⊥) → (q ≡ name → ⊥) → get g q ≡ get f q) → KeepsOthers before g
    still_others g alike = λ q other apart. alike q other.not_scratch (no_step_name q (suc k) other.not_step) ∙ at.others q other apart

    still_intent : (g : Files) → ((q : List ℕ) → (q ≡ scratch → ⊥) → (q ≡ name → ⊥) → get g q ≡ get f q) → HoldsGoal change g
    still_intent g alike = alike intent_file intent_not_scratch (no_step_name intent_file (suc k) refl) ∙ at.intent

    still_kept : (g : Files) → ((q : List ℕ) → (q ≡ scratch → ⊥) → (q ≡ name → ⊥) → get g q ≡ get f q) → KeepsBytes before g
    still_kept g alike = λ nothing. alike config_file config_not_scratch (no_step_name config_file (suc k) refl) ∙ at.kept nothing

    -- put or not
    alike_either : (g : Files) → IsPutOrNot name (step_text m) f g → (q : List ℕ) → (q ≡ scratch → ⊥) → (q ≡ name → ⊥) → get g q ≡ get f q
    alike_either g either q hidden apart =
        ⊎_elim (λ same. seen f g same q hidden)
        (λ same. seen (with_file name (Some (step_text m)) f) g same q hidden ∙ get_other name (Some (step_text m)) f q apart) either

    pub either_small : (g : Files) → IsStepPutOrNot name (step_text m) f g → HasSmallSteps change k g
    either_small g either = still_small g (alike_either g either.files)

    pub either_others : (g : Files) → IsStepPutOrNot name (step_text m) f g → KeepsOthers before g
    either_others g either = still_others g (alike_either g either.files)

    pub either_intent : (g : Files) → IsStepPutOrNot name (step_text m) f g → HoldsGoal change g
    either_intent g either = still_intent g (alike_either g either.files)

    pub either_kept : (g : Files) → IsStepPutOrNot name (step_text m) f g → KeepsBytes before g
    either_kept g either = still_kept g (alike_either g either.files)

    -- with the step's file too there is one step more
    next_small : (g : Files) → ((q : List ℕ) → (q ≡ scratch → ⊥) → (q ≡ name → ⊥) → get g q ≡ get f q) → get g name ≡ Some (step_text m)
        → HasSmallSteps change (suc k) g
    next_small g alike found =
        let first = still_small g alike in
        record {
          bytes = first.bytes;
          config = first.config;
          holds = first.holds;
          steps = λ i n low there. at_step i n (cases_lt i k) low there;
          unfolded = first.unfolded;
        }
      where
        at_step : (i : ℕ) (n : Move) → (i < k) ⊎ (k ≤ i) → i < suc k → slice_get change.moves i ≡ Some n → get g (step_name (suc i)) ≡ Some (step_text n)
        at_step i n (inl low) less there = (still_small g alike).steps i n low there
        at_step i n (inr high) less there =
            let here : i ≡ k = omega (arith, high, less) in
            let same : n ≡ m = same_some n m (sym there ∙ ap (slice_get change.moves) here ∙ is) in
            ap (λ j. get g (step_name (suc j))) here ∙ found ∙ ap (λ n. Some (step_text n)) (sym same)

    unwritten : (g : Files) → IsSame f g → stored g ≡ Ok (conf_at change k)
    unwritten g same =
        same_stored f g (seen f g same folded_file folded_not_scratch) (seen f g same config_file config_not_scratch)
        (λ n. seen f g same (step_name n) (step_not_scratch n))
        ∙ at.stands

    pub either_stands : k < steps change → (g : Files) → IsStepPutOrNot name (step_text m) f g → StandAt change k g
    either_stands within g either = by either.files either.stands
      where
        by : IsPutOrNot name (step_text m) f g → (stored g ≡ stored f) ⊎ IsStepped (step_text m) f g → StandAt change k g
        by (inl same) which = inl (unwritten g same)
        by (inr same) (inl stood) = inl (stood ∙ at.stands)
        by (inr same) (inr moved) = inr (record {
          within = within;
          stands = stepped g moved;
          small = next_small g (alike_either g (inr same))
              (seen (with_file name (Some (step_text m)) f) g same name (step_not_scratch (suc k)) ∙ get_there name (Some (step_text m)) f);
          intent = still_intent g (alike_either g (inr same));
        })

    -- put
    alike_put : (q : List ℕ) → (q ≡ scratch → ⊥) → (q ≡ name → ⊥) → get (put name (step_text m) f) q ≡ get f q
    alike_put q hidden apart =
        get_other name (Some (step_text m)) (without_scratch f) q apart ∙ get_other scratch None f q hidden

    steps_seen : step_names (without_scratch f) ≡ first_steps k
    steps_seen = same_steps (without_scratch f) f (λ q a_step. get_other scratch None f q (not_hidden q a_step)) ∙ at.names
      where
        not_hidden : (q : List ℕ) → is_step_name q ≡ true → q ≡ scratch → ⊥
        not_hidden q a_step e = let both : true ≡ false = sym a_step ∙ ap is_step_name e in cc

    pub one_more : IsStepPut name (step_text m) f (put name (step_text m) f) → AreSteps change (suc k) before (put name (step_text m) f)
    one_more by = record {
      small = next_small (put name (step_text m) f) alike_put (get_there name (Some (step_text m)) (without_scratch f));
      missing = λ n more few. alike_put (step_name n) (step_not_scratch n) (other_step n few (λ e. omega (arith, e, more))) ∙ at.missing n (omega (arith, more)) few;
      names =
          last_put name (step_text m) (named (suc k)) (without_scratch f) (subst (IsBehind name) (sym steps_seen) (behind_first k (suc k) (omega arith) small))
          ∙ ap (λ (names : List (List ℕ)). names ++ name ∷ []) steps_seen;
      stands = stepped (put name (step_text m) f) by.stepped;
      intent = still_intent (put name (step_text m) f) alike_put;
      others = still_others (put name (step_text m) f) alike_put;
      kept = still_kept (put name (step_text m) f) alike_put;
    }

-- ---- the last fold

module _ (change : Change) (before f : Files) (at : AreSteps change (steps change) before f) where
  config_after : (g : Files) → IsFolded (file_text (goal change)) f g → get g config_file ≡ Some (file_text (goal change))
  config_after g folded = folded.config ∙ ap (λ (o : Option (List ℕ)). Some (unwrap_or o (file_text (goal change)))) at.small.unfolded

  pub all_folded : config_in (file_text (goal change)) ≡ Ok (goal change) → (g : Files) → IsFolded (file_text (goal change)) f g → AreAllFolded change before g
  all_folded holds g folded = record {
    config_text = config_after g folded;
    names = folded.steps;
    folded = folded.folded;
    stands = by_config (file_text (goal change)) g folded.folded (config_after g folded) (no_step g (step_name 1) folded.steps refl) ∙ holds;
    intent = folded.others intent_file intent_other ∙ at.intent;
    others = λ q other apart. folded.others q other ∙ at.others q other apart;
  }
