-- The files stand for a configuration by the relation where the function that tells refusals gives it.
use Rattle.std.proofs.Common.{◌≡◌, ◌⊎◌, ◌↔◌, inl, inr, ℕ, zero, suc, ◌+◌, List, refl, sym, ap, ◌∙◌, Option, Some, None, Result, Ok, Err}
use Rattle.std.specs.FinMap.{get}
use Rattle.host_core.specs.Answers.{◌>>=◌}
use Rattle.host_core.specs.State.{Files}
use Rattle.conf_doc.specs.Configuration.{tree}
use Rattle.conf_doc.specs.Document.{Document}
use Rattle.conf_doc.specs.Reading.{document_of, json}
use Rattle.conf_doc.specs.Shaping.{configuration}
use Rattle.conf_doc.specs.declared.configuration.Config.{Config}
use Rattle.conf_store.specs.Files.{config_file, folded_file, last_step, step_name}
use Rattle.conf_store.specs.Stored.{after_all_steps, after_step, after_steps, config_in, or_none, or_unfolded, or_why, stored, unless_missing}
use Rattle.conf_store.specs.declared.errors.StoredWhy.{StoredWhy}
use Rattle.conf_store.specs.declared.errors.StoredWhy.TheVariants.{NoFile, BadJson, BadKind, BadShape, BadStep}
use Rattle.patch_core.specs.Apply.{apply_plain}
use Rattle.patch_core.specs.Operation.{Operation}
use Rattle.patch_core.specs.Reading.{patch}
use Rattle.gcu_engine.specs.Folder.{HoldsConfig, HoldsPatch, StandForSame, StepsMake, Stores}
use Rattle.gcu_engine.proofs.PatchResults.{first_ok, patched_is, then_ok}
use Rattle.gcu_engine.proofs.PatchTexts.{operations_are_held, there_value, value_there}

-- ---- a file of a configuration

none_told : {A : Type 0} (why : StoredWhy) (o : Option A) (a : A) → or_none why o ≡ Ok a → o ≡ Some a
none_told why None a h = absurd cc
none_told why (Some b) a h = let same : b ≡ a = cc in ap (λ x. Some x) same

why_told : {A E : Type 0} (why : StoredWhy) (r : Result A E) (a : A) → or_why why r ≡ Ok a → r ≡ Ok a
why_told why (Ok b) a h = let same : b ≡ a = cc in ap (λ x. Ok x) same
why_told why (Err e) a h = absurd cc

pub holds_config : (files : Files) (name bytes : List ℕ) (config : Config) → get files name ≡ Some bytes
    → config_in bytes ≡ Ok config → HoldsConfig files name config
holds_config files name bytes config at h =
    let (v, reads, of) = first_ok (or_none BadJson (json bytes))
    (λ v. or_why BadKind (document_of v) >>= λ d. or_why BadShape (configuration d)) config h in
    let (d, is, shapes) = first_ok (or_why BadKind (document_of v)) (λ d. or_why BadShape (configuration d)) config of in (
      bytes,
      d,
      at,
      none_told BadJson (json bytes) v reads
          ∙ ap (λ x. Some x) (value_there v d (why_told BadKind (document_of v) d is)),
      why_told BadShape (configuration d) config shapes,
    )

pub config_of_held : (files : Files) (name : List ℕ) (config : Config) → HoldsConfig files name config
    → (bytes : List ℕ) × (get files name ≡ Some bytes) × (config_in bytes ≡ Ok config)
config_of_held files name config (bytes, d, at, reads, shapes) = (bytes, at, rw (reads, there_value d, shapes) refl)

-- ---- step files

patch_held : (n : ℕ) (files : Files) (name bytes : List ℕ) (start goal : Config) → get files name ≡ Some bytes
    → after_step n bytes start ≡ Ok goal → HoldsPatch files name start goal
patch_held n files name bytes start goal at h =
    let (ops, reads, of) =
    first_ok (or_why (BadStep n) (patch bytes)) (λ ops. or_why (BadStep n) (apply_plain ops (tree start)) >>= λ d.
    or_why (BadStep n) (configuration d)) goal h in
    let (d, is, shapes) = first_ok (or_why (BadStep n) (apply_plain ops (tree start))) (λ d. or_why (BadStep n) (configuration d)) goal of in (
      bytes,
      ops,
      d,
      at,
      (operations_are_held bytes ops).1 (why_told (BadStep n) (patch bytes) ops reads),
      (patched_is ops (tree start) d).1 (why_told (BadStep n) (apply_plain ops (tree start)) d is),
      why_told (BadStep n) (configuration d) goal shapes,
    )

step_held : (n : ℕ) (bytes : List ℕ) (ops : List Operation) (d : Document) (start goal : Config) → patch bytes ≡ Ok ops
    → apply_plain ops (tree start) ≡ Ok d → configuration d ≡ Ok goal → after_step n bytes start ≡ Ok goal
step_held n bytes ops d start goal reads leads shapes =
    then_ok (or_why (BadStep n) (patch bytes)) (λ ops. or_why (BadStep n) (apply_plain ops (tree start)) >>= λ d.
    or_why (BadStep n) (configuration d)) ops goal
    (ap (or_why (BadStep n)) reads)
    (then_ok (or_why (BadStep n) (apply_plain ops (tree start))) (λ d. or_why (BadStep n) (configuration d)) d goal
    (ap (or_why (BadStep n)) leads) (ap (or_why (BadStep n)) shapes))

first_step : (n : ℕ) (files : Files) (behind : Config → Result Config StoredWhy) (start goal : Config)
    (o : Option (List ℕ)) → get files (step_name n) ≡ o → unless_missing o n behind start ≡ Ok goal
    → ((get files (step_name n) ≡ None) × (goal ≡ start))
    ⊎ ((next : Config) × HoldsPatch files (step_name n) start next × (behind next ≡ Ok goal))
first_step n files behind start goal None at h = let same : goal ≡ start = cc in inl (at, same)
first_step n files behind start goal (Some bytes) at h =
    let (next, is, more) = first_ok (after_step n bytes start) behind goal h in
    inr (next, patch_held n files (step_name n) bytes start next at is, more)

steps_make : (more n : ℕ) (files : Files) (start goal : Config) → after_steps more n files start ≡ Ok goal
    → StepsMake more n files start goal
steps_make zero n files start goal h = let same : goal ≡ start = cc in same
steps_make (suc more) n files start goal h =
    elim (first_step n files (after_steps more (n + 1) files) start goal (get files (step_name n)) refl h) [
      | inl end ↦ inl end
      | inr step ↦ inr (step.0, step.1, steps_make more (n + 1) files step.0 goal step.2)
    ]

make_steps : (more n : ℕ) (files : Files) (start goal : Config) → StepsMake more n files start goal
    → after_steps more n files start ≡ Ok goal
make_steps zero n files start goal same = ap (λ x. Ok x) (sym same)
make_steps (suc more) n files start goal (inl (end, same)) = rw end (ap (λ x. Ok x) (sym same))
make_steps (suc more) n files start goal (inr (next, (bytes, ops, d, at, held, leads, shapes), rest)) =
    rw at (then_ok (after_step n bytes start) (after_steps more (n + 1) files) next goal
    (step_held n bytes ops d start next ((operations_are_held bytes ops).0 held)
    ((patched_is ops (tree start) d).0 leads) shapes) (make_steps more (n + 1) files next goal rest))

-- ---- the folder

unfolded : (files : Files) (config : Config) → get files folded_file ≡ None → after_all_steps files ≡ Ok config
    → Stores files config
unfolded files config none h =
    let (bytes, at, of) = first_ok (or_none NoFile (get files config_file))
    (λ bytes. config_in bytes >>= λ c. after_steps last_step 1 files c) config h in
    let (first, is, steps) = first_ok (config_in bytes) (λ c. after_steps last_step 1 files c) config of in
    inr (
      first,
      none,
      holds_config files config_file bytes first (none_told NoFile (get files config_file) bytes at)
          is,
      steps_make last_step 1 files first config steps,
    )

stores_by : (files : Files) (config : Config) (o : Option (List ℕ)) → get files folded_file ≡ o
    → or_unfolded o (after_all_steps files) ≡ Ok config → Stores files config
stores_by files config None at h = unfolded files config at h
stores_by files config (Some bytes) at h = inl (holds_config files folded_file bytes config at h)

by_stores : (files : Files) (config : Config) → Stores files config → stored files ≡ Ok config
by_stores files config (inl held) =
    let (bytes, at, is) = config_of_held files folded_file config held in rw at is
by_stores files config (inr (first, none, held, steps)) =
    let (bytes, at, is) = config_of_held files config_file first held in
    rw (none, at) (then_ok (config_in bytes) (λ c. after_steps last_step 1 files c) first config is
    (make_steps last_step 1 files first config steps))

-- the files stand for a configuration where it is what is stored
pub stores_is : (files : Files) (config : Config) → Stores files config ↔ (stored files ≡ Ok config)
stores_is files config = (by_stores files config, λ h. stores_by files config (get files folded_file) refl h)

-- files of which the same is stored stand for the same
pub same_stands : (before after : Files) → stored after ≡ stored before → StandForSame before after
same_stands before after same config = (
  λ h. (stores_is after config).1 (same ∙ (stores_is before config).0 h),
  λ h. (stores_is before config).1 (sym same ∙ (stores_is after config).0 h),
)
