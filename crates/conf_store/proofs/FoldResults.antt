-- What files stand for after the changes of a fold.
use Rattle.std.proofs.Common.{◌≡◌, ℕ, zero, suc, ◌+◌, true, false, List, [], Option, Some, None, Result, Ok, Err, get_or, inr, ⊎_elim, refl, sym, ap, ◌∙◌, subst, arith}
use Rattle.std.specs.Prelude.{is_some, unwrap_or}
use Rattle.std.specs.FinMap.{get}
use Rattle.host_core.specs.Answers.{◌>>=◌}
use Rattle.host_core.specs.State.{Files, rename, with_file}
use Rattle.conf_doc.specs.declared.configuration.Config.{Config}
use Rattle.conf_store.specs.Clearing.{IsClearing, IsDone, IsDoneOrNot, KeepsRest}
use Rattle.conf_store.specs.Files.{config_file, folded_file, is_step_name, last_step, scratch, step_name, step_names}
use Rattle.conf_store.specs.Folds.{IsBegun, IsFolded, KeepsStored}
use Rattle.conf_store.specs.Puts.{IsPutOrNot, IsSame, put}
use Rattle.conf_store.specs.Stored.{after_all_steps, after_steps, config_in, or_none, or_unfolded, stored, unless_missing}
use Rattle.conf_store.specs.declared.errors.StoredWhy.{StoredWhy}
use Rattle.conf_store.specs.declared.errors.StoredWhy.TheVariants.{NoFile}
use Rattle.conf_store.proofs.Entries.{no_step, same_steps}
use Rattle.conf_store.proofs.FileMaps.{get_other, get_there, gone_twice}

-- ---- names apart

apart_at : (i : ℕ) (xs ys : List ℕ) → (get_or xs i 0 ≡ get_or ys i 0 → ⊥) → xs ≡ ys → ⊥
apart_at i xs ys differ e = differ (ap (λ (l : List ℕ). get_or l i 0) e)

pub folded_not_scratch : folded_file ≡ scratch → ⊥
folded_not_scratch = apart_at 0 folded_file scratch (λ (e : 99 ≡ 116). omega arith)

pub config_not_scratch : config_file ≡ scratch → ⊥
config_not_scratch = apart_at 0 config_file scratch (λ (e : 99 ≡ 116). omega arith)

folded_not_config : folded_file ≡ config_file → ⊥
folded_not_config = apart_at 10 folded_file config_file (λ (e : 102 ≡ 106). omega arith)

pub step_not_scratch : (n : ℕ) → step_name n ≡ scratch → ⊥
step_not_scratch n = apart_at 0 (step_name n) scratch (λ (e : 115 ≡ 116). omega arith)

-- a name of a step file is none that is no such name
not_that : (q name : List ℕ) → is_step_name q ≡ true → is_step_name name ≡ false → q ≡ name → ⊥
not_that q name a_step isnt e = apart (sym a_step ∙ ap is_step_name e ∙ isnt)
  where
    apart : true ≡ false → ⊥
    apart h = cc

-- ---- what the stored configuration goes by

steps_alike : (f g : Files) → ((n : ℕ) → get g (step_name n) ≡ get f (step_name n)) → (more n : ℕ) (c : Config)
    → after_steps more n g c ≡ after_steps more n f c
steps_alike f g alike zero n c = refl
steps_alike f g alike (suc more) n c =
    λ i. unless_missing (alike n i) n (λ d. steps_alike f g alike more (n + 1) d i) c

-- files that agree on what is read stand for the same
pub same_stored : (f g : Files) → get g folded_file ≡ get f folded_file → get g config_file ≡ get f config_file
    → ((n : ℕ) → get g (step_name n) ≡ get f (step_name n)) → stored g ≡ stored f
same_stored f g folded config steps =
    λ i. or_unfolded (folded i) (or_none NoFile (config i) >>= λ bytes. config_in bytes >>= λ c. steps_alike f g steps last_step 1 c i)

-- the folded file is what is read where it is there
pub by_folded : (bytes : List ℕ) (files : Files) → get files folded_file ≡ Some bytes → stored files ≡ config_in bytes
by_folded bytes files e = ap (λ (found : Option (List ℕ)). or_unfolded found (after_all_steps files)) e

pub no_steps : (more n : ℕ) (files : Files) (c : Config) → get files (step_name n) ≡ None → after_steps more n files c ≡ Ok c
no_steps zero n files c e = refl
no_steps (suc more) n files c e = ap (λ (found : Option (List ℕ)). unless_missing found n (after_steps more (n + 1) files) c) e

pub ends_there : (r : Result Config StoredWhy) (next : Config → Result Config StoredWhy) → ((c : Config) → next c ≡ Ok c) → (r >>= next) ≡ r
ends_there (Ok c) next ends = ends c
ends_there (Err why) next ends = refl

-- without a folded file and step files it is the other file
pub by_config : (bytes : List ℕ) (files : Files) → get files folded_file ≡ None → get files config_file ≡ Some bytes
    → get files (step_name 1) ≡ None → stored files ≡ config_in bytes
by_config bytes files folded config step =
    ap (λ (found : Option (List ℕ)). or_unfolded found (after_all_steps files)) folded
    ∙ ap (λ (found : Option (List ℕ)). or_none NoFile found >>= λ b. config_in b >>= λ c. after_steps last_step 1 files c) config
    ∙ ends_there (config_in bytes) (λ c. after_steps last_step 1 files c) (λ c. no_steps last_step 1 files c step)

-- ---- the folded file put

pub seen : (f g : Files) → IsSame f g → (q : List ℕ) → (q ≡ scratch → ⊥) → get g q ≡ get f q
seen f g same q apart =
    sym (get_other scratch None g q apart) ∙ ap (λ (m : Files). get m q) same ∙ get_other scratch None f q apart

pub keeps_itself : (files : Files) → KeepsStored files files
keeps_itself files = record { same = refl; others = λ q other. refl }

module _ (bytes : List ℕ) (c : Config) (holds : config_in bytes ≡ Ok c) where
  -- put or not
  pub keeps_put : (f g : Files) → stored f ≡ Ok c → IsPutOrNot folded_file bytes f g → KeepsStored f g
  keeps_put f g stands either = ⊎_elim not_put is_put either
    where
      not_put : IsSame f g → KeepsStored f g
      not_put alike = record {
        same = same_stored f g (seen f g alike folded_file folded_not_scratch) (seen f g alike config_file config_not_scratch) (λ n. seen f g alike (step_name n) (step_not_scratch n));
        others = λ q other. seen f g alike q other.not_scratch;
      }

      is_put : IsSame (with_file folded_file (Some bytes) f) g → KeepsStored f g
      is_put alike = record {
        same = by_folded bytes g (seen (with_file folded_file (Some bytes) f) g alike folded_file folded_not_scratch ∙ get_there folded_file (Some bytes) f) ∙ holds ∙ sym stands;
        others = λ q other. seen (with_file folded_file (Some bytes) f) g alike q other.not_scratch ∙ get_other folded_file (Some bytes) f q other.not_folded;
      }

  no_file : (found : Option (List ℕ)) → is_some found ≡ false → Some bytes ≡ Some (unwrap_or found bytes)
  no_file None e = refl
  no_file (Some b) e = absurd cc

  pub begun_put : (f g : Files) → stored f ≡ Ok c → is_some (get f folded_file) ≡ false → g ≡ put folded_file bytes f → IsBegun bytes f g
  begun_put f g stands none e = record {
    folded = ap (λ (m : Files). get m folded_file) e ∙ get_there folded_file (Some bytes) (with_file scratch None f) ∙ no_file (get f folded_file) none;
    steps = same_steps g f (λ q a_step. ap (λ (m : Files). get m q) e
        ∙ get_other folded_file (Some bytes) (with_file scratch None f) q (not_that q folded_file a_step refl)
        ∙ get_other scratch None f q (not_that q scratch a_step refl));
    kept = keeps_put f g stands (inr (ap (with_file scratch None) e ∙ gone_twice scratch folded_file (Some bytes) f));
  }

pub begun_there : (bytes : List ℕ) (f : Files) → is_some (get f folded_file) ≡ true → IsBegun bytes f f
begun_there bytes f there = record {
  folded = whole (get f folded_file) there;
  steps = refl;
  kept = keeps_itself f;
}
  where
    whole : (found : Option (List ℕ)) → is_some found ≡ true → found ≡ Some (unwrap_or found bytes)
    whole None e = absurd cc
    whole (Some b) e = refl

-- ---- the steps taken away, and the folded file renamed

module _ (bytes : List ℕ) (s f : Files) (begun : IsBegun bytes s f) where
  abbrev held : List ℕ
  held = unwrap_or (get s folded_file) bytes

  stands_held : stored s ≡ config_in held
  stands_held = sym begun.kept.same ∙ by_folded held f begun.folded

  pub still_folded : (t : Files) → KeepsRest f t → get t folded_file ≡ Some held
  still_folded t rest = rest folded_file refl ∙ begun.folded

  pub keeps_clearing : (t : Files) → KeepsRest f t → KeepsStored s t
  keeps_clearing t rest = record {
    same = by_folded held t (still_folded t rest) ∙ sym stands_held;
    others = λ q other. rest q other.not_step ∙ begun.kept.others q other;
  }

  abbrev ended : Files → Files
  ended t = rename folded_file config_file t

  ended_config : (t : Files) → KeepsRest f t → get (ended t) config_file ≡ Some held
  ended_config t rest = get_there config_file (get t folded_file) (with_file folded_file None t) ∙ still_folded t rest

  ended_folded : (t : Files) → get (ended t) folded_file ≡ None
  ended_folded t = get_other config_file (get t folded_file) (with_file folded_file None t) folded_file folded_not_config ∙ get_there folded_file None t

  ended_other : (t : Files) (q : List ℕ) → (q ≡ config_file → ⊥) → (q ≡ folded_file → ⊥) → get (ended t) q ≡ get t q
  ended_other t q config folded = get_other config_file (get t folded_file) (with_file folded_file None t) q config ∙ get_other folded_file None t q folded

  ended_steps : (t : Files) → step_names t ≡ [] → step_names (ended t) ≡ []
  ended_steps t none =
      same_steps (ended t) t (λ q a_step. ended_other t q (not_that q config_file a_step refl) (not_that q folded_file a_step refl)) ∙ none

  pub is_folded : (t g : Files) → IsClearing [] f t → IsDone ended t g → IsFolded bytes s g
  is_folded t g clearing done = record {
    config = ap (λ (m : Files). get m config_file) done ∙ ended_config t clearing.rest;
    folded = ap (λ (m : Files). get m folded_file) done ∙ ended_folded t;
    steps = ap step_names done ∙ ended_steps t clearing.left;
    others = λ q other. ap (λ (m : Files). get m q) done ∙ ended_other t q other.not_config other.not_folded
        ∙ clearing.rest q other.not_step ∙ begun.kept.others q other;
  }

  keeps_ended : (t : Files) → IsClearing [] f t → KeepsStored s (ended t)
  keeps_ended t clearing = record {
    same = by_config held (ended t) (ended_folded t) (ended_config t clearing.rest) (no_step (ended t) (step_name 1) (ended_steps t clearing.left) refl) ∙ sym stands_held;
    others = λ q other. ended_other t q other.not_config other.not_folded ∙ clearing.rest q other.not_step ∙ begun.kept.others q other;
  }

  pub keeps_ending : (t g : Files) → IsClearing [] f t → IsDoneOrNot ended t g → KeepsStored s g
  keeps_ending t g clearing either =
      ⊎_elim
      (λ (e : g ≡ t). subst (KeepsStored s) (sym e) (keeps_clearing t clearing.rest))
      (λ (e : g ≡ ended t). subst (KeepsStored s) (sym e) (keeps_ended t clearing))
      either
