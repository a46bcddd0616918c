-- What a folder stands for doesn't rest on its checkpoints.
use Rattle.std.proofs.Common.{◌≡◌, ℕ, zero, suc, ◌+◌, ◌≤◌, List, true, false, cond, length, Option, Some, None, Result, refl, sym, ap, ◌∙◌, arith}
use Rattle.std.specs.FinMap.{get}
use Rattle.host_core.specs.Answers.{◌>>=◌}
use Rattle.host_core.specs.State.{Files, with_file}
use Rattle.conf_doc.specs.declared.configuration.Config.{Config}
use Rattle.conf_store.specs.Files.{config_file, folded_file, last_step, scratch, step_name, without_scratch}
use Rattle.conf_store.specs.Puts.{IsSame}
use Rattle.conf_store.specs.Stored.{after_all_steps, after_step, after_steps, config_in, or_none, or_unfolded, stored, unless_missing}
use Rattle.conf_store.specs.declared.errors.StoredWhy.{StoredWhy}
use Rattle.conf_store.specs.declared.errors.StoredWhy.TheVariants.{NoFile}
use Rattle.checkpoints.specs.Names.{is_good_name, is_point_file, point_file}
use Rattle.checkpoints.proofs.NamesOfFiles.{good_file, other_name}
use Rattle.checkpoints.proofs.PointMaps.{get_with}

-- the files answer alike but for checkpoints and the scratch file
abbrev pub AnswerAlike : Files → Files → Type 0
AnswerAlike f g = (q : List ℕ) → is_point_file q ≡ false → (q ≡ scratch → ⊥) → get f q ≡ get g q

apart : (q : List ℕ) (n : ℕ) → length q ≡ n → 8 ≤ n → q ≡ scratch → ⊥
apart q n long more e = let seven : length q ≡ 7 = ap length e in omega arith

module _ (f g : Files) (alike : AnswerAlike f g) where
  step_alike : (n : ℕ) → get f (step_name n) ≡ get g (step_name n)
  step_alike n = alike (step_name n) refl (apart (step_name n) 11 refl (omega arith))

  steps_alike : (more n : ℕ) (c : Config) → after_steps more n f c ≡ after_steps more n g c
  steps_alike zero n c = refl
  steps_alike (suc more) n c =
      ap (λ o. unless_missing o n (after_steps more (n + 1) f) c) (step_alike n)
      ∙ by (λ d. steps_alike more (n + 1) d) (get g (step_name n))
    where
      by : ((d : Config) → after_steps more (n + 1) f d ≡ after_steps more (n + 1) g d) → (o : Option (List ℕ)) → unless_missing o n (after_steps more (n + 1) f) c ≡ unless_missing o n (after_steps more (n + 1) g) c
      by same None = refl
      by same (Some bytes) = ap (λ (k : Config → Result Config StoredWhy). after_step n bytes c >>= k) (λ i d. same d i)

  stored_alike : stored f ≡ stored g
  stored_alike =
      let folded : get f folded_file ≡ get g folded_file = alike folded_file refl (apart folded_file 16 refl (omega arith)) in
      let config : get f config_file ≡ get g config_file = alike config_file refl (apart config_file 14 refl (omega arith)) in
      let all : after_all_steps f ≡ after_all_steps g =
      ap (λ o. or_none NoFile o >>= λ bytes. config_in bytes >>= λ c. after_steps last_step 1 f c) config
      ∙ ap (λ (k : Config → Result Config StoredWhy). or_none NoFile (get g config_file) >>= λ bytes. config_in bytes >>= k) (λ i c. steps_alike last_step 1 c i) in
      ap (λ o. or_unfolded o (after_all_steps f)) folded ∙ ap (or_unfolded (get g folded_file)) all

-- a checkpoint's file
pub stored_with : (name : List ℕ) → is_good_name name ≡ true → (content : Option (List ℕ)) (files : Files)
    → stored (with_file (point_file name) content files) ≡ stored files
stored_with name good content files = stored_alike _ _ (λ q isnt _.
    get_with (point_file name) content files q
    ∙ ap (λ b. cond b content (get files q))
    (other_name q (point_file name) (λ e. let is : is_point_file q ≡ true = ap is_point_file e ∙ good_file name good in absurd cc)))

pub stored_behind : (files : Files) → stored (without_scratch files) ≡ stored files
stored_behind files = stored_alike _ _ (λ q _ other.
    get_with scratch None files q ∙ ap (λ b. cond b None (get files q)) (other_name q scratch other))

-- the scratch file
pub stored_same : (f g : Files) → IsSame f g → stored g ≡ stored f
stored_same f g same = sym (stored_behind g) ∙ ap stored same ∙ stored_behind f

-- a file that was put
pub stored_put : (name bytes : List ℕ) → is_good_name name ≡ true → (files : Files)
    → stored (with_file (point_file name) (Some bytes) (without_scratch files)) ≡ stored files
stored_put name bytes good files = stored_with name good (Some bytes) (without_scratch files) ∙ stored_behind files
