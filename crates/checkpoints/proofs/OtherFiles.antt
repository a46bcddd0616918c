-- The file of a checkpoint is one that a fold has nothing to do with.
use Rattle.std.proofs.Common.{◌≡◌, ◌≤◌, ◌+◌, ℕ, List, [], ◌∷◌, ◌++◌, Bool, true, false, length, refl, sym, ap, ◌∙◌, arith}
use Rattle.std.specs.Prelude.{◌&&◌, ◌==◌, drop, nat_eq}
use Rattle.std.specs.Char.{is_ascii_digit}
use Rattle.std.specs.FinMap.{get}
use Rattle.std.specs.List.{list_all, starts_with}
use Rattle.std.proofs.lemmas.Bool.{eqb-true}
use Rattle.host_core.specs.State.{Files}
use Rattle.conf_store.specs.Files.{config_file, folded_file, intent_file, is_step_name, step_begin, step_digits}
use Rattle.conf_store.specs.Folds.{IsOther}
use Rattle.checkpoints.specs.Names.{is_good_name, is_point_file, point_end, point_file}
use Rattle.checkpoints.specs.Points.{points}
use Rattle.checkpoints.proofs.NamesOfFiles.{good_file}
use Rattle.checkpoints.proofs.PointMaps.{alike_files, not_scratch}

not_config : (name : List ℕ) → is_good_name name ≡ true → point_file name ≡ config_file → ⊥
not_config name good e =
    let is : is_point_file config_file ≡ true = ap is_point_file (sym e) ∙ good_file name good in
    absurd cc

not_folded : (name : List ℕ) → is_good_name name ≡ true → point_file name ≡ folded_file → ⊥
not_folded name good e =
    let is : is_point_file folded_file ≡ true = ap is_point_file (sym e) ∙ good_file name good in
    absurd cc

not_intent : (name : List ℕ) → is_good_name name ≡ true → point_file name ≡ intent_file → ⊥
not_intent name good e =
    let is : is_point_file intent_file ≡ true = ap is_point_file (sym e) ∙ good_file name good in
    absurd cc

last_false : (a b : Bool) → (a && b && false) ≡ false
last_false true true = refl
last_false true false = refl
last_false false true = refl
last_false false false = refl

middle_false : (a c b : Bool) → b ≡ false → (a && b && c) ≡ false
middle_false a c b e = ap (λ x. a && x && c) e ∙ by a c
  where
    by : (a c : Bool) → (a && false && c) ≡ false
    by true true = refl
    by true false = refl
    by false true = refl
    by false false = refl

eqb_not : (b : Bool) (m n : ℕ) → (m == n) ≡ b → (m ≡ n → ⊥) → b ≡ false
eqb_not true m n is apart = absurd (apart (eqb-true m n is))
eqb_not false m n is apart = refl

-- a step file has six digits at its end, and no checkpoint's file has
not_step : (name : List ℕ) → is_step_name (point_file name) ≡ false
not_step [] = refl
not_step (a ∷ []) = last_false (starts_with nat_eq (a ∷ point_end) step_begin) (length (a ∷ point_end) == length step_begin + step_digits)
not_step (a ∷ b ∷ []) = last_false (starts_with nat_eq (a ∷ b ∷ point_end) step_begin) (length (a ∷ b ∷ point_end) == length step_begin + step_digits)
not_step (a ∷ b ∷ c ∷ []) = last_false (starts_with nat_eq (a ∷ b ∷ c ∷ point_end) step_begin) (length (a ∷ b ∷ c ∷ point_end) == length step_begin + step_digits)
not_step (a ∷ b ∷ c ∷ d ∷ name) =
    let file = a ∷ b ∷ c ∷ d ∷ (name ++ point_end) in
    let long : length file ≡ 4 + length (name ++ point_end) = omega arith in
    middle_false (starts_with nat_eq file step_begin) (list_all is_ascii_digit (drop (length step_begin) file)) (length file == length step_begin + step_digits)
    (eqb_not (length file == length step_begin + step_digits) (length file) (length step_begin + step_digits) refl
    (λ e. let more : 8 ≤ length (name ++ point_end) = longer name in omega arith))
  where
    longer : (name : List ℕ) → 8 ≤ length (name ++ point_end)
    longer [] = omega arith
    longer (x ∷ name) = let so_far = longer name in omega (arith, so_far)

is_other : (name : List ℕ) → is_good_name name ≡ true → IsOther (point_file name)
is_other name good = record {
  not_scratch = not_scratch name good;
  not_config = not_config name good;
  not_folded = not_folded name good;
  not_step = not_step name;
}

-- so what changes none of these changes no checkpoint
pub points_kept : (before after : Files) → ((name : List ℕ) → IsOther name → (name ≡ intent_file → ⊥) → get after name ≡ get before name) → points after ≡ points before
points_kept before after others = alike_files after before (λ name good. others (point_file name) (is_other name good) (not_intent name good))
