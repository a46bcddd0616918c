-- The name of the file `intent` is none of those that a change writes otherwise.
use Rattle.std.proofs.Common.{◌≡◌, ℕ, List, get_or, refl, sym, ap, arith}
use Rattle.conf_store.specs.Files.{config_file, folded_file, intent_file, scratch, step_name}
use Rattle.conf_store.specs.Folds.{IsOther}

-- names whose first letters differ
apart : (xs ys : List ℕ) → (get_or xs 0 0 ≡ get_or ys 0 0 → ⊥) → xs ≡ ys → ⊥
apart xs ys differ e = differ (ap (λ (l : List ℕ). get_or l 0 0) e)

pub intent_not_scratch : intent_file ≡ scratch → ⊥
intent_not_scratch = apart intent_file scratch (λ (e : 105 ≡ 116). omega arith)

pub config_not_intent : config_file ≡ intent_file → ⊥
config_not_intent = apart config_file intent_file (λ (e : 99 ≡ 105). omega arith)

pub folded_not_intent : folded_file ≡ intent_file → ⊥
folded_not_intent = apart folded_file intent_file (λ (e : 99 ≡ 105). omega arith)

pub no_step_intent : (n : ℕ) → step_name n ≡ intent_file → ⊥
no_step_intent n = apart (step_name n) intent_file (λ (e : 115 ≡ 105). omega arith)

-- folds have nothing to do with it
pub intent_other : IsOther intent_file
intent_other = record {
  not_scratch = intent_not_scratch;
  not_config = λ e. config_not_intent (sym e);
  not_folded = λ e. folded_not_intent (sym e);
  not_step = refl;
}
