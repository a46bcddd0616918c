-- Where only what is near the sought move may lead to it, that stands at the key of its place.
use Rattle.std.proofs.Common.{◌≡◌, ◌⊎◌, ℕ, ◌<◌, List, [], Option, Some, None, length, slice_get, inl, inr, sym, ◌∙◌, subst, arith}
use Rattle.std.proofs.lemmas.Option.{slice_get_within}
use Rattle.conf_check.specs.Acceptance.{keys_of}
use Rattle.conf_doc.specs.declared.configuration.Config.{Config}
use Rattle.move_core.specs.Moves.{place}
use Rattle.move_core.specs.declared.moves.Move.{Move}
use Rattle.plan_check.specs.Nearby.{AreWanted, HasRequiring, HasWanted, IsAtKey, IsInKeys, IsNear}
use Rattle.plan_check.specs.declared.preceding.Sought.{Sought}
use Rattle.plan_check.proofs.NearLoops.{entry_at}
use Rattle.plan_check.proofs.NearPlaces.{near}

same_Some : (x y : List ℕ) → Some x ≡ Some y → x ≡ y
same_Some x y e = cc

module _ (s : Sought) (t : List ℕ) where
  -- what is so at a key is so of the table
  wanted_there : (key : Option (List ℕ)) → HasWanted s t key → HasWanted s t None
  wanted_there key has = record { at = has.at; there = has.there; is = ((has.is.0.0, tt), has.is.1) }

  required_there : (key : Option (List ℕ)) → HasRequiring s t key → HasRequiring s t None
  required_there key has = record {
    rule = has.rule;
    there = has.there;
    is = record {
      named = has.is.named;
      is = has.is.is;
      requiring = has.is.requiring;
      there = has.is.there;
      in_it
          = (has.is.in_it.0, tt);
    };
  }

  module _ (k : List ℕ) (at : slice_get (place s.mv.now) 1 ≡ Some k) (unwanted : ¬ HasWanted s t None)
      (unrequired : ¬ HasRequiring s t None) where
    own_key : (key : List ℕ) → IsNear (place s.mv.now) t (Some key)
        ⊎ (HasWanted s t (Some key) ⊎ HasRequiring s t (Some key)) → key ≡ k
    own_key key (inl here) = elim here.1 [
      | inl short ↦ let long = slice_get_within (place s.mv.now) 1 k at in absurd (omega (arith, short, long))
      | inr named ↦ same_Some key k (sym named ∙ at)
    ]
    own_key key (inr (inl has)) = absurd (unwanted (wanted_there (Some key) has))
    own_key key (inr (inr has)) = absurd (unrequired (required_there (Some key) has))

pub at_one_key : (s : Sought) → AreWanted s → (c : Config) (t k : List ℕ) → slice_get (place s.mv.now) 1 ≡ Some k
    → ¬ HasWanted s t None → ¬ HasRequiring s t None
    → (m : Move) → IsInKeys s c t (keys_of t c) m → IsAtKey s c t k m
at_one_key s wanted c t k at unwanted unrequired m is =
    let near_it = near s wanted m t (Some is.item) (entry_at s.here.now c t is.item m is.is.0) is.is.1 in
    subst (λ j. IsAtKey s c t j m) (own_key s t k at unwanted unrequired is.item near_it) is.is
