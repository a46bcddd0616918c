-- Places with others behind them, and places linked to those, one more at a time.
use Rattle.std.proofs.Common.{◌≡◌, ℕ, Bool, ◌+◌, ◌<◌, ◌≤◌, List, [], ◌∷◌, ◌++◌, length, take, get_or, set, sym, ap, ◌∙◌, subst, inl, inr, arith}
use Rattle.std.proofs.lemmas.Bool.{cases_lt}
use Rattle.std.proofs.lemmas.List.{get_or_append_left, get_or_push, length_push, length-take-le, get_or-take, get_or_read, get_or-set_same, get_or-set_other}
use Rattle.yang_pattern.specs.declared.fragments.Place.{Place}
use Rattle.yang_pattern.specs.declared.sets.Places.{Places}
use Rattle.yang_pattern.specs.PlaceSets.{place_at, nowhere, IsAppended, IsShifted, IsLedOn}

pub append_more : (old more new : List Place) (i : ℕ) (x : Place) → i < length more → IsAppended old (take i more) new
    → IsShifted (length old) (place_at more i) x → IsAppended old (take (i + 1) more) (new ++ x ∷ [])
append_more old more new i x h so_far shift =
    let taken : length (take i more) ≡ i = length-take-le i more (omega arith) in
    let taken' : length (take (i + 1) more) ≡ i + 1 = length-take-le (i + 1) more (omega arith) in
    let count : length new ≡ length old + i = so_far.count ∙ ap (λ n. length old + n) taken in
    record {
      count = length_push new x ∙ omega (arith, count, taken');
      before = λ k l. get_or_append_left new (x ∷ []) nowhere k (omega arith) ∙ so_far.before k l;
      behind = λ k l.
          let at : place_at (take (i + 1) more) k ≡ place_at more k = get_or-take (i + 1) more k nowhere (omega arith) in
          rw at (elim (cases_lt k i) [
            | inl below ↦
                rw (get_or_append_left new (x ∷ []) nowhere (length old + k) (omega arith))
                (subst (λ p. IsShifted (length old) p (place_at new (length old + k))) (get_or-take i more k nowhere below) (so_far.behind k (omega arith)))
            | inr above ↦
                let e : k ≡ i = omega arith in
                rw (e, get_or_push new x nowhere (length old + i) count) shift
          ]);
    }

module _ (old now : List Place) (i : ℕ) (x : Place) where
  -- the places behind the one that is linked
  pub left_more : ((k : ℕ) → i ≤ k → place_at now k ≡ place_at old k) → (k : ℕ) → i + 1 ≤ k → place_at (set now i x) k ≡ place_at old k
  left_more left k h = get_or-set_other now i k x nowhere (omega arith) ∙ left k (omega arith)

  -- the places up to it
  pub linked_more : (entered : Places) (empty : Bool) (read : Place) → i < length now → read ≡ get_or now i read
      → ((k : ℕ) → k < i → IsLedOn entered empty (place_at old k) (place_at now k)) → ((k : ℕ) → i ≤ k → place_at now k ≡ place_at old k)
      → IsLedOn entered empty (get_or now i read) x → (k : ℕ) → k < i + 1 → IsLedOn entered empty (place_at old k) (place_at (set now i x) k)
  linked_more entered empty read here is linked left led k h =
      elim (cases_lt k i) [
        | inl below ↦ rw (get_or-set_other now i k x nowhere (omega arith)) (linked k below)
        | inr above ↦
            let e : k ≡ i = omega arith in
            let same : get_or now i read ≡ place_at old i = sym is ∙ (get_or_read now i read here is nowhere ∙ left i (omega arith)) in
            rw (e, get_or-set_same now i x nowhere here) (subst (λ p. IsLedOn entered empty p x) same led)
      ]
