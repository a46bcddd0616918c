-- A type statement from which all ways end is on no circle.
use Rattle.std.proofs.Common.{◌≡◌, ◌<◌, ◌≤◌, ◌+◌, ℕ, zero, suc, List, [], ◌∷◌, ◌++◌, All, map, take, length, get_or, refl, sym, subst, inl, inr, arith}
use Rattle.std.specs.Prelude.{Contains}
use Rattle.std.proofs.lemmas.List.{take_more}
use Rattle.std.proofs.lemmas.List.Elements.{All-head, All-tail, All-same, All-push, All-map, Contains-append_cases}
use Rattle.yang_scope.specs.Modules.{Module}
use Rattle.yang_scope.specs.Paths.{Placed}
use Rattle.yang_values.specs.Circles.{LeadsIn, IsOnCircle}
use Rattle.yang_values.specs.Endings.{EndsIn, DoesEnd}
use Rattle.yang_values.specs.TypeValues.{next}
use Rattle.yang_values.specs.Walks.{placed}
use Rattle.yang_values.specs.declared.walks.Place.{Place}
use Rattle.yang_values.proofs.ReachableTypes.{no_element, only}

module _ (modules : List Module) where
  -- no way is so long
  no_way : (n : ℕ) (p q : Placed) → EndsIn modules n p → LeadsIn modules n p q → ⊥
  no_way zero p q ends way = ends
  no_way (suc n) p q ends way = no_way n way.0 q (ends way.0 way.1) way.2

  -- from each statement of a circle there is a way of any length
  endless : (p : Placed) (steps : ℕ) → LeadsIn modules (suc steps) p p → (n j : ℕ) (r : Placed) → LeadsIn modules j r p → (q : Placed) × LeadsIn modules n r q
  endless p steps round zero j r at = (r, refl)
  endless p steps round (suc n) zero r at =
      let P : Placed → Type 0 = λ x. (q : Placed) × LeadsIn modules (suc n) x q in
      let way = endless p steps round n steps round.0 round.2 in
      subst P (sym at) (way.0, (round.0, round.1, way.1))
  endless p steps round (suc n) (suc j) r at =
      let way = endless p steps round n j at.0 at.2 in
      (way.0, (at.0, at.1, way.1))

  pub off_circle : (n : ℕ) (p : Placed) → EndsIn modules n p → IsOnCircle modules p → ⊥
  off_circle n p ends round =
      let way = endless p round.0 round.1 n zero p refl in
      no_way n p way.0 ends way.1

  -- it ends before more steps too
  later : (n m : ℕ) → n ≤ m → (p : Placed) → EndsIn modules n p → EndsIn modules m p
  later zero m within p ends = absurd ends
  later (suc n) zero within p ends = absurd (omega arith)
  later (suc n) (suc m) within p ends = λ q c. later n m (omega arith) q (ends q c)

  -- where each of some ends, all end before some number of steps
  all_end : (qs : List Placed) → All (DoesEnd modules) qs → (m : ℕ) × ((q : Placed) → Contains qs q → EndsIn modules m q)
  all_end [] h = (0, λ q c. absurd (no_element q c))
  all_end (r ∷ qs) h =
      let here : DoesEnd modules r = All-head (DoesEnd modules) r qs h in
      let rest = all_end qs (All-tail (DoesEnd modules) r qs h) in
      let P : Placed → Type 0 = λ x. EndsIn modules (here.0 + rest.0) x in (
        here.0 + rest.0,
        λ q c. elim (Contains-append_cases (r ∷ []) qs q c) [
          | inl m ↦ subst P (only r q m) (later here.0 (here.0 + rest.0) (omega arith) r here.1)
          | inr m ↦ later rest.0 (here.0 + rest.0) (omega arith) q (rest.1 q m)
        ],
      )

  -- where all ways end from the statements that one leads to, they end from that one
  pub ends_by_next : (p : Placed) (places : List Place) → map placed places ≡ next modules p → All (λ r. DoesEnd modules (placed r)) places → DoesEnd modules p
  ends_by_next p places leads all =
      let after : All (DoesEnd modules) (next modules p) = All-same (DoesEnd modules) (next modules p) (map placed places) (sym leads) (All-map (DoesEnd modules) placed places all) in
      let most = all_end (next modules p) after in
      (suc most.0, λ q c. most.1 q c)

  -- one of some of which this is known
  pub ends_among : (places : List Place) → All (λ r. DoesEnd modules (placed r)) places → (p : Placed) → Contains (map placed places) p → DoesEnd modules p
  ends_among places all p there =
      let each : All (DoesEnd modules) (map placed places) = All-map (DoesEnd modules) placed places all in
      subst (λ x. DoesEnd modules x) there.2 (each there.0 p there.1)

  -- none of which this is known is on a circle
  pub off_circles : (p : Placed) → DoesEnd modules p → IsOnCircle modules p → ⊥
  off_circles p ends = off_circle ends.0 p ends.1

-- all of some, and one more
pub all_more : {X : Type 0} (P : X → Type 0) (xs : List X) (i : ℕ) (x : X) → i < length xs → x ≡ get_or xs i x → All P (take i xs) → P x → All P (take (i + 1) xs)
all_more P xs i x within is before here =
    All-same P (take (i + 1) xs) (take i xs ++ get_or xs i x ∷ []) (take_more xs i x within) (All-push P (take i xs) (get_or xs i x) before (subst P is here))
