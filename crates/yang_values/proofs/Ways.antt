-- Ways from one type statement to another, through the statements of a list.
use Rattle.std.proofs.Common.{◌≡◌, ◌⊎◌, inl, inr, ℕ, zero, suc, List, [], ◌∷◌, refl, sym, subst, arith}
use Rattle.std.specs.Prelude.{Contains}
use Rattle.yang_pattern.proofs.Decisions.{Told, both, either, among}
use Rattle.yang_scope.specs.Modules.{Module}
use Rattle.yang_scope.specs.Paths.{Placed}
use Rattle.yang_values.specs.Circles.{LeadsIn, IsReached}
use Rattle.yang_values.specs.TypeValues.{next}

module _ (modules : List Module) where
  -- one step, or a way round each statement of the list in turn
  abbrev pub Way : List Placed → Placed → Placed → Type 0
  Way [] p q = Contains (next modules p) q
  Way (r ∷ rs) p q = Way rs p q ⊎ (Way rs p r × Way rs r q)

  pub way_told : ((a b : Placed) → Told (a ≡ b)) → (rs : List Placed) (p q : Placed) → Told (Way rs p q)
  way_told same [] p q = among same (next modules p) q
  way_told same (r ∷ rs) p q = either (way_told same rs p q) (both (way_told same rs p r) (way_told same rs r q))

  reached_on : (n : ℕ) (p r q : Placed) → LeadsIn modules n p r → IsReached modules r q → IsReached modules p q
  reached_on zero p r q e h = subst (λ (s : Placed). IsReached modules s q) (sym e) h
  reached_on (suc n) p r q (s, c, more) h =
      let (k, way) = reached_on n s r q more h in
      (suc k, (s, c, way))

  -- what has a way is reached
  pub way_reached : (rs : List Placed) (p q : Placed) → Way rs p q → IsReached modules p q
  way_reached [] p q c = (0, (q, c, refl))
  way_reached (r ∷ rs) p q (inl h) = way_reached rs p q h
  way_reached (r ∷ rs) p q (inr h) =
      let (n, way) = way_reached rs p r h.0 in
      reached_on (suc n) p r q way (way_reached rs r q h.1)

  one_step : (rs : List Placed) (p q : Placed) → Contains (next modules p) q → Way rs p q
  one_step [] p q c = c
  one_step (r ∷ rs) p q c = inl (one_step rs p q c)

  -- a way to the first statement needs it once, and so does one from it
  to_first : (rs : List Placed) (s p : Placed) → Way (s ∷ rs) p s → Way rs p s
  to_first rs s p (inl h) = h
  to_first rs s p (inr h) = h.0

  from_first : (rs : List Placed) (s q : Placed) → Way (s ∷ rs) s q → Way rs s q
  from_first rs s q (inl h) = h
  from_first rs s q (inr h) = h.1

  at_first : (rs : List Placed) (s p q : Placed) → Way (s ∷ rs) p s → Way (s ∷ rs) s q → Way (s ∷ rs) p q
  at_first rs s p q h k = inr (to_first rs s p h, from_first rs s q k)

  joined : (rs : List Placed) (s p r q : Placed) → (Way rs p r → Way rs r q → Way rs p q) → (Way rs p r → Way rs r s → Way rs p s) → (Way rs s r → Way rs r q → Way rs s q)
      → Way (s ∷ rs) p r → Way (s ∷ rs) r q → Way (s ∷ rs) p q
  joined rs s p r q plain before after (inl g) (inl h) = inl (plain g h)
  joined rs s p r q plain before after (inl g) (inr h) = inr (before g h.0, h.1)
  joined rs s p r q plain before after (inr g) (inl h) = inr (g.0, after g.1 h)
  joined rs s p r q plain before after (inr g) (inr h) = inr (g.0, h.1)

  -- two ways that meet at a statement of the list are one
  meet : (rs : List Placed) (p r q : Placed) → Contains rs r → Way rs p r → Way rs r q → Way rs p q
  meet [] p r q (k, below, is) g h = absurd (omega (arith, below))
  meet (s ∷ rs) p r q (zero, below, is) g h =
      let P : Placed → Type 0 = λ z. Way (s ∷ rs) p z → Way (s ∷ rs) z q → Way (s ∷ rs) p q in
      subst P is (at_first rs s p q) g h
  meet (s ∷ rs) p r q (suc k, below, is) g h =
      let there : Contains rs r = (k, omega (arith, below), is) in
      joined rs s p r q (meet rs p r q there) (meet rs p r s there) (meet rs s r q there) g h

  -- where the list has all that can be reached, what is reached has a way
  pub reached_way : (rs : List Placed) → ((r s : Placed) → Contains rs r → Contains (next modules r) s → Contains rs s)
      → (n : ℕ) (p q : Placed) → Contains rs p → LeadsIn modules (suc n) p q → Way rs p q
  reached_way rs closed zero p q within (r, c, e) = one_step rs p q (subst (λ (s : Placed). Contains (next modules p) s) e c)
  reached_way rs closed (suc n) p q within (r, c, more) =
      let there : Contains rs r = closed p r within c in
      meet rs p r q there (one_step rs p r c) (reached_way rs closed n r q there more)
