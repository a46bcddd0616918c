-- The order of places, and what is ahead of an iterator.
use Rattle.std.proofs.Common.{◌≡◌, ◌⊎◌, ◌<◌, ◌+◌, ℕ, Option, Some, None, refl, sym, ap, ◌∙◌, subst, inl, inr, arith}
use Rattle.std.proofs.lemmas.Bool.{cases_lt}
use Rattle.conf_check.specs.Wants.{IsFieldBefore, IsPlaceBefore}
use Rattle.conf_check.specs.WantRuns.{after}
use Rattle.conf_check.specs.declared.want_iter.WantPlace.{WantPlace}

field_cases : (f g : Option ℕ) → IsFieldBefore f g ⊎ ((f ≡ g) ⊎ IsFieldBefore g f)
field_cases None None = inr (inl refl)
field_cases None (Some g) = inl tt
field_cases (Some f) None = inr (inr tt)
field_cases (Some f) (Some g) =
    elim (cases_lt f g) [
      | inl less ↦ inl less
      | inr more ↦ elim (cases_lt g f) [
        | inl less ↦ inr (inr less)
        | inr le ↦ let same : f ≡ g = omega arith in inr (inl (ap Some same))
      ]
    ]

place_same : (p q : WantPlace) → p.table ≡ q.table → p.key ≡ q.key → p.field ≡ q.field → p.item ≡ q.item → p ≡ q
place_same p q t k f i = λ j. record { table = t j; key = k j; field = f j; item = i j }

-- of two places one is before the other, or they are one
pub place_cases : (p q : WantPlace) → IsPlaceBefore p q ⊎ ((p ≡ q) ⊎ IsPlaceBefore q p)
place_cases p q =
    elim (cases_lt p.table q.table) [
      | inl less ↦ inl (inl less)
      | inr t ↦ elim (cases_lt q.table p.table) [
        | inl less ↦ inr (inr (inl less))
        | inr t' ↦ let same : p.table ≡ q.table = omega arith in in_table same
      ]
    ]
  where
    in_entry : p.table ≡ q.table → p.key ≡ q.key → IsPlaceBefore p q ⊎ ((p ≡ q) ⊎ IsPlaceBefore q p)
    in_entry t k =
        elim (field_cases p.field q.field) [
          | inl less ↦ inl (inr (t, inr (k, inl less)))
          | inr o ↦ elim o [
            | inl f ↦ elim (cases_lt p.item q.item) [
              | inl less ↦ inl (inr (t, inr (k, inr (f, less))))
              | inr i ↦ elim (cases_lt q.item p.item) [
                | inl less ↦ inr (inr (inr (sym t, inr (sym k, inr (sym f, less)))))
                | inr i' ↦ let same : p.item ≡ q.item = omega arith in inr (inl (place_same p q t k f same))
              ]
            ]
            | inr less ↦ inr (inr (inr (sym t, inr (sym k, inl less))))
          ]
        ]

    in_table : p.table ≡ q.table → IsPlaceBefore p q ⊎ ((p ≡ q) ⊎ IsPlaceBefore q p)
    in_table t =
        elim (cases_lt p.key q.key) [
          | inl less ↦ inl (inr (t, inl less))
          | inr k ↦ elim (cases_lt q.key p.key) [
            | inl less ↦ inr (inr (inr (sym t, inl less)))
            | inr k' ↦ let same : p.key ≡ q.key = omega arith in in_entry t same
          ]
        ]

field_loop : (f g : Option ℕ) → IsFieldBefore f g → IsFieldBefore g f → ⊥
field_loop None None a b = a
field_loop None (Some g) a b = b
field_loop (Some f) None a b = a
field_loop (Some f) (Some g) a b = omega arith

field_itself : (f : Option ℕ) → ¬ IsFieldBefore f f
field_itself None a = a
field_itself (Some f) a = omega arith

field_through : (f g h : Option ℕ) → IsFieldBefore f g → IsFieldBefore g h → IsFieldBefore f h
field_through None None h a b = absurd a
field_through None (Some g) None a b = b
field_through None (Some g) (Some h) a b = tt
field_through (Some f) None h a b = absurd a
field_through (Some f) (Some g) None a b = b
field_through (Some f) (Some g) (Some h) a b = omega arith

-- what is behind the place behind one is behind that one
pub behind_after : (p q : WantPlace) → ¬ IsPlaceBefore q (after p) → IsPlaceBefore p q
behind_after p q not =
    elim (place_cases p q) [
      | inl less ↦ less
      | inr o ↦ elim o [
        | inl same ↦ absurd (not (inr (
          ap (λ (x : WantPlace). x.table) (sym same),
          inr (
            ap (λ (x : WantPlace). x.key) (sym same),
            inr (ap (λ (x : WantPlace). x.field) (sym same), let e : p.item ≡ q.item = ap (λ (x : WantPlace). x.item) same in omega arith),
          ),
        )))
        | inr less ↦ absurd (not (up less))
      ]
    ]
  where
    up : IsPlaceBefore q p → IsPlaceBefore q (after p)
    up (inl lt) = inl lt
    up (inr a) = elim a.1 [
      | inl lt ↦ inr (a.0, inl lt)
      | inr b ↦ elim b.1 [
        | inl lt ↦ inr (a.0, inr (b.0, inl lt))
        | inr c ↦ inr (a.0, inr (b.0, inr (c.0, omega (arith, c.1))))
      ]
    ]

-- and the other way round
pub after_behind : (p q : WantPlace) → IsPlaceBefore p q → ¬ IsPlaceBefore q (after p)
after_behind p q (inl lt) (inl gt) = omega arith
after_behind p q (inl lt) (inr b) = omega (arith, b.0)
after_behind p q (inr a) (inl gt) = omega (arith, a.0)
after_behind p q (inr a) (inr b) = in_table a.1 b.1
  where
    in_entry : IsFieldBefore p.field q.field ⊎ ((p.field ≡ q.field) × (p.item < q.item))
        → IsFieldBefore q.field p.field ⊎ ((q.field ≡ p.field) × (q.item < p.item + 1)) → ⊥
    in_entry (inl lt) (inl gt) = field_loop p.field q.field lt gt
    in_entry (inl lt) (inr d) = field_itself p.field (subst (IsFieldBefore p.field) d.0 lt)
    in_entry (inr c) (inl gt) = field_itself q.field (subst (IsFieldBefore q.field) c.0 gt)
    in_entry (inr c) (inr d) = omega (arith, c.1, d.1)

    in_table : (p.key < q.key) ⊎ ((p.key ≡ q.key) × (IsFieldBefore p.field q.field ⊎ ((p.field ≡ q.field) × (p.item < q.item))))
        → (q.key < p.key) ⊎ ((q.key ≡ p.key) × (IsFieldBefore q.field p.field ⊎ ((q.field ≡ p.field) × (q.item < p.item + 1)))) → ⊥
    in_table (inl lt) (inl gt) = omega arith
    in_table (inl lt) (inr d) = omega (arith, d.0)
    in_table (inr c) (inl gt) = omega (arith, c.0)
    in_table (inr c) (inr d) = in_entry c.1 d.1

-- a place behind one that isn't before a third isn't before it either
pub not_before_through : (s p q : WantPlace) → ¬ IsPlaceBefore p s → IsPlaceBefore p q → ¬ IsPlaceBefore q s
not_before_through s p q not lt earlier = not (through lt earlier)
  where
    in_entry : IsFieldBefore p.field q.field ⊎ ((p.field ≡ q.field) × (p.item < q.item))
        → IsFieldBefore q.field s.field ⊎ ((q.field ≡ s.field) × (q.item < s.item))
        → IsFieldBefore p.field s.field ⊎ ((p.field ≡ s.field) × (p.item < s.item))
    in_entry (inl a) (inl b) = inl (field_through p.field q.field s.field a b)
    in_entry (inl a) (inr b) = inl (subst (IsFieldBefore p.field) b.0 a)
    in_entry (inr a) (inl b) = inl (subst (λ f. IsFieldBefore f s.field) (sym a.0) b)
    in_entry (inr a) (inr b) = inr (a.0 ∙ b.0, omega (arith, a.1, b.1))

    in_table : (p.key < q.key) ⊎ ((p.key ≡ q.key) × (IsFieldBefore p.field q.field ⊎ ((p.field ≡ q.field) × (p.item < q.item))))
        → (q.key < s.key) ⊎ ((q.key ≡ s.key) × (IsFieldBefore q.field s.field ⊎ ((q.field ≡ s.field) × (q.item < s.item))))
        → (p.key < s.key) ⊎ ((p.key ≡ s.key) × (IsFieldBefore p.field s.field ⊎ ((p.field ≡ s.field) × (p.item < s.item))))
    in_table (inl a) (inl b) = inl (omega arith)
    in_table (inl a) (inr b) = inl (omega (arith, b.0))
    in_table (inr a) (inl b) = inl (omega (arith, a.0))
    in_table (inr a) (inr b) = inr (a.0 ∙ b.0, in_entry a.1 b.1)

    through : IsPlaceBefore p q → IsPlaceBefore q s → IsPlaceBefore p s
    through (inl a) (inl b) = inl (omega arith)
    through (inl a) (inr b) = inl (omega (arith, b.0))
    through (inr a) (inl b) = inl (omega (arith, a.0))
    through (inr a) (inr b) = inr (a.0 ∙ b.0, in_table a.1 b.1)
