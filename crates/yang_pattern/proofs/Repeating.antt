-- Rows of texts, one longer, one after another, and with some that may be missing.
use Rattle.std.proofs.Common.{◌≡◌, ℕ, suc, zero, ◌+◌, ◌-◌, ◌≤◌, ◌⊎◌, List, [], ◌++◌, refl, sym, ap, ◌∙◌, subst, inl, inr, arith, append_assoc, append-nil, add-one, ◌↔◌}
use Rattle.yang_pattern.specs.Machine.{Both}
use Rattle.yang_pattern.specs.Symbols.{Repeated}

module _ (P : List ℕ → Type 0) where
  -- one text more at the end
  pub longer : (n : ℕ) (x y : List ℕ) → Repeated P n x → P y → Repeated P (suc n) (x ++ y)
  longer zero x y e p = (y, [], ap (λ v. v ++ y) e ∙ sym (append-nil y), p, refl)
  longer (suc n) x y (x₁, x₂, e, p₁, more) p =
      (x₁, x₂ ++ y, ap (λ v. v ++ y) e ∙ append_assoc x₁ x₂ y, p₁, longer n x₂ y more p)

  -- the last text of a row
  pub shorter : (n : ℕ) (u : List ℕ) → Repeated P (suc n) u → Both (Repeated P n) P u
  shorter zero u (x, y, e, p, more) = ([], u, refl, refl, subst P (sym (e ∙ ap (λ v. x ++ v) more ∙ append-nil x)) p)
  shorter (suc n) u (x, y, e, p, more) =
      let (y₁, y₂, f, before, last) = shorter n y more in
      (x ++ y₁, y₂, e ∙ ap (λ v. x ++ v) f ∙ sym (append_assoc x y₁ y₂), (x, y₁, refl, p, before), last)

  -- two rows are one
  pub one_row : (m n : ℕ) (x y : List ℕ) → Repeated P m x → Repeated P n y → Repeated P (m + n) (x ++ y)
  one_row zero n x y e more = subst (λ k. Repeated P k (x ++ y)) (let f : n ≡ 0 + n = omega arith in f) (subst (Repeated P n) (ap (λ v. v ++ y) (sym e)) more)
  one_row (suc m) n x y (x₁, x₂, e, p, others) more =
      subst (λ k. Repeated P k (x ++ y)) (let f : suc (m + n) ≡ suc m + n = omega arith in f) (x₁, x₂ ++ y, ap (λ v. v ++ y) e ∙ append_assoc x₁ x₂ y, p, one_row m n x₂ y others more)

  -- a row is two
  pub two_rows : (m n : ℕ) (u : List ℕ) → Repeated P (m + n) u → Both (Repeated P m) (Repeated P n) u
  two_rows zero n u h = ([], u, refl, refl, subst (λ k. Repeated P k u) (let f : 0 + n ≡ n = omega arith in f) h)
  two_rows (suc m) n u h =
      let (x, y, e, p, more) = subst (λ k. Repeated P k u) (let f : suc m + n ≡ suc (m + n) = omega arith in f) h in
      let (y₁, y₂, f, left, right) = two_rows m n y more in
      (x ++ y₁, y₂, e ∙ ap (λ v. x ++ v) f ∙ sym (append_assoc x y₁ y₂), (x, y₁, refl, p, left), right)

  -- n texts, some of which may be empty in place of one of P
  pub some_there : (n : ℕ) (u : List ℕ) → Repeated (λ v. (v ≡ []) ⊎ P v) n u → (k : ℕ) × (k ≤ n) × Repeated P k u
  some_there zero u h = (0, omega arith, h)
  some_there (suc n) u (x, y, e, here, more) =
      let (k, fits, row) = some_there n y more in
      elim here [
        | inl nothing ↦ (k, omega arith, subst (Repeated P k) (sym (e ∙ ap (λ v. v ++ y) nothing)) row)
        | inr p ↦ (suc k, omega arith, (x, y, e, p, row))
      ]

  pub all_there : (n k : ℕ) (u : List ℕ) → k ≤ n → Repeated P k u → Repeated (λ v. (v ≡ []) ⊎ P v) n u
  all_there zero zero u h row = row
  all_there zero (suc k) u h row = absurd (omega arith)
  all_there (suc n) zero u h row = ([], u, refl, inl refl, all_there n zero u (omega arith) row)
  all_there (suc n) (suc k) u h (x, y, e, p, row) = (x, y, e, inr p, all_there n k y (omega arith) row)

-- rows of texts of P are rows of texts of Q
pub row_along : (P Q : List ℕ → Type 0) → ((v : List ℕ) → P v → Q v) → (n : ℕ) (u : List ℕ) → Repeated P n u → Repeated Q n u
row_along P Q f zero u h = h
row_along P Q f (suc n) u (x, y, e, p, more) = (x, y, e, f x p, row_along P Q f n y more)

-- a part and i texts of P behind it, then one more
pub one_more : (A P W V : List ℕ → Type 0) (i : ℕ) → ((u : List ℕ) → W u ↔ Both A (Repeated P i) u) → ((u : List ℕ) → V u ↔ Both W P u)
    → (u : List ℕ) → V u ↔ Both A (Repeated P (i + 1)) u
one_more A P W V i so_far joined u = (
  λ t.
      let (x, y, e, w, p) = (joined u).0 t in
      let (x₁, x₂, f, a, row) = (so_far x).0 w in
      (x₁, x₂ ++ y, e ∙ ap (λ v. v ++ y) f ∙ append_assoc x₁ x₂ y, a, subst (λ k. Repeated P k (x₂ ++ y)) (sym (add-one i)) (longer P i x₂ y row p)),
  λ (x, y, e, a, row).
      let (y₁, y₂, f, before, last) = shorter P i y (subst (λ k. Repeated P k y) (add-one i) row) in
      (joined u).1 (x ++ y₁, y₂, e ∙ ap (λ v. x ++ v) f ∙ sym (append_assoc x y₁ y₂), (so_far (x ++ y₁)).1 (x, y₁, refl, a, before), last),
)

-- what stands behind the empty text alone
behind_nothing : (N B W : List ℕ → Type 0) → ((u : List ℕ) → N u ↔ (u ≡ [])) → ((u : List ℕ) → W u ↔ Both N B u) → (u : List ℕ) → W u ↔ B u
behind_nothing N B W nothing joined u = (
  λ w. let (x, y, e, n, b) = (joined u).0 w in subst B (sym (e ∙ ap (λ v. v ++ y) ((nothing x).0 n))) b,
  λ b. (joined u).1 ([], u, refl, (nothing []).1 refl, b),
)

-- `least` texts of P, and then none or some
pub least_or_more : (N P W M O J : List ℕ → Type 0) (least : ℕ) → ((u : List ℕ) → N u ↔ (u ≡ [])) → ((u : List ℕ) → W u ↔ Both N (Repeated P least) u)
    → ((u : List ℕ) → M u ↔ ((n : ℕ) × Repeated P (suc n) u)) → ((u : List ℕ) → O u ↔ ((u ≡ []) ⊎ M u)) → ((u : List ℕ) → J u ↔ Both W O u)
    → (u : List ℕ) → J u ↔ ((n : ℕ) × (least ≤ n) × Repeated P n u)
least_or_more N P W M O J least nothing front again optional joined u =
    let front_is = behind_nothing N (Repeated P least) W nothing front in (
      λ j.
          let (x, y, e, w, o) = (joined u).0 j in
          let row = (front_is x).0 w in
          elim ((optional y).0 o) [
            | inl none ↦ (least, omega arith, subst (Repeated P least) (sym (e ∙ ap (λ v. x ++ v) none ∙ append-nil x)) row)
            | inr m ↦
                let (n, others) = (again y).0 m in
                (least + suc n, omega arith, subst (Repeated P (least + suc n)) (sym e) (one_row P least (suc n) x y row others))
          ],
      λ (n, h, row).
          let whole = subst (λ k. Repeated P k u) (let f : n ≡ least + (n - least) = omega arith in f) row in
          let (x, y, e, left, right) = two_rows P least (n - least) u whole in
          (joined u).1 (x, y, e, (front_is x).1 left, (optional y).1 (rest (n - least) y right)),
    )
  where
    rest : (k : ℕ) (y : List ℕ) → Repeated P k y → (y ≡ []) ⊎ M y
    rest zero y e = inl e
    rest (suc k) y row = inr ((again y).1 (k, row))

-- `least` texts of P, and then at most `more`
pub least_to_most : (N P W O J : List ℕ → Type 0) (least more : ℕ) → ((u : List ℕ) → N u ↔ (u ≡ [])) → ((u : List ℕ) → W u ↔ Both N (Repeated P least) u)
    → ((u : List ℕ) → O u ↔ ((u ≡ []) ⊎ P u)) → ((u : List ℕ) → J u ↔ Both W (Repeated O more) u)
    → (u : List ℕ) → J u ↔ ((n : ℕ) × ((least ≤ n) × (n ≤ least + more)) × Repeated P n u)
least_to_most N P W O J least more nothing front optional joined u =
    let front_is = behind_nothing N (Repeated P least) W nothing front in (
      λ j.
          let (x, y, e, w, o) = (joined u).0 j in
          let (k, fits, row) = some_there P more y (row_along O (λ v. (v ≡ []) ⊎ P v) (λ v h. (optional v).0 h) more y o) in
          (least + k, (omega arith, omega arith), subst (Repeated P (least + k)) (sym e) (one_row P least k x y ((front_is x).0 w) row)),
      λ (n, (low, high), row).
          let whole = subst (λ k. Repeated P k u) (let f : n ≡ least + (n - least) = omega arith in f) row in
          let (x, y, e, left, right) = two_rows P least (n - least) u whole in
          (joined u).1 (x, y, e, (front_is x).1 left, row_along (λ v. (v ≡ []) ⊎ P v) O (λ v h. (optional v).1 h) more y (all_there P more (n - least) y (omega arith) right)),
    )
