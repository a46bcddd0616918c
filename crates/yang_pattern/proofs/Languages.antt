-- What joined, alternative and repeated machines take.
use Rattle.std.proofs.Common.{◌≡◌, ℕ, suc, zero, ◌+◌, ◌-◌, ◌<◌, Bool, true, false, ◌||◌, ◌&&◌, ◌⊎◌, List, [], ◌∷◌, ◌++◌, refl, sym, ap, ◌∙◌, subst, inl, inr, arith, IsTrue}
use Rattle.std.proofs.lemmas.Bool.{cases_lt, and_from, and_parts, or_cases, or_left, or_right, false≢true}
use Rattle.yang_pattern.specs.Machine.{Machine, After, Takes, Both}
use Rattle.yang_pattern.specs.Symbols.{Repeated}

-- a place of two machines side by side is one of the first or one of the second
pub which : (n m q : ℕ) → q < n + m → (q < n) ⊎ ((k : ℕ) × (k < m) × (q ≡ n + k))
which n m q h = elim (cases_lt q n) [ inl x ↦ inl x | inr x ↦ inr (q - n, omega arith, omega arith) ]

at_true : {a b : Bool} → a ≡ b → IsTrue b → IsTrue a
at_true e h = e ∙ h

to_true : {a b : Bool} → a ≡ b → IsTrue a → IsTrue b
to_true e h = sym e ∙ h

-- C reads what A takes, and then what B takes
pub record IsJoined (A B C : Machine) : Type 0 where
  pub count : C.count ≡ A.count + B.count
  pub empty : C.empty ≡ (A.empty && B.empty)
  pub first_left : (q : ℕ) → q < A.count → C.first q ≡ A.first q
  pub first_right : (q : ℕ) → q < B.count → C.first (A.count + q) ≡ (A.empty && B.first q)
  pub reads_left : (q c : ℕ) → q < A.count → C.reads q c ≡ A.reads q c
  pub reads_right : (q c : ℕ) → q < B.count → C.reads (A.count + q) c ≡ B.reads q c
  pub last_left : (p : ℕ) → p < A.count → C.last p ≡ (A.last p && B.empty)
  pub last_right : (p : ℕ) → p < B.count → C.last (A.count + p) ≡ B.last p
  pub left : (p q : ℕ) → p < A.count → q < A.count → C.follow p q ≡ A.follow p q
  pub across : (p q : ℕ) → p < A.count → q < B.count → C.follow p (A.count + q) ≡ (A.last p && B.first q)
  pub right : (p q : ℕ) → p < B.count → q < B.count → C.follow (A.count + p) (A.count + q) ≡ B.follow p q
  pub back : (p q : ℕ) → p < B.count → q < A.count → C.follow (A.count + p) q ≡ false

module _ (A B C : Machine) (j : IsJoined A B C) where
  right_to : (u : List ℕ) (p : ℕ) → p < B.count → After C (A.count + p) u → After B p u
  right_to [] p l h = to_true (j.last_right p l) h
  right_to (c ∷ u) p l (q, within, follows, read, more) =
      elim (which A.count B.count q (subst (λ n. q < n) j.count within)) [
        | inl x ↦ absurd (false≢true (sym (j.back p q l x) ∙ follows))
        | inr (k, k_within, e) ↦
            (k, k_within, to_true (j.right p k l k_within) (subst (λ n. IsTrue (C.follow (A.count + p) n)) e follows), to_true (j.reads_right k c k_within) (subst (λ n. IsTrue (C.reads n c)) e read), right_to u k k_within (subst (λ n. After C n u) e more))
      ]

  right_from : (u : List ℕ) (p : ℕ) → p < B.count → After B p u → After C (A.count + p) u
  right_from [] p l h = at_true (j.last_right p l) h
  right_from (c ∷ u) p l (q, within, follows, read, more) =
      (A.count + q, rw j.count (omega arith), at_true (j.right p q l within) follows, at_true (j.reads_right q c within) read, right_from u q within more)

  left_to : (u : List ℕ) (p : ℕ) → p < A.count → After C p u → Both (After A p) (Takes B) u
  left_to [] p l h =
      let parts = and_parts (A.last p) B.empty (to_true (j.last_left p l) h) in ([], [], refl, parts.0, parts.1)
  left_to (c ∷ u) p l (q, within, follows, read, more) =
      elim (which A.count B.count q (subst (λ n. q < n) j.count within)) [
        | inl x ↦
            let (y, z, e, in_left, in_right) = left_to u q x more in
            (c ∷ y, z, ap (λ v. c ∷ v) e, (q, x, to_true (j.left p q l x) follows, to_true (j.reads_left q c x) read, in_left), in_right)
        | inr (k, k_within, e) ↦
            let parts = and_parts (A.last p) (B.first k) (to_true (j.across p k l k_within) (subst (λ n. IsTrue (C.follow p n)) e follows)) in
            ([], c ∷ u, refl, parts.0, (k, k_within, parts.1, to_true (j.reads_right k c k_within) (subst (λ n. IsTrue (C.reads n c)) e read), right_to u k k_within (subst (λ n. After C n u) e more)))
      ]

  left_from : (x y : List ℕ) (p : ℕ) → p < A.count → After A p x → Takes B y → After C p (x ++ y)
  left_from [] [] p l h taken = at_true (j.last_left p l) (and_from (A.last p) B.empty h taken)
  left_from [] (c ∷ y) p l h (q, within, first, read, more) =
      (A.count + q, rw j.count (omega arith), at_true (j.across p q l within) (and_from (A.last p) (B.first q) h first), at_true (j.reads_right q c within) read, right_from y q within more)
  left_from (c ∷ x) y p l (q, within, follows, read, more) taken =
      (q, rw j.count (omega arith), at_true (j.left p q l within) follows, at_true (j.reads_left q c within) read, left_from x y q within more taken)

  pub joined_to : (u : List ℕ) → Takes C u → Both (Takes A) (Takes B) u
  joined_to [] h = let parts = and_parts A.empty B.empty (to_true j.empty h) in ([], [], refl, parts.0, parts.1)
  joined_to (c ∷ u) (q, within, first, read, more) =
      elim (which A.count B.count q (subst (λ n. q < n) j.count within)) [
        | inl x ↦
            let (y, z, e, in_left, in_right) = left_to u q x more in
            (c ∷ y, z, ap (λ v. c ∷ v) e, (q, x, to_true (j.first_left q x) first, to_true (j.reads_left q c x) read, in_left), in_right)
        | inr (k, k_within, e) ↦
            let parts = and_parts A.empty (B.first k) (to_true (j.first_right k k_within) (subst (λ n. IsTrue (C.first n)) e first)) in
            ([], c ∷ u, refl, parts.0, (k, k_within, parts.1, to_true (j.reads_right k c k_within) (subst (λ n. IsTrue (C.reads n c)) e read), right_to u k k_within (subst (λ n. After C n u) e more)))
      ]

  pub joined_from : (x y : List ℕ) → Takes A x → Takes B y → Takes C (x ++ y)
  joined_from [] [] h taken = at_true j.empty (and_from A.empty B.empty h taken)
  joined_from [] (c ∷ y) h (q, within, first, read, more) =
      (A.count + q, rw j.count (omega arith), at_true (j.first_right q within) (and_from A.empty (B.first q) h first), at_true (j.reads_right q c within) read, right_from y q within more)
  joined_from (c ∷ x) y (q, within, first, read, more) taken =
      (q, rw j.count (omega arith), at_true (j.first_left q within) first, at_true (j.reads_left q c within) read, left_from x y q within more taken)

-- C takes what A takes or what B takes
pub record IsEither (A B C : Machine) : Type 0 where
  pub count : C.count ≡ A.count + B.count
  pub empty : C.empty ≡ (A.empty || B.empty)
  pub first_left : (q : ℕ) → q < A.count → C.first q ≡ A.first q
  pub first_right : (q : ℕ) → q < B.count → C.first (A.count + q) ≡ B.first q
  pub reads_left : (q c : ℕ) → q < A.count → C.reads q c ≡ A.reads q c
  pub reads_right : (q c : ℕ) → q < B.count → C.reads (A.count + q) c ≡ B.reads q c
  pub last_left : (p : ℕ) → p < A.count → C.last p ≡ A.last p
  pub last_right : (p : ℕ) → p < B.count → C.last (A.count + p) ≡ B.last p
  pub left : (p q : ℕ) → p < A.count → q < A.count → C.follow p q ≡ A.follow p q
  pub across : (p q : ℕ) → p < A.count → q < B.count → C.follow p (A.count + q) ≡ false
  pub right : (p q : ℕ) → p < B.count → q < B.count → C.follow (A.count + p) (A.count + q) ≡ B.follow p q
  pub back : (p q : ℕ) → p < B.count → q < A.count → C.follow (A.count + p) q ≡ false

module _ (A B C : Machine) (j : IsEither A B C) where
  on_right_to : (u : List ℕ) (p : ℕ) → p < B.count → After C (A.count + p) u → After B p u
  on_right_to [] p l h = to_true (j.last_right p l) h
  on_right_to (c ∷ u) p l (q, within, follows, read, more) =
      elim (which A.count B.count q (subst (λ n. q < n) j.count within)) [
        | inl x ↦ absurd (false≢true (sym (j.back p q l x) ∙ follows))
        | inr (k, k_within, e) ↦
            (k, k_within, to_true (j.right p k l k_within) (subst (λ n. IsTrue (C.follow (A.count + p) n)) e follows), to_true (j.reads_right k c k_within) (subst (λ n. IsTrue (C.reads n c)) e read), on_right_to u k k_within (subst (λ n. After C n u) e more))
      ]

  on_right_from : (u : List ℕ) (p : ℕ) → p < B.count → After B p u → After C (A.count + p) u
  on_right_from [] p l h = at_true (j.last_right p l) h
  on_right_from (c ∷ u) p l (q, within, follows, read, more) =
      (A.count + q, rw j.count (omega arith), at_true (j.right p q l within) follows, at_true (j.reads_right q c within) read, on_right_from u q within more)

  on_left_to : (u : List ℕ) (p : ℕ) → p < A.count → After C p u → After A p u
  on_left_to [] p l h = to_true (j.last_left p l) h
  on_left_to (c ∷ u) p l (q, within, follows, read, more) =
      elim (which A.count B.count q (subst (λ n. q < n) j.count within)) [
        | inl x ↦ (q, x, to_true (j.left p q l x) follows, to_true (j.reads_left q c x) read, on_left_to u q x more)
        | inr (k, k_within, e) ↦ absurd (false≢true (sym (j.across p k l k_within) ∙ subst (λ n. IsTrue (C.follow p n)) e follows))
      ]

  on_left_from : (u : List ℕ) (p : ℕ) → p < A.count → After A p u → After C p u
  on_left_from [] p l h = at_true (j.last_left p l) h
  on_left_from (c ∷ u) p l (q, within, follows, read, more) =
      (q, rw j.count (omega arith), at_true (j.left p q l within) follows, at_true (j.reads_left q c within) read, on_left_from u q within more)

  pub either_to : (u : List ℕ) → Takes C u → Takes A u ⊎ Takes B u
  either_to [] h = or_cases A.empty B.empty (to_true j.empty h)
  either_to (c ∷ u) (q, within, first, read, more) =
      elim (which A.count B.count q (subst (λ n. q < n) j.count within)) [
        | inl x ↦ inl (q, x, to_true (j.first_left q x) first, to_true (j.reads_left q c x) read, on_left_to u q x more)
        | inr (k, k_within, e) ↦
            inr (k, k_within, to_true (j.first_right k k_within) (subst (λ n. IsTrue (C.first n)) e first), to_true (j.reads_right k c k_within) (subst (λ n. IsTrue (C.reads n c)) e read), on_right_to u k k_within (subst (λ n. After C n u) e more))
      ]

  pub either_left : (u : List ℕ) → Takes A u → Takes C u
  either_left [] h = at_true j.empty (or_left A.empty B.empty h)
  either_left (c ∷ u) (q, within, first, read, more) =
      (q, rw j.count (omega arith), at_true (j.first_left q within) first, at_true (j.reads_left q c within) read, on_left_from u q within more)

  pub either_right : (u : List ℕ) → Takes B u → Takes C u
  either_right [] h = at_true j.empty (or_right A.empty B.empty h)
  either_right (c ∷ u) (q, within, first, read, more) =
      (A.count + q, rw j.count (omega arith), at_true (j.first_right q within) first, at_true (j.reads_right q c within) read, on_right_from u q within more)

-- C takes one or more texts of A in a row
pub record IsAgain (A C : Machine) : Type 0 where
  pub count : C.count ≡ A.count
  pub empty : C.empty ≡ A.empty
  pub first : (q : ℕ) → q < A.count → C.first q ≡ A.first q
  pub reads : (q c : ℕ) → q < A.count → C.reads q c ≡ A.reads q c
  pub last : (p : ℕ) → p < A.count → C.last p ≡ A.last p
  pub follow : (p q : ℕ) → p < A.count → q < A.count → C.follow p q ≡ (A.follow p q || (A.last p && A.first q))

-- some texts of P in a row
abbrev pub Some_of : (List ℕ → Type 0) → List ℕ → Type 0
Some_of P u = (n : ℕ) × Repeated P n u

-- a row that isn't empty has a first text that isn't
first_text : (P : List ℕ → Type 0) (n : ℕ) (c : ℕ) (u : List ℕ) → Repeated P n (c ∷ u) → (x : List ℕ) × (y : List ℕ) × (u ≡ x ++ y) × P (c ∷ x) × Some_of P y
first_text P zero c u h = cc h
first_text P (suc n) c u ([], y, e, p, more) = first_text P n c u (subst (Repeated P n) (sym e) more)
first_text P (suc n) c u (d ∷ x, y, e, p, more) =
    (x, y, cc e, subst (λ k. P (k ∷ x)) (let f : d ≡ c = cc e in f) p, (n, more))

module _ (A C : Machine) (j : IsAgain A C) where
  again_to : (u : List ℕ) (p : ℕ) → p < A.count → After C p u → Both (After A p) (Some_of (Takes A)) u
  again_to [] p l h = ([], [], refl, to_true (j.last p l) h, (0, refl))
  again_to (c ∷ u) p l (q, within, follows, read, more) =
      let in_a : q < A.count = subst (λ n. q < n) j.count within in
      let (x, y, e, in_left, rest) = again_to u q in_a more in
      let read_a = to_true (j.reads q c in_a) read in
      elim (or_cases (A.follow p q) (A.last p && A.first q) (to_true (j.follow p q l in_a) follows)) [
        | inl f ↦ (c ∷ x, y, ap (λ v. c ∷ v) e, (q, in_a, f, read_a, in_left), rest)
        | inr f ↦
            let parts = and_parts (A.last p) (A.first q) f in
            ([], c ∷ u, refl, parts.0, (suc rest.0, (c ∷ x, y, ap (λ v. c ∷ v) e, (q, in_a, parts.1, read_a, in_left), rest.1)))
      ]

  again_from : (u x y : List ℕ) (p : ℕ) → u ≡ x ++ y → p < A.count → After A p x → Some_of (Takes A) y → After C p u
  again_from [] [] y p e l h rest = at_true (j.last p l) h
  again_from [] (d ∷ x) y p e l h rest = cc e
  again_from (c ∷ u) [] y p e l h (n, row) =
      let (x, z, f, (q, within, first, read, more), rest) = first_text (Takes A) n c u (subst (Repeated (Takes A) n) (sym e) row) in
      (q, rw j.count within, at_true (j.follow p q l within) (or_right (A.follow p q) (A.last p && A.first q) (and_from (A.last p) (A.first q) h first)), at_true (j.reads q c within) read, again_from u x z q f within more rest)
  again_from (c ∷ u) (d ∷ x) y p e l (q, within, follows, read, more) rest =
      let same : d ≡ c = cc e in
      let others : u ≡ x ++ y = cc e in
      (q, rw j.count within, at_true (j.follow p q l within) (or_left (A.follow p q) (A.last p && A.first q) follows), at_true (j.reads q c within) (subst (λ k. IsTrue (A.reads q k)) same read), again_from u x y q others within more rest)

  pub row_to : (u : List ℕ) → Takes C u → (n : ℕ) × Repeated (Takes A) (suc n) u
  row_to [] h = (0, ([], [], refl, to_true j.empty h, refl))
  row_to (c ∷ u) (q, within, first, read, more) =
      let in_a : q < A.count = subst (λ n. q < n) j.count within in
      let (x, y, e, in_left, (n, rest)) = again_to u q in_a more in
      (n, (c ∷ x, y, ap (λ v. c ∷ v) e, (q, in_a, to_true (j.first q in_a) first, to_true (j.reads q c in_a) read, in_left), rest))

  nothing_in_row : (n : ℕ) → Repeated (Takes A) (suc n) [] → IsTrue A.empty
  nothing_in_row n ([], y, e, h, more) = h
  nothing_in_row n (d ∷ x, y, e, h, more) = cc e

  pub row_from : (u : List ℕ) (n : ℕ) → Repeated (Takes A) (suc n) u → Takes C u
  row_from [] n h = at_true j.empty (nothing_in_row n h)
  row_from (c ∷ u) n h =
      let (x, y, e, (q, within, first, read, more), rest) = first_text (Takes A) (suc n) c u h in
      (q, rw j.count within, at_true (j.first q within) first, at_true (j.reads q c within) read, again_from u x y q e within more rest)

-- a machine of one place, which reads what R says
pub record IsOne (m : Machine) (R : ℕ → Bool) : Type 0 where
  pub count : m.count ≡ 1
  pub empty : m.empty ≡ false
  pub first : m.first 0 ≡ true
  pub follow : (q : ℕ) → m.follow 0 q ≡ false
  pub last : m.last 0 ≡ true
  pub reads : (c : ℕ) → m.reads 0 c ≡ R c

module _ (m : Machine) (R : ℕ → Bool) (o : IsOne m R) where
  ends_after : (u : List ℕ) → After m 0 u → u ≡ []
  ends_after [] h = refl
  ends_after (c ∷ u) (q, within, follows, read, more) = absurd (false≢true (sym (o.follow q) ∙ follows))

  pub one_to : (u : List ℕ) → Takes m u → (c : ℕ) × (u ≡ c ∷ []) × IsTrue (R c)
  one_to [] h = absurd (false≢true (sym o.empty ∙ h))
  one_to (c ∷ u) (q, within, first, read, more) =
      let e : q ≡ 0 = omega (arith, o.count) in
      (c, ap (λ v. c ∷ v) (ends_after u (subst (λ n. After m n u) e more)), sym (o.reads c) ∙ subst (λ n. IsTrue (m.reads n c)) e read)

  pub one_from : (c : ℕ) → IsTrue (R c) → Takes m (c ∷ [])
  one_from c h = (0, omega (arith, o.count), o.first, o.reads c ∙ h, o.last)
