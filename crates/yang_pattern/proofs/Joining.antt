-- The places of two fragments, one behind the other.
use Rattle.std.proofs.Common.{◌≡◌, ℕ, ◌+◌, ◌-◌, ◌<◌, ◌≤◌, Bool, true, false, ◌&&◌, ◌||◌, leb, List, length, refl, ap, ◌∙◌, subst, inl, inr, arith}
use Rattle.std.proofs.lemmas.Bool.{cases_lt, le-leb, lt-leb}
use Rattle.yang_pattern.specs.declared.fragments.Place.{Place}
use Rattle.yang_pattern.specs.declared.sets.Places.{Places}
use Rattle.yang_pattern.specs.PlaceSets.{contains, place_at, IsAppended, IsShifted, IsLedOn, IsWithin}
use Rattle.yang_pattern.specs.Machine.{machine_from}
use Rattle.yang_pattern.proofs.Languages.{IsJoined, IsEither, IsAgain}

and_false : (b : Bool) → (b && false) ≡ false
and_false true = refl
and_false false = refl

and_true : (b : Bool) → (b && true) ≡ b
and_true true = refl
and_true false = refl

or_false : (b : Bool) → (b || false) ≡ b
or_false true = refl
or_false false = refl

-- a set moved up by n has nothing below n, and beyond n what the set has
module _ (n : ℕ) (old new : ℕ → Bool) (shift : (q : ℕ) → q < 1024 → new q ≡ (leb n q && old (q - n))) where
  pub moved_low : (q : ℕ) → n ≤ 1024 → q < n → new q ≡ false
  moved_low q top h = shift q (omega arith) ∙ ap (λ b. b && old (q - n)) (lt-leb n q h)

  pub moved_high : (q : ℕ) → n + q < 1024 → new (n + q) ≡ old q
  moved_high q h =
      let back : n + q - n ≡ q = omega arith in
      shift (n + q) h ∙ ap (λ b. b && old (n + q - n)) (le-leb n (n + q) (omega arith)) ∙ ap old back

-- the places of two fragments, the second moved behind the first, which may have been linked
module _ (a b : List Place) (fits : length a + length b ≤ 1024) (linked : List Place) (same : length linked ≡ length a) (c : List Place) (appended : IsAppended linked b c) where
  pub count_is : length c ≡ length a + length b
  count_is = appended.count ∙ ap (λ n. n + length b) same

  pub left_is : (p : ℕ) → p < length a → place_at c p ≡ place_at linked p
  left_is p h = appended.before p (omega arith)

  pub right_is : (p : ℕ) → p < length b → IsShifted (length a) (place_at b p) (place_at c (length a + p))
  right_is p h = subst (λ n. IsShifted n (place_at b p) (place_at c (n + p))) same (appended.behind p h)

  pub right_at : (p q : ℕ) → p < length b → length a + q < 1024 → contains (place_at c (length a + p)).follow (length a + q) ≡ contains (place_at b p).follow q
  right_at p q h l = moved_high (length a) (contains (place_at b p).follow) (contains (place_at c (length a + p)).follow) (right_is p h).follow q l

  pub right_back : (p q : ℕ) → p < length b → q < length a → contains (place_at c (length a + p)).follow q ≡ false
  right_back p q h l = moved_low (length a) (contains (place_at b p).follow) (contains (place_at c (length a + p)).follow) (right_is p h).follow q (omega arith) l

-- the second fragment's first places, moved behind the first fragment
module _ (a b : List Place) (fits : length a + length b ≤ 1024) (fa fb : Places) (wa : IsWithin a fa) (wb : IsWithin b fb) (entered : Places) (entered_is : (q : ℕ) → q < 1024 → contains entered q ≡ (leb (length a) q && contains fb (q - length a))) where
  entered_low : (q : ℕ) → q < length a → contains entered q ≡ false
  entered_low q h = moved_low (length a) (contains fb) (contains entered) entered_is q (omega arith) h

  entered_high : (q : ℕ) → length a + q < 1024 → contains entered (length a + q) ≡ contains fb q
  entered_high q h = moved_high (length a) (contains fb) (contains entered) entered_is q h

  entered_past : (q : ℕ) → q < 1024 → length a + length b ≤ q → contains entered q ≡ false
  entered_past q h l =
      let e : length a + (q - length a) ≡ q = omega arith in
      subst (λ n. contains entered n ≡ false) e (entered_high (q - length a) (omega arith) ∙ wb.0 (q - length a) (omega arith) (omega arith))

  module _ (eb : Bool) (linked : List Place) (same : length linked ≡ length a) (links : (k : ℕ) → k < length a → IsLedOn entered eb (place_at a k) (place_at linked k)) (c : List Place) (appended : IsAppended linked b c) where
    linked_at : (p q : ℕ) → p < length a → q < 1024 → contains (place_at c p).follow q ≡ (contains (place_at a p).follow q || ((place_at a p).last && contains entered q))
    linked_at p q h l = ap (λ (x : Place). contains x.follow q) (left_is a b fits linked same c appended p h) ∙ (links p h).follow q l

    linked_left : (p q : ℕ) → p < length a → q < length a → contains (place_at c p).follow q ≡ contains (place_at a p).follow q
    linked_left p q h l = linked_at p q h (omega arith) ∙ rw (entered_low q l, and_false, or_false) refl

    linked_across : (p q : ℕ) → p < length a → q < length b → contains (place_at c p).follow (length a + q) ≡ ((place_at a p).last && contains fb q)
    linked_across p q h l = linked_at p (length a + q) h (omega arith) ∙ rw (wa.1 p (length a + q) h (omega arith) (omega arith), entered_high q (omega arith)) refl

    linked_past : (p q : ℕ) → p < length a → q < 1024 → length a + length b ≤ q → contains (place_at c p).follow q ≡ false
    linked_past p q h l m = linked_at p q h l ∙ rw (wa.1 p q h l (omega arith), entered_past q l m, and_false) refl

    module _ (ea : Bool) (fc : Places) (first_is : (q : ℕ) → q < 1024 → contains fc q ≡ (contains fa q || (ea && contains entered q))) where
      pub joined : (r : ℕ → ℕ → Bool) → IsJoined (machine_from r a fa ea) (machine_from r b fb eb) (machine_from r c fc (ea && eb))
      joined r = record {
        count = count_is a b fits linked same c appended;
        empty = refl;
        first_left = λ q h. first_is q (omega arith) ∙ rw (entered_low q h, and_false, or_false) refl;
        first_right = λ q h. first_is (length a + q) (omega arith) ∙ rw (wa.0 (length a + q) (omega arith) (omega arith), entered_high q (omega arith)) refl;
        reads_left = λ q d h. ap (λ (x : Place). r x.token d) (left_is a b fits linked same c appended q h) ∙ ap (λ n. r n d) (links q h).token;
        reads_right = λ q d h. ap (λ n. r n d) (right_is a b fits linked same c appended q h).token;
        last_left = λ p h. ap (λ (x : Place). x.last) (left_is a b fits linked same c appended p h) ∙ (links p h).last;
        last_right = λ p h. (right_is a b fits linked same c appended p h).last;
        left = λ p q h l. linked_left p q h l;
        across = λ p q h l. linked_across p q h l;
        right = λ p q h l. right_at a b fits linked same c appended p q h (omega arith);
        back = λ p q h l. right_back a b fits linked same c appended p q h l;
      }

      pub joined_within : IsWithin c fc
      joined_within =
          let n = count_is a b fits linked same c appended in (
            λ q l h. first_is q l ∙ rw (wa.0 q l (omega arith), entered_past q l (omega arith), and_false) refl,
            λ p q h l m. elim (cases_lt p (length a)) [
              | inl x ↦ linked_past p q x l (omega arith)
              | inr x ↦
                  let e : length a + (p - length a) ≡ p = omega arith in
                  let f : length a + (q - length a) ≡ q = omega arith in
                  subst (λ k. contains (place_at c k).follow q ≡ false) e
                  (subst (λ k. contains (place_at c (length a + (p - length a))).follow k ≡ false) f
                  (right_at a b fits linked same c appended (p - length a) (q - length a) (omega arith) (omega arith) ∙ wb.1 (p - length a) (q - length a) (omega arith) (omega arith) (omega arith)))
            ],
          )

  module _ (c : List Place) (appended : IsAppended a b c) (ea eb : Bool) (fc : Places) (first_is : (q : ℕ) → q < 1024 → contains fc q ≡ (contains fa q || (true && contains entered q))) where
    pub either : (r : ℕ → ℕ → Bool) → IsEither (machine_from r a fa ea) (machine_from r b fb eb) (machine_from r c fc (ea || eb))
    either r = record {
      count = count_is a b fits a refl c appended;
      empty = refl;
      first_left = λ q h. first_is q (omega arith) ∙ rw (entered_low q h, or_false) refl;
      first_right = λ q h. first_is (length a + q) (omega arith) ∙ rw (wa.0 (length a + q) (omega arith) (omega arith), entered_high q (omega arith)) refl;
      reads_left = λ q d h. ap (λ (x : Place). r x.token d) (left_is a b fits a refl c appended q h);
      reads_right = λ q d h. ap (λ n. r n d) (right_is a b fits a refl c appended q h).token;
      last_left = λ p h. ap (λ (x : Place). x.last) (left_is a b fits a refl c appended p h);
      last_right = λ p h. (right_is a b fits a refl c appended p h).last;
      left = λ p q h l. ap (λ (x : Place). contains x.follow q) (left_is a b fits a refl c appended p h);
      across = λ p q h l. ap (λ (x : Place). contains x.follow (length a + q)) (left_is a b fits a refl c appended p h) ∙ wa.1 p (length a + q) h (omega arith) (omega arith);
      right = λ p q h l. right_at a b fits a refl c appended p q h (omega arith);
      back = λ p q h l. right_back a b fits a refl c appended p q h l;
    }

    pub either_within : IsWithin c fc
    either_within =
        let n = count_is a b fits a refl c appended in (
          λ q l h. first_is q l ∙ rw (wa.0 q l (omega arith), entered_past q l (omega arith)) refl,
          λ p q h l m. elim (cases_lt p (length a)) [
            | inl x ↦ ap (λ (y : Place). contains y.follow q) (left_is a b fits a refl c appended p x) ∙ wa.1 p q x l (omega arith)
            | inr x ↦
                let e : length a + (p - length a) ≡ p = omega arith in
                let f : length a + (q - length a) ≡ q = omega arith in
                subst (λ k. contains (place_at c k).follow q ≡ false) e
                (subst (λ k. contains (place_at c (length a + (p - length a))).follow k ≡ false) f
                (right_at a b fits a refl c appended (p - length a) (q - length a) (omega arith) (omega arith) ∙ wb.1 (p - length a) (q - length a) (omega arith) (omega arith) (omega arith)))
          ],
        )

-- places that may begin again
module _ (a : List Place) (fa : Places) (wa : IsWithin a fa) (c : List Place) (same : length c ≡ length a) (small : length a ≤ 1024) (links : (k : ℕ) → k < length a → IsLedOn fa true (place_at a k) (place_at c k)) where
  pub again : (r : ℕ → ℕ → Bool) (e : Bool) → IsAgain (machine_from r a fa e) (machine_from r c fa e)
  again r e = record {
    count = same;
    empty = refl;
    first = λ q h. refl;
    reads = λ q d h. ap (λ n. r n d) (links q h).token;
    last = λ p h. (links p h).last ∙ and_true (place_at a p).last;
    follow = λ p q h l. (links p h).follow q (omega arith);
  }

  pub again_within : IsWithin c fa
  again_within = (
    λ q l h. wa.0 q l (omega arith),
    λ p q h l m. (links p (omega arith)).follow q l ∙ rw (wa.1 p q (omega arith) l (omega arith), wa.0 q l (omega arith), and_false) refl,
  )
