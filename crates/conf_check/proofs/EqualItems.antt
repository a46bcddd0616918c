-- Equal items of a list, some in a group and the rest behind it.
use Rattle.std.proofs.Common.{◌≡◌, ◌<◌, ◌+◌, ◌-◌, ◌⊎◌, ◌∙◌, ℕ, zero, suc, Bool, true, false, Some, None, slice_get, List, [], ◌∷◌, ◌++◌, length, get_or, set, take, drop, refl, sym, ap, subst, inl, inr, arith, length-append}
use Rattle.std.proofs.lemmas.Bool.{cases_lt, cases_eq, false≢true}
use Rattle.std.proofs.lemmas.List.{get_or_append_left, get_or-append-add, get_or-append_right, get_or-set_same, get_or-set_other, take-append-drop}
use Rattle.std.specs.List.{Any, Contains}
use Rattle.conf_check.specs.Validity.{AreSomeEqual}
use Rattle.conf_check.specs.EqualItems.{slot, IsMarked, IsRising, order}
use Rattle.std.specs.declared.cmp.Ordering.TheVariants.{Less, Equal}
use Rattle.std.specs.Cmp.{IsTotalOrder}
use Rattle.std.proofs.lemmas.Cmp.{nat_list_cmp_total, nat_cmp_total, then_total, on_total, tied_itself}

-- a text again behind those of a group
abbrev pub IsAgain : List (List ℕ) → List (List ℕ) → Type 0
IsAgain group behind = Any (Contains group) behind

contained : (gs bs : List (List ℕ)) (g : List ℕ) → Contains (gs ++ bs) g → Contains gs g ⊎ Contains bs g
contained gs bs g (k, within, at) = elim (cases_lt k (length gs)) [
  | inl l ↦ inl (k, l, sym (get_or_append_left gs bs g k l) ∙ at)
  | inr r ↦ inr (k - length gs, omega (arith, length-append gs bs), sym (get_or-append_right gs bs (length gs) k g refl r) ∙ at)
]

contained_left : (gs bs : List (List ℕ)) (g : List ℕ) → Contains gs g → Contains (gs ++ bs) g
contained_left gs bs g (k, within, at) = (k, omega (arith, length-append gs bs), get_or_append_left gs bs g k within ∙ at)

contained_right : (gs bs : List (List ℕ)) (g : List ℕ) → Contains bs g → Contains (gs ++ bs) g
contained_right gs bs g (k, within, at) = (length gs + k, omega (arith, length-append gs bs), get_or-append-add gs bs k g ∙ at)

abbrev Parts : List (List ℕ) → List (List ℕ) → Type 0
Parts gs bs = AreSomeEqual gs ⊎ IsAgain gs bs ⊎ AreSomeEqual bs

again_more : (g : List ℕ) (gs bs : List (List ℕ)) → Parts gs bs → Parts (g ∷ gs) bs
again_more g gs bs (inl a) = inl (inr a)
again_more g gs bs (inr (inl (k, x, within, at, (j, below, is)))) = inr (inl (k, x, within, at, (suc j, omega arith, is)))
again_more g gs bs (inr (inr b)) = inr (inr b)

pub parted : (gs bs : List (List ℕ)) → AreSomeEqual (gs ++ bs) → Parts gs bs
parted [] bs e = inr (inr e)
parted (g ∷ gs) bs (inl c) = elim (contained gs bs g c) [
  | inl l ↦ inl (inl l)
  | inr r ↦ inr (inl (r.0, g, r.1, r.2, (0, omega arith, refl)))
]
parted (g ∷ gs) bs (inr e) = again_more g gs bs (parted gs bs e)

pub joined : (gs bs : List (List ℕ)) → Parts gs bs → AreSomeEqual (gs ++ bs)
joined [] bs (inl e) = absurd e
joined [] bs (inr (inl (k, x, within, at, (j, below, is)))) = absurd (omega arith)
joined [] bs (inr (inr e)) = e
joined (g ∷ gs) bs (inl (inl c)) = inl (contained_left gs bs g c)
joined (g ∷ gs) bs (inl (inr e)) = inr (joined gs bs (inl e))
joined (g ∷ gs) bs (inr (inl (k, x, within, at, (zero, below, is)))) =
    inl (contained_right gs bs g (subst (Contains bs) (sym is) (k, within, at)))
joined (g ∷ gs) bs (inr (inl (k, x, within, at, (suc j, below, is)))) =
    inr (joined gs bs (inr (inl (k, x, within, at, (j, omega arith, is)))))
joined (g ∷ gs) bs (inr (inr e)) = inr (joined gs bs (inr (inr e)))

-- the same of a list and its parts
pub parted_at : (n : ℕ) (xs gs bs : List (List ℕ)) → gs ≡ take n xs → bs ≡ drop n xs → AreSomeEqual xs → Parts gs bs
parted_at n xs gs bs front back e =
    parted gs bs (subst AreSomeEqual (sym (take-append-drop n xs) ∙ ap (λ ys. ys ++ drop n xs) (sym front) ∙ ap (λ ys. gs ++ ys) (sym back)) e)

pub joined_at : (n : ℕ) (xs gs bs : List (List ℕ)) → gs ≡ take n xs → bs ≡ drop n xs → Parts gs bs → AreSomeEqual xs
joined_at n xs gs bs front back e =
    subst AreSomeEqual (sym (sym (take-append-drop n xs) ∙ ap (λ ys. ys ++ drop n xs) (sym front) ∙ ap (λ ys. gs ++ ys) (sym back))) (joined gs bs e)

-- a slot stays marked
pub marked_still : (taken : List Bool) (n : ℕ) (s : List ℕ) → n < length taken → IsMarked taken s → IsMarked (set taken n true) s
marked_still taken n s within marked = elim (cases_eq (slot s) n) [
  | inl e ↦ subst (λ k. get_or (set taken n true) k false ≡ true) (sym e) (get_or-set_same taken n true false within)
  | inr other ↦ get_or-set_other taken n (slot s) true false other ∙ marked
]

pub marked_now : (taken : List Bool) (n : ℕ) (s : List ℕ) → n < length taken → n ≡ slot s → IsMarked (set taken n true) s
marked_now taken n s within e = subst (λ k. get_or (set taken n true) k false ≡ true) e (get_or-set_same taken n true false within)

order_total : (by_length : Bool) → IsTotalOrder (order by_length)
order_total true = then_total (on_total length nat_cmp_total) nat_list_cmp_total
order_total false = nat_list_cmp_total

rising_above : (by_length : Bool) (s : List ℕ) (ts : List (List ℕ)) → IsRising by_length (s ∷ ts) → (k : ℕ) (d : List ℕ) → k < length ts → order by_length s (get_or ts k d) ≡ Less
rising_above by_length s [] rising k d within = absurd (omega arith)
rising_above by_length s (t ∷ ts) rising zero d within = rising.0
rising_above by_length s (t ∷ ts) rising (suc k) d within =
    (order_total by_length).trans s t (get_or ts k d) rising.0 (rising_above by_length t ts rising.1 k d (omega arith))

rising_rest : (by_length : Bool) (s : List ℕ) (ts : List (List ℕ)) → IsRising by_length (s ∷ ts) → IsRising by_length ts
rising_rest by_length s [] rising = tt
rising_rest by_length s (t ∷ ts) rising = rising.1

less≢equal : Less ≡ Equal → ⊥
less≢equal e = cc

-- texts that rise are all different
pub none_equal : (by_length : Bool) (ts : List (List ℕ)) → IsRising by_length ts → ¬ AreSomeEqual ts
none_equal by_length [] rising e = e
none_equal by_length (s ∷ ts) rising (inl (k, within, at)) =
    less≢equal (sym (rising_above by_length s ts rising k s within) ∙ ap (order by_length s) at ∙ tied_itself (order_total by_length) s)
none_equal by_length (s ∷ ts) rising (inr e) = none_equal by_length ts (rising_rest by_length s ts rising) e

-- with no text again in the group or behind it, what is left is behind
pub left_over : (p q : Bool) (gs bs : List (List ℕ)) → p ≡ false → q ≡ false → (AreSomeEqual gs → p ≡ true) → (IsAgain gs bs → q ≡ true) → Parts gs bs → AreSomeEqual bs
left_over p q gs bs single none pair again (inl a) = absurd (false≢true (sym single ∙ pair a))
left_over p q gs bs single none pair again (inr (inl a)) = absurd (false≢true (sym none ∙ again a))
left_over p q gs bs single none pair again (inr (inr b)) = b

some_same : (x y : List ℕ) → Some x ≡ Some y → x ≡ y
some_same x y e = cc

rising_on : (by_length : Bool) (s n : List ℕ) (ts : List (List ℕ)) → Some n ≡ slice_get ts 0 → order by_length s n ≡ Less → IsRising by_length ts → IsRising by_length (s ∷ ts)
rising_on by_length s n [] at less rising = tt
rising_on by_length s n (t ∷ ts) at less rising = (subst (λ x. order by_length s x ≡ Less) (some_same n t at) less, rising)

-- a text before those that rise, where it comes before the first of them
pub rising_more : (by_length b : Bool) (s n s' n' : List ℕ) (xs ts : List (List ℕ)) → xs ≡ s ∷ ts → Some n ≡ slice_get ts 0 → s' ≡ s → n' ≡ n → b ≡ true
    → (b ≡ true → order by_length s' n' ≡ Less) → IsRising by_length ts → IsRising by_length xs
rising_more by_length b s n s' n' xs ts is at same next before says rising =
    let less : order by_length s n ≡ Less = subst (λ x. order by_length x n ≡ Less) same (subst (λ x. order by_length s' x ≡ Less) next (says before)) in
    subst (IsRising by_length) (sym is) (rising_on by_length s n ts at less rising)

rising_one : (by_length : Bool) (s : List ℕ) (ts : List (List ℕ)) → slice_get ts 0 ≡ None → IsRising by_length (s ∷ ts)
rising_one by_length s [] none = tt
rising_one by_length s (t ∷ ts) none = absurd (cc)

-- the last one
pub rising_last : (by_length : Bool) (s : List ℕ) (xs ts : List (List ℕ)) → xs ≡ s ∷ ts → slice_get ts 0 ≡ None → IsRising by_length xs
rising_last by_length s xs ts is none = subst (IsRising by_length) (sym is) (rising_one by_length s ts none)

-- no text
pub rising_none : (by_length : Bool) (xs : List (List ℕ)) → length xs ≡ 0 → IsRising by_length xs
rising_none by_length [] is = tt
rising_none by_length (x ∷ xs) is = absurd (omega arith)
