-- The places that are left grow fewer with each want.
use Rattle.std.proofs.Common.{◌≡◌, ◌<◌, ◌≤◌, ◌+◌, ◌*◌, ◌-◌, ◌^◌, ℕ, Option, Some, None, refl, sym, ap, subst, inl, inr, arith}
use Rattle.std.specs.Iterator.{Count, IsFinite, MakesProgress, size}
use Rattle.std.proofs.lemmas.Bool.{cases_lt}
use Rattle.conf_check.specs.Wants.{IsPlaceBefore, IsFieldBefore}
use Rattle.conf_check.specs.WantRuns.{after, field_number, place_number, places_left}
use Rattle.conf_check.specs.declared.want_iter.WantPlace.{WantPlace}

abbrev digits : ℕ → ℕ → ℕ → ℕ → ℕ
digits t k f i = ((t * 18446744073709551617 + k) * 18446744073709551617 + f) * 18446744073709551617 + i

abbrev whole : ℕ
whole = 18446744073709551617 * 18446744073709551617 * 18446744073709551617 * 18446744073709551617

fewer_by_table : (t k f i t' k' f' i' : ℕ) → t < t' → t < 2 ^ 64 → k < 2 ^ 64 → f ≤ 2 ^ 64 → i < 2 ^ 64
    → whole - (digits t' k' f' i' + 1) < whole - digits t k f i
fewer_by_table t k f i t' k' f' i' lt bt bk bf bi = omega arith

fewer_by_key : (t k f i k' f' i' : ℕ) → k < k' → t < 2 ^ 64 → k < 2 ^ 64 → f ≤ 2 ^ 64 → i < 2 ^ 64
    → whole - (digits t k' f' i' + 1) < whole - digits t k f i
fewer_by_key t k f i k' f' i' lt bt bk bf bi = omega arith

fewer_by_field : (t k f i f' i' : ℕ) → f < f' → t < 2 ^ 64 → k < 2 ^ 64 → f ≤ 2 ^ 64 → i < 2 ^ 64
    → whole - (digits t k f' i' + 1) < whole - digits t k f i
fewer_by_field t k f i f' i' lt bt bk bf bi = omega arith

fewer_by_item : (t k f i i' : ℕ) → i ≤ i' → t < 2 ^ 64 → k < 2 ^ 64 → f ≤ 2 ^ 64 → i < 2 ^ 64
    → whole - (digits t k f i' + 1) < whole - digits t k f i
fewer_by_item t k f i i' le bt bk bf bi = omega arith

number_before : (a b : Option ℕ) → field_number a < field_number b → IsFieldBefore a b
number_before None None lt = absurd (omega arith)
number_before None (Some g) lt = tt
number_before (Some f) None lt = absurd (omega arith)
number_before (Some f) (Some g) lt = omega arith

number_same : (a b : Option ℕ) → field_number a ≡ field_number b → a ≡ b
number_same None None e = refl
number_same None (Some g) e = absurd (omega arith)
number_same (Some f) None e = absurd (omega arith)
number_same (Some f) (Some g) e = let same : f ≡ g = omega arith in ap Some same

-- a want stands at the place that it was sought from or behind it, and the next is sought from behind it
pub places_fall : (s p : WantPlace) → ¬ IsPlaceBefore p s → s.table < 2 ^ 64 → s.key < 2 ^ 64 → field_number s.field ≤ 2 ^ 64 → s.item < 2 ^ 64
    → places_left (after p) < places_left s
places_fall s p not bt bk bf bi =
    let number : place_number (after p) ≡ place_number p + 1 = omega arith in
    let left : whole - (place_number p + 1) < whole - place_number s =
    elim (cases_lt s.table p.table) [
      | inl lt ↦ fewer_by_table s.table s.key (field_number s.field) s.item p.table p.key (field_number p.field) p.item lt bt bk bf bi
      | inr t ↦ elim (cases_lt p.table s.table) [
        | inl lt ↦ absurd (not (inl lt))
        | inr t' ↦
            let te : p.table ≡ s.table = omega arith in
            rw te
            (elim (cases_lt s.key p.key) [
              | inl lt ↦ fewer_by_key s.table s.key (field_number s.field) s.item p.key (field_number p.field) p.item lt bt bk bf bi
              | inr k ↦ elim (cases_lt p.key s.key) [
                | inl lt ↦ absurd (not (inr (te, inl lt)))
                | inr k' ↦
                    let ke : p.key ≡ s.key = omega arith in
                    rw ke
                    (elim (cases_lt (field_number s.field) (field_number p.field)) [
                      | inl lt ↦ fewer_by_field s.table s.key (field_number s.field) s.item (field_number p.field) p.item lt bt bk bf bi
                      | inr f ↦ elim (cases_lt (field_number p.field) (field_number s.field)) [
                        | inl lt ↦ absurd (not (inr (te, inr (ke, inl (number_before p.field s.field lt)))))
                        | inr f' ↦
                            let fe : field_number p.field ≡ field_number s.field = omega arith in
                            elim (cases_lt p.item s.item) [
                              | inl lt ↦ absurd (not (inr (te, inr (ke, inr (number_same p.field s.field fe, lt)))))
                              | inr i ↦ rw fe (fewer_by_item s.table s.key (field_number s.field) s.item p.item i bt bk bf bi)
                            ]
                      ]
                    ])
              ]
            ])
      ]
    ] in
    omega (arith, left, number)

-- an item was given, and fewer are left
pub progress : {S A : Type 0} (can : S → Type 0) (left : S → Count) (s : S) (r : Option A) (t : S) (a : A) → r ≡ Some a → can t → IsFinite (left t)
    → size (left t) < size (left s) → MakesProgress can left s r t
progress can left s r t a is next finite less =
    subst (λ o. MakesProgress can left s o t) (sym is) (record { on = λ _. (next, finite, less); keeps = next; rests = λ _. tt })
