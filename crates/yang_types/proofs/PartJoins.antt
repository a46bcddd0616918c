-- Parts joined by a character that none of them has are what the text is cut into at that character.
use Rattle.std.proofs.Common.{◌≡◌, ℕ, ◌<◌, ◌≤◌, eqb, true, false, List, [], ◌∷◌, length, refl, sym, ap, ◌∙◌, arith, length-append}
use Rattle.std.specs.List.{All, slice_split, join_with_byte}
use Rattle.std.proofs.lemmas.List.{nil_from_length}
use Rattle.std.proofs.lemmas.List.Elements.{All-head, All-tail, All-nil}
use Rattle.std.proofs.lemmas.List.Splits.{slice_split_none, slice_split_at, join_with_byte-slice_split}
use Rattle.std.proofs.lemmas.Bool.Decides.{nat_tests}
use Rattle.yang_types.specs.Addresses.{AreJoined}

-- parts that are not empty and have no c
pub record StandsApart (P : List ℕ → Type 0) (c : ℕ) : Type 0 where
  pub full : (s : List ℕ) → P s → 0 < length s
  pub lacks : (s : List ℕ) → P s → All (λ b. eqb b c ≡ false) s

-- the parts of a text
abbrev pub cut : ℕ → List ℕ → List (List ℕ)
cut c s = slice_split (λ b. eqb b c) s

pub is_same : (c : ℕ) → eqb c c ≡ true
is_same c = grind (arith, nat_tests)

cut-join : (P : List ℕ → Type 0) (c : ℕ) → StandsApart P c → (x : List ℕ) (xs : List (List ℕ)) → All P (x ∷ xs) → cut c (join_with_byte c (x ∷ xs)) ≡ x ∷ xs
cut-join P c apart x [] all = slice_split_none (λ b. eqb b c) x (apart.lacks x (All-head P x [] all))
cut-join P c apart x (y ∷ ys) all =
    slice_split_at (λ b. eqb b c) x c (join_with_byte c (y ∷ ys)) (apart.lacks x (All-head P x (y ∷ ys) all)) (is_same c)
    ∙ ap (λ r. x ∷ r) (cut-join P c apart y ys (All-tail P x (y ∷ ys) all))

-- no part at all
pub joined_nil : (P : List ℕ → Type 0) (c : ℕ) (s : List ℕ) → length s ≡ 0 → AreJoined P c 0 s
joined_nil P c s empty = ([], refl, All-nil P, nil_from_length s empty)

length_join : (c : ℕ) (x : List ℕ) (xs : List (List ℕ)) → length x ≤ length (join_with_byte c (x ∷ xs))
length_join c x [] = omega arith
length_join c x (y ∷ ys) = omega (arith, length-append x (c ∷ join_with_byte c (y ∷ ys)))

-- parts of a text that is empty
pub joined_none : (P : List ℕ → Type 0) (c : ℕ) → StandsApart P c → (n : ℕ) (s : List ℕ) → length s ≡ 0 → AreJoined P c n s → n ≡ 0
joined_none P c apart n s empty ([], count, all, same) = sym count
joined_none P c apart n s empty (x ∷ xs, count, all, same) =
    absurd (omega (arith, ap length same, length_join c x xs, apart.full x (All-head P x xs all)))

-- parts of one that isn't are those that it is cut into
pub joined_cut : (P : List ℕ → Type 0) (c : ℕ) → StandsApart P c → (n : ℕ) (s : List ℕ) → 0 < length s → AreJoined P c n s → (n ≡ length (cut c s)) × All P (cut c s)
joined_cut P c apart n s full ([], count, all, same) = absurd (omega (arith, ap length same))
joined_cut P c apart n s full (x ∷ xs, count, all, same) =
    let e : cut c s ≡ x ∷ xs = ap (cut c) same ∙ cut-join P c apart x xs all in
    (sym count ∙ ap length (sym e), rw e all)

-- and a text that is cut into parts is them, joined
pub joined_from_cut : (P : List ℕ → Type 0) (c : ℕ) (s : List ℕ) → All P (cut c s) → AreJoined P c (length (cut c s)) s
joined_from_cut P c s all = (cut c s, refl, all, sym (join_with_byte-slice_split c s))
