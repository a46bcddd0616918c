-- A text has at most one double colon that stands between groups.
use Rattle.std.proofs.Common.{◌≡◌, ◌≢◌, ℕ, ◌<◌, ◌≤◌, eqb, true, List, [], ◌∷◌, ◌++◌, length, refl, sym, ap, ◌∙◌, subst, inl, inr, arith, length-append, ◌+◌, ◌-◌, Option, None, Some, MatchOption, ◌↔◌}
use Rattle.std.specs.List.{All, onto_first}
use Rattle.std.proofs.lemmas.List.Elements.{All-head, All-tail, All-nil, All-weaker}
use Rattle.std.proofs.lemmas.List.Splits.{slice_split-cons_yes, slice_split-cons_no}
use Rattle.std.proofs.lemmas.Bool.Decides.{eqb_tells}
use Rattle.std.specs.Option.{is_some}
use Rattle.host_core.specs.Characters.{colon}
use Rattle.yang_types.specs.declared.addresses.Part.TheVariants.{Group}
use Rattle.yang_types.specs.Addresses.{double_colon, AreJoined, IsGroup, IsShortened, IsIpv6Address}
use Rattle.yang_types.specs.Parts.{ArePartsOf, IsCountOf}
use Rattle.yang_types.proofs.PartLemmas.{stand_apart}
use Rattle.yang_types.proofs.PartJoins.{StandsApart, cut, is_same, joined_cut}

abbrev IsFull : List ℕ → Type 0
IsFull s = 0 < length s

abbrev tail_of : List (List ℕ) → List (List ℕ)
tail_of [] = []
tail_of (x ∷ xs) = xs

tail-onto : (h : ℕ) (ps : List (List ℕ)) → tail_of (onto_first h ps) ≡ tail_of ps
tail-onto h [] = refl
tail-onto h (p ∷ ps) = refl

full_tail : (ps : List (List ℕ)) → All IsFull ps → All IsFull (tail_of ps)
full_tail [] all = All-nil IsFull
full_tail (p ∷ ps) all = All-tail IsFull p ps all

cut-same : (c : ℕ) (z : List ℕ) → cut c (c ∷ z) ≡ [] ∷ cut c z
cut-same c z = slice_split-cons_yes (λ b. eqb b c) c z (is_same c)

starts_empty : (c : ℕ) (z : List ℕ) → ¬ (All IsFull (cut c (c ∷ z)))
starts_empty c z all = absurd (let h : 0 < 0 = All-head IsFull [] (cut c z) (rw (cut-same c z) at all) in omega arith)

nothing_empty : ¬ (All IsFull ([] ∷ []))
nothing_empty all = absurd (let h : 0 < 0 = All-head IsFull [] [] all in omega arith)

-- an empty part behind a c
empty_behind : (c : ℕ) (a z : List ℕ) → ¬ (All IsFull (cut c z)) → ¬ (All IsFull (tail_of (cut c (a ++ c ∷ z))))
empty_behind c [] z empty all = empty (rw (cut-same c z) at all)
empty_behind c (h ∷ a) z empty all =
    elim (eqb_tells h c) [
      | inl e ↦ empty_behind c a z empty (full_tail _ (rw (slice_split-cons_yes (λ b. eqb b c) h (a ++ c ∷ z) e.0) at all))
      | inr e ↦ empty_behind c a z empty (rw tail-onto at (rw (slice_split-cons_no (λ b. eqb b c) h (a ++ c ∷ z) e.0) at all))
    ]

module _ (P : List ℕ → Type 0) (c : ℕ) (apart : StandsApart P c) (n : ℕ) (s : List ℕ) (joined : AreJoined P c n s) where
  full_parts : 0 < length s → All IsFull (cut c s)
  full_parts full = All-weaker P IsFull apart.full (cut c s) (joined_cut P c apart n s full joined).1

  -- joined parts have no two separators side by side, none at the start and none at the end
  pub no_double : (a b : List ℕ) → s ≢ a ++ c ∷ c ∷ b
  no_double a b e =
      let full : 0 < length s = omega (arith, ap length e, length-append a (c ∷ c ∷ b)) in
      let Q : List ℕ → Type 0 = λ u. All IsFull (cut c u) in
      empty_behind c a (c ∷ b) (starts_empty c b) (full_tail (cut c (a ++ c ∷ c ∷ b)) (subst Q e (full_parts full)))

  pub no_end : (a : List ℕ) → s ≢ a ++ c ∷ []
  no_end a e =
      let full : 0 < length s = omega (arith, ap length e, length-append a (c ∷ [])) in
      let Q : List ℕ → Type 0 = λ u. All IsFull (cut c u) in
      empty_behind c a [] nothing_empty (full_tail (cut c (a ++ c ∷ [])) (subst Q e (full_parts full)))

  pub no_start : (b : List ℕ) → s ≢ c ∷ b
  no_start b e =
      let full : 0 < length s = omega (arith, ap length e) in
      let Q : List ℕ → Type 0 = λ u. All IsFull (cut c u) in
      starts_empty c b (subst Q e (full_parts full))

-- so there is one place where two separators stand side by side between such parts
pub cut_unique : (c : ℕ) (x y l r : List ℕ) → ((a b : List ℕ) → x ≢ a ++ c ∷ c ∷ b) → ((a : List ℕ) → x ≢ a ++ c ∷ []) → ((b : List ℕ) → y ≢ c ∷ b) → ((a b : List ℕ) → y ≢ a ++ c ∷ c ∷ b) → x ++ c ∷ c ∷ y ≡ l ++ c ∷ c ∷ r → (x ≡ l) × (y ≡ r)
cut_unique c [] y [] r double end start later e = (refl, cc)
cut_unique c [] y (d ∷ []) r double end start later e = absurd (start r (cc))
cut_unique c [] y (d ∷ g ∷ l) r double end start later e = absurd (later l r (cc))
cut_unique c (a ∷ []) y [] r double end start later e = absurd (end [] (cc))
cut_unique c (a ∷ b ∷ x) y [] r double end start later e = absurd (double [] x (cc))
cut_unique c (a ∷ x) y (d ∷ l) r double end start later e =
    let rest : x ++ c ∷ c ∷ y ≡ l ++ c ∷ c ∷ r = cc in
    let head : a ≡ d = cc in
    let same = cut_unique c x y l r (λ p q f. double (a ∷ p) q (ap (λ u. a ∷ u) f)) (λ p f. end (a ∷ p) (ap (λ u. a ∷ u) f)) start later rest in
    (cc, same.1)

pub not_shortened : (s : List ℕ) → ((xs ys : List ℕ) → s ≢ xs ++ (double_colon ++ ys)) → ¬ (IsShortened s)
not_shortened s none (m, n, left, right, few, lefts, rights, same) = none left right same

-- where a text is cut at a double colon, the groups on both sides are those of the address
shortened_cut : (s l r : List ℕ) → s ≡ l ++ (double_colon ++ r) → IsIpv6Address s → (m : ℕ) × (n : ℕ) × (m + n ≤ 7) × ArePartsOf Group m l × ArePartsOf Group n r
shortened_cut s l r e (inl full) = absurd (no_double IsGroup colon (stand_apart Group) 8 s full l r e)
shortened_cut s l r e (inr (m, n, left, right, few, lefts, rights, same)) =
    let unique = cut_unique colon left right l r
    (no_double IsGroup colon (stand_apart Group) m left lefts) (no_end IsGroup colon (stand_apart Group) m left lefts)
    (no_start IsGroup colon (stand_apart Group) n right rights) (no_double IsGroup colon (stand_apart Group) n right rights)
    (sym same ∙ e) in
    (m, n, few, subst (ArePartsOf Group m) unique.0 lefts, subst (ArePartsOf Group n) unique.1 rights)

pub shortened_fails : (s l r : List ℕ) → s ≡ l ++ (double_colon ++ r) → ((n : ℕ) → n ≤ 7 → ¬ (ArePartsOf Group n l)) → ¬ (IsIpv6Address s)
shortened_fails s l r e none h =
    let parts = shortened_cut s l r e h in
    none parts.0 (omega (arith, parts.2)) parts.3

pub shortened_decided : (s l r : List ℕ) → s ≡ l ++ (double_colon ++ r) → (count : ℕ) → count ≤ 7 → IsCountOf Group l count → (o : Option ℕ) → MatchOption o ((n : ℕ) → n ≤ 7 - count → ¬ (ArePartsOf Group n r)) (λ n. (n ≤ 7 - count) × IsCountOf Group r n) → (is_some o ≡ true) ↔ IsIpv6Address s
shortened_decided s l r e count few lefts None none = (
  λ f. absurd (cc),
  λ h.
      let parts = shortened_cut s l r e h in
      let same : parts.0 ≡ count = lefts.1 parts.0 parts.3 in
      absurd (none parts.1 (omega (arith, parts.2)) parts.4),
)
shortened_decided s l r e count few lefts (Some n) rights =
    (λ f. inr (count, n, l, r, omega arith, lefts.0, rights.1.0, e), λ h. refl)
