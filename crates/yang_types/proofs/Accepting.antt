-- Which texts a type accepts can be told.
use Rattle.std.proofs.Common.{◌≡◌, ◌⊎◌, inl, inr, ℕ, zero, suc, ◌+◌, ◌≤◌, Bool, true, false, List, [], ◌∷◌, ◌++◌, length, codes, refl, sym, ap, ◌∙◌, subst, arith}
use Rattle.std.specs.Prelude.{ℤ, pos, neg_ℤ, ◌≤ℤ◌, slice_index}
use Rattle.std.specs.Char.{IsAsciiHexdigit, digit_value}
use Rattle.std.specs.Int.Signed.{le_z}
use Rattle.std.specs.List.{join_with_byte}
use Rattle.std.specs.Str.Parse.{AllDigits}
use Rattle.std.proofs.lemmas.Int.{ints}
use Rattle.std.proofs.lemmas.List.Elements.{All-nil, All-cons, All-head, All-tail}
use Rattle.host_core.specs.Characters.{colon, digit_zero, full_stop, hyphen, plus, slash}
use Rattle.yang_pattern.specs.Decided.{IsDecided}
use Rattle.yang_pattern.specs.Language.{MatchesText}
use Rattle.yang_pattern.proofs.Decisions.{Told, like, both, either, implied, at_most, same_number, same_text, up_to, split, all, some, among, told_by}
use Rattle.yang_types.specs.declared.types.Bounds.{Bounds}
use Rattle.yang_types.specs.declared.types.Builtin.{Builtin}
use Rattle.yang_types.specs.declared.types.Builtin.TheVariants.{Ipv4Address, Ipv6Address, IpAddress, Ipv4Prefix, Ipv6Prefix, IpPrefix, MacAddress}
use Rattle.yang_types.specs.Numbers.{IsDecimal, decimal, HasSign, IsNumber, IsWithin, IsWithinAny, IsNumberWithin, IsPlainNumber}
use Rattle.yang_types.specs.Addresses.{double_colon, AreJoined, IsOctet, IsGroup, IsPair, IsIpv4Address, IsShortened, IsIpv6Address, IsIpv4Length, IsIpv6Length, IsPrefixOf, IsBuiltin}
use Rattle.yang_types.specs.Accepts.{Accepts, AcceptsAny, char_count}
use Rattle.yang_types.specs.DataType.{DataType, text, number, length_within, value_within, matching, one_of, truth, builtin, leafref, union, DataTypes, no_types, type_and}

-- numbers
not_above : (a b : ℤ) → Told (a ≤ℤ b)
not_above a b = by (le_z a b) refl
  where
    by : (t : Bool) → le_z a b ≡ t → Told (a ≤ℤ b)
    by true e = inl (grind (arith, ints))
    by false e = inr (λ h. grind (arith, ints))

within_told : (v : ℤ) (b : Bounds) → Told (IsWithin v b)
within_told v b = both (not_above b.low v) (not_above v b.high)

digits_told : (s : List ℕ) → Told (AllDigits 10 s)
digits_told [] = inl tt
digits_told (c ∷ cs) = both (at_most (suc (digit_value c)) 10) (digits_told cs)

decimal_told : (s : List ℕ) → Told (IsDecimal s)
decimal_told s = both (at_most 1 (length s)) (digits_told s)

-- digits behind a sign
abbrev Behind : ℕ → (List ℕ → Type 0) → List ℕ → Type 0
Behind c P [] = ⊥
Behind c P (d ∷ ds) = (d ≡ c) × P ds

behind_told : (c : ℕ) (P : List ℕ → Type 0) → ((s : List ℕ) → Told (P s)) → (s : List ℕ) → Told (Behind c P s)
behind_told c P told [] = inr (λ h. h)
behind_told c P told (d ∷ ds) = both (same_number d c) (told ds)

behind_is : (c : ℕ) (P : List ℕ → Type 0) (s : List ℕ) → Behind c P s → (ds : List ℕ) × (s ≡ c ∷ ds) × P ds
behind_is c P [] h = absurd h
behind_is c P (d ∷ ds) h = (ds, ap (λ b. b ∷ ds) h.0, h.1)

behind_from : (c : ℕ) (P : List ℕ → Type 0) (s ds : List ℕ) → s ≡ c ∷ ds → P ds → Behind c P s
behind_from c P s ds e p = subst (Behind c P) (sym e) (refl, p)

-- digits whose number has a property
module _ (P : ℤ → Type 0) (told : (v : ℤ) → Told (P v)) where
  abbrev Written : List ℕ → Type 0
  Written ds = IsDecimal ds × P (pos (decimal ds))

  abbrev Negated : List ℕ → Type 0
  Negated ds = IsDecimal ds × P (neg_ℤ (pos (decimal ds)))

  pub number_told : (s : List ℕ) → Told ((v : ℤ) × IsNumber s v × P v)
  number_told s =
      like to (λ h. from h.0 h.1.0 h.1.1 h.1.2 h.2)
      (either (both (decimal_told s) (told (pos (decimal s))))
      (either (behind_told plus Written (λ ds. both (decimal_told ds) (told (pos (decimal ds)))) s)
      (behind_told hyphen Negated (λ ds. both (decimal_told ds) (told (neg_ℤ (pos (decimal ds))))) s)))
    where
      to : Written s ⊎ (Behind plus Written s ⊎ Behind hyphen Negated s) → (v : ℤ) × IsNumber s v × P v
      to (inl h) = (pos (decimal s), (s, h.0, inl (refl, refl)), h.1)
      to (inr (inl h)) =
          let (ds, e, w) = behind_is plus Written s h in
          (pos (decimal ds), (ds, w.0, inr (inl (e, refl))), w.1)
      to (inr (inr h)) =
          let (ds, e, w) = behind_is hyphen Negated s h in
          (neg_ℤ (pos (decimal ds)), (ds, w.0, inr (inr (e, refl))), w.1)

      from : (v : ℤ) (ds : List ℕ) → IsDecimal ds → HasSign s ds v → P v → Written s ⊎ (Behind plus Written s ⊎ Behind hyphen Negated s)
      from v ds d (inl (e, is)) p = inl (subst Written (sym e) (d, subst P is p))
      from v ds d (inr (inl (e, is))) p = inr (inl (behind_from plus Written s ds e (d, subst P is p)))
      from v ds d (inr (inr (e, is))) p = inr (inr (behind_from hyphen Negated s ds e (d, subst P is p)))

within_any_told : (v : ℤ) (parts : List Bounds) → Told (IsWithinAny v parts)
within_any_told v parts = some (IsWithin v) (within_told v) parts

number_within_told : (s : List ℕ) (b : Bounds) → Told (IsNumberWithin s b)
number_within_told s b = number_told (λ v. IsWithin v b) (λ v. within_told v b) s

plain_number_told : (most : ℕ) (s : List ℕ) → Told (IsPlainNumber most s)
plain_number_told most s =
    like (λ h. (h.0, h.1.0, h.1.1)) (λ h. (h.0, (h.1, h.2)))
    (both (decimal_told s) (both (implied (same_number (slice_index s 0) digit_zero) (same_number (length s) 1)) (at_most (decimal s) most)))

-- addresses
hexdigit_told : (c : ℕ) → Told (IsAsciiHexdigit c)
hexdigit_told c =
    either (either (both (at_most 48 c) (at_most c 57)) (both (at_most 65 c) (at_most c 70))) (both (at_most 97 c) (at_most c 102))

group_told : (s : List ℕ) → Told (IsGroup s)
group_told s =
    like (λ h. (h.0, h.1.0, h.1.1)) (λ h. (h.0, (h.1, h.2)))
    (both (all IsAsciiHexdigit hexdigit_told s) (both (at_most 1 (length s)) (at_most (length s) 4)))

pair_told : (s : List ℕ) → Told (IsPair s)
pair_told s = both (all IsAsciiHexdigit hexdigit_told s) (same_number (length s) 2)

module _ (P : List ℕ → Type 0) (told : (s : List ℕ) → Told (P s)) (c : ℕ) where
  none_joined : (s : List ℕ) → AreJoined P c 0 s → s ≡ []
  none_joined s ([], count, are, e) = e
  none_joined s (x ∷ xs, count, are, e) = absurd (omega (arith, count))

  one_joined : (s : List ℕ) → AreJoined P c 1 s → P s
  one_joined s ([], count, are, e) = absurd (omega (arith, count))
  one_joined s (x ∷ [], count, are, e) = subst P (sym e) (All-head P x [] are)
  one_joined s (x ∷ y ∷ xs, count, are, e) = absurd (omega (arith, count))

  more_joined : (n : ℕ) (s : List ℕ) → AreJoined P c (suc (suc n)) s
      → (x : List ℕ) × (y : List ℕ) × (s ≡ x ++ y) × P x × Behind c (AreJoined P c (suc n)) y
  more_joined n s ([], count, are, e) = absurd (omega (arith, count))
  more_joined n s (x ∷ [], count, are, e) = absurd (omega (arith, count))
  more_joined n s (x ∷ y ∷ xs, count, are, e) = (
    x,
    c ∷ join_with_byte c (y ∷ xs),
    e,
    All-head P x (y ∷ xs) are,
    (refl, (y ∷ xs, omega (arith, count), All-tail P x (y ∷ xs) are, refl)),
  )

  join_more : (n : ℕ) (s x y : List ℕ) → s ≡ x ++ y → P x → Behind c (AreJoined P c (suc n)) y → AreJoined P c (suc (suc n)) s
  join_more n s x y e p h = by (behind_is c (AreJoined P c (suc n)) y h)
    where
      by : (ds : List ℕ) × (y ≡ c ∷ ds) × AreJoined P c (suc n) ds → AreJoined P c (suc (suc n)) s
      by (ds, is, ([], count, are, same)) = absurd (omega (arith, count))
      by (ds, is, (z ∷ zs, count, are, same)) =
          (x ∷ z ∷ zs, omega (arith, count), All-cons P x (z ∷ zs) p are, e ∙ ap (λ v. x ++ v) (is ∙ ap (λ v. c ∷ v) same))

  pub joined_told : (n : ℕ) (s : List ℕ) → Told (AreJoined P c n s)
  joined_told zero s = like (λ e. ([], refl, All-nil P, e)) (none_joined s) (same_text s [])
  joined_told (suc zero) s = like (λ p. (s ∷ [], refl, All-cons P s [] p (All-nil P), refl)) (one_joined s) (told s)
  joined_told (suc (suc n)) s =
      like (λ h. join_more n s h.0 h.1 h.2 h.3.0 h.3.1) (λ h. let m = more_joined n s h in (m.0, m.1, m.2, (m.3, m.4)))
      (split (λ x y. P x × Behind c (AreJoined P c (suc n)) y)
      (λ x y. both (told x) (behind_told c (AreJoined P c (suc n)) (joined_told (suc n)) y)) s)

ipv4_told : (s : List ℕ) → Told (IsIpv4Address s)
ipv4_told s = joined_told IsOctet (plain_number_told 255) full_stop 4 s

-- a double colon between so many groups and so many
abbrev Sides : ℕ → ℕ → List ℕ → Type 0
Sides m n s =
    (left : List ℕ) × (y : List ℕ) × (s ≡ left ++ y) × AreJoined IsGroup colon m left
    × Behind colon (Behind colon (AreJoined IsGroup colon n)) y

sides_told : (m n : ℕ) (s : List ℕ) → Told (Sides m n s)
sides_told m n s =
    like (λ h. (h.0, h.1, h.2, h.3.0, h.3.1)) (λ h. (h.0, h.1, h.2, (h.3, h.4)))
    (split (λ x y. AreJoined IsGroup colon m x × Behind colon (Behind colon (AreJoined IsGroup colon n)) y)
    (λ x y. both (joined_told IsGroup group_told colon m x)
    (behind_told colon (Behind colon (AreJoined IsGroup colon n))
    (behind_told colon (AreJoined IsGroup colon n) (joined_told IsGroup group_told colon n)) y)) s)

sides_is : (m n : ℕ) (s : List ℕ) → m + n ≤ 7 → Sides m n s → IsShortened s
sides_is m n s few (left, y, e, l, h) =
    let (ys, e1, h1) = behind_is colon (Behind colon (AreJoined IsGroup colon n)) y h in
    let (right, e2, r) = behind_is colon (AreJoined IsGroup colon n) ys h1 in
    (m, n, left, right, few, l, r, e ∙ ap (λ v. left ++ v) (e1 ∙ ap (λ v. colon ∷ v) e2))

abbrev Counts : List ℕ → ℕ → Type 0
Counts s m = (n : ℕ) × (n ≤ 7) × ((m + n ≤ 7) × Sides m n s)

counts_told : (s : List ℕ) (m : ℕ) → Told (Counts s m)
counts_told s m = up_to (λ n. (m + n ≤ 7) × Sides m n s) (λ n. both (at_most (m + n) 7) (sides_told m n s)) 7

shortened_told : (s : List ℕ) → Told (IsShortened s)
shortened_told s =
    like (λ (m, below, (n, small, (few, sides))). sides_is m n s few sides)
    (λ (m, n, left, right, few, l, r, same).
    (m, omega arith, (n, omega arith, (few, (left, double_colon ++ right, same, l, (refl, (refl, r)))))))
    (up_to (Counts s) (counts_told s) 7)

ipv6_told : (s : List ℕ) → Told (IsIpv6Address s)
ipv6_told s = either (joined_told IsGroup group_told colon 8 s) (shortened_told s)

ipv6_length_told : (s : List ℕ) → Told (IsIpv6Length s)
ipv6_length_told s =
    both (decimal_told s)
    (either (at_most (length s) 2)
    (like (λ h. (h.0, h.1.0, h.1.1)) (λ h. (h.0, (h.1, h.2)))
    (both (same_number (length s) 3) (both (at_most 100 (decimal s)) (at_most (decimal s) 128)))))

prefix_told : (P Q : List ℕ → Type 0) → ((s : List ℕ) → Told (P s)) → ((s : List ℕ) → Told (Q s)) → (s : List ℕ) → Told (IsPrefixOf P Q s)
prefix_told P Q p q s =
    like (λ h. let (ds, e, l) = behind_is slash Q h.1 h.3.1 in (h.0, ds, h.3.0, l, h.2 ∙ ap (λ v. h.0 ++ v) e))
    (λ h. (h.0, slash ∷ h.1, h.4, (h.2, (refl, h.3))))
    (split (λ x y. P x × Behind slash Q y) (λ x y. both (p x) (behind_told slash Q q y)) s)

builtin_told : (b : Builtin) (s : List ℕ) → Told (IsBuiltin b s)
builtin_told Ipv4Address s = ipv4_told s
builtin_told Ipv6Address s = ipv6_told s
builtin_told IpAddress s = either (ipv4_told s) (ipv6_told s)
builtin_told Ipv4Prefix s = prefix_told IsIpv4Address IsIpv4Length ipv4_told (plain_number_told 32) s
builtin_told Ipv6Prefix s = prefix_told IsIpv6Address IsIpv6Length ipv6_told ipv6_length_told s
builtin_told IpPrefix s =
    either (prefix_told IsIpv4Address IsIpv4Length ipv4_told (plain_number_told 32) s)
    (prefix_told IsIpv6Address IsIpv6Length ipv6_told ipv6_length_told s)
builtin_told MacAddress s = joined_told IsPair pair_told colon 6 s

-- types
module _ (matched : (pattern : List ℕ) → IsDecided (MatchesText pattern)) where
  mutual
    -- what a type accepts
    pub accepts_told : (t : DataType) (s : List ℕ) → Told (Accepts t s)
    accepts_told text s = inl tt
    accepts_told (number b) s = number_within_told s b
    accepts_told (length_within t parts) s = both (accepts_told t s) (within_any_told (pos (char_count s)) parts)
    accepts_told (value_within t parts) s = both (accepts_told t s) (some (IsNumberWithin s) (number_within_told s) parts)
    accepts_told (matching t pattern) s = both (accepts_told t s) (told_by (MatchesText pattern) (matched pattern) s)
    accepts_told (one_of names) s = among same_text names s
    accepts_told truth s = either (same_text s (codes "true")) (same_text s (codes "false"))
    accepts_told (builtin b) s = builtin_told b s
    accepts_told (leafref target t) s = accepts_told t s
    accepts_told (union ts) s = any_told ts s

    any_told : (ts : DataTypes) (s : List ℕ) → Told (AcceptsAny ts s)
    any_told no_types s = inr (λ h. h)
    any_told (type_and t ts) s = either (accepts_told t s) (any_told ts s)
