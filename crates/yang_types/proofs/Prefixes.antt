-- An address has no slash, so a prefix is cut at its first one.
use Rattle.std.proofs.Common.{◌≢◌, ℕ, List, [], ◌∷◌, get_or, sym, subst, inl, inr, arith, lit<, Bor, Option, None, Some, MatchOption, ◌↔◌}
use Rattle.std.specs.List.{All, join_with_byte}
use Rattle.std.specs.Char.{IsAsciiHexdigit}
use Rattle.std.specs.Int.{IsInRange}
use Rattle.std.specs.Str.Parse.{AllDigits}
use Rattle.std.proofs.lemmas.Str.Parse.{digit_at}
use Rattle.std.proofs.lemmas.Str.Pattern.{IsSplitOnceResult, split_after, split_parts}
use Rattle.std.proofs.lemmas.List.Elements.{All-head, All-tail, All-nil, All-cons, All-append, All-weaker, All-get_or, All-from_get_or}
use Rattle.host_core.specs.Characters.{colon, slash}
use Rattle.yang_types.specs.declared.addresses.Part.{Part}
use Rattle.yang_types.specs.declared.addresses.Part.TheVariants.{Octet, Group, Pair}
use Rattle.yang_types.specs.Parts.{IsPart, separator_of, ArePartsOf}
use Rattle.yang_types.specs.Addresses.{IsPrefixOf, IsIpv4Address, IsIpv6Address}

abbrev Lacks : List ℕ → Type 0
Lacks s = All (λ b. b ≢ slash) s

join_lacks : (c : ℕ) → c ≢ slash → (xs : List (List ℕ)) → All Lacks xs → Lacks (join_with_byte c xs)
join_lacks c other [] all = All-nil (λ b. b ≢ slash)
join_lacks c other (x ∷ []) all = All-head Lacks x [] all
join_lacks c other (x ∷ y ∷ xs) all =
    All-append (λ b. b ≢ slash) x (c ∷ join_with_byte c (y ∷ xs)) (All-head Lacks x (y ∷ xs) all)
    (All-cons (λ b. b ≢ slash) c (join_with_byte c (y ∷ xs)) other (join_lacks c other (y ∷ xs) (All-tail Lacks x (y ∷ xs) all)))

digit_lacks : (b : ℕ) → IsInRange 48 57 b → b ≢ slash
digit_lacks b range e = absurd (omega arith)

digits_lack : (s : List ℕ) → AllDigits 10 s → Lacks s
digits_lack s digits = All-from_get_or (λ b. b ≢ slash) s 0 (λ i below. digit_lacks (get_or s i 0) (digit_at s i digits below))

hex_lacks : (b : ℕ) → IsAsciiHexdigit b → b ≢ slash
hex_lacks b hex e = absurd (omega arith)

part_lacks : (part : Part) (s : List ℕ) → IsPart part s → Lacks s
part_lacks Octet s h = digits_lack s h.0.1
part_lacks Group s h = All-weaker IsAsciiHexdigit (λ b. b ≢ slash) hex_lacks s h.0
part_lacks Pair s h = All-weaker IsAsciiHexdigit (λ b. b ≢ slash) hex_lacks s h.0

separator_lacks : (part : Part) → separator_of part ≢ slash
separator_lacks Octet e = absurd (omega arith)
separator_lacks Group e = absurd (omega arith)
separator_lacks Pair e = absurd (omega arith)

parts_lack : (part : Part) (n : ℕ) (s : List ℕ) → ArePartsOf part n s → Lacks s
parts_lack part n s (parts, count, all, same) =
    subst Lacks (sym same) (join_lacks (separator_of part) (separator_lacks part) parts (All-weaker (IsPart part) Lacks (part_lacks part) parts all))

pub ipv4_lacks : (s : List ℕ) → IsIpv4Address s → Lacks s
ipv4_lacks s h = parts_lack Octet 4 s h

colon_lacks : colon ≢ slash
colon_lacks e = absurd (omega arith)

pub ipv6_lacks : (s : List ℕ) → IsIpv6Address s → Lacks s
ipv6_lacks s (inl h) = parts_lack Group 8 s h
ipv6_lacks s (inr (m, n, left, right, few, lefts, rights, same)) =
    subst Lacks (sym same) (All-append (λ b. b ≢ slash) left (colon ∷ colon ∷ right) (parts_lack Group m left lefts)
    (All-cons (λ b. b ≢ slash) colon (colon ∷ right) colon_lacks (All-cons (λ b. b ≢ slash) colon right colon_lacks (parts_lack Group n right rights))))

-- what a cut at the first slash says of a prefix
pub prefix_cut : (A L : List ℕ → Type 0) → ((s : List ℕ) → A s → Lacks s) → (s : List ℕ) (r : Option (Bor (List ℕ) × Bor (List ℕ))) → IsSplitOnceResult slash s r → MatchOption r (¬ (IsPrefixOf A L s)) (λ x. IsPrefixOf A L s ↔ (A x.0.now × L x.1.now))
prefix_cut A L lacks s None h = λ (address, size, a, l, e). split_after slash s address size None h (lit< tt) e (λ i below. All-get_or (λ b. b ≢ slash) address i 0 below (lacks address a))
prefix_cut A L lacks s (Some x) h = (
  λ (address, size, a, l, e).
      let same = split_after slash s address size (Some x) h (lit< tt) e (λ i below. All-get_or (λ b. b ≢ slash) address i 0 below (lacks address a)) in
      (subst A (sym same.0) a, subst L (sym same.1) l),
  λ (a, l). (x.0.now, x.1.now, a, l, (split_parts slash s (Some x) h (lit< tt)).0),
)
