-- Which texts are patterns and what they match can be told.
use Rattle.std.proofs.Common.{◌≡◌, inl, inr, ℕ, zero, suc, ◌+◌, ◌≤◌, Bool, IsTrue, List, [], ◌∷◌, length, chars, Option, Some, None, refl, sym, ap, subst, arith, false}
use Rattle.std.proofs.lemmas.Bool.Decides.{leb_tells}
use Rattle.std.proofs.lemmas.List.{length-append}
use Rattle.yang_pattern.specs.declared.letters.Letter.{Letter}
use Rattle.yang_pattern.specs.declared.symbols.Quantifier.{Quantifier}
use Rattle.yang_pattern.specs.declared.symbols.Quantifier.TheVariants.{OneOrMore, AtLeast, Between}
use Rattle.yang_pattern.specs.declared.symbols.Token.{Token}
use Rattle.yang_pattern.specs.declared.tokens.Mode.TheVariants.{Outside}
use Rattle.yang_pattern.specs.Letters.{letters_from}
use Rattle.yang_pattern.specs.Lexing.{lex}
use Rattle.yang_pattern.specs.Reading.{run, start}
use Rattle.yang_pattern.specs.Symbols.{accepts, Allows, Repeated}
use Rattle.yang_pattern.specs.Pattern.{Branches, one, or, Branch, none, followed, Piece, once, times, Atom, symbol, group, Matches, MatchesBranch, MatchesPiece, MatchesAtom, size}
use Rattle.yang_pattern.specs.Language.{IsPattern, MatchesText}
use Rattle.yang_pattern.proofs.Decisions.{Told, like, both, either, at_most, same_text, told_true, up_to, split}
use Rattle.yang_pattern.proofs.PatternUniqueness.{same_pattern, no_letters, no_tokens, no_pattern, too_large, spelled}

-- so many texts in a row
repeated_told : (P : List ℕ → Type 0) → ((u : List ℕ) → Told (P u)) → (n : ℕ) (u : List ℕ) → Told (Repeated P n u)
repeated_told P told zero u = same_text u []
repeated_told P told (suc n) u =
    like (λ h. (h.0, h.1, h.2, h.3.0, h.3.1)) (λ h. (h.0, h.1, h.2, (h.3, h.4)))
    (split (λ x y. P x × Repeated P n y) (λ x y. both (told x) (repeated_told P told n y)) u)

-- more texts than there are characters: one of them is empty, and can go
one_less : (P : List ℕ → Type 0) (n : ℕ) (u : List ℕ) → length u ≤ n → Repeated P (suc n) u → Repeated P n u
one_less P n u within ([], y, e, p, more) = subst (Repeated P n) (sym e) more
one_less P zero u within (c ∷ x, y, e, p, more) =
    let long = ap length e in
    absurd (omega (arith, long, length-append x y, within))
one_less P (suc n) u within (c ∷ x, y, e, p, more) =
    let long = ap length e in
    (c ∷ x, y, e, p, one_less P n y (omega (arith, long, length-append x y, within)) more)

-- the least number of times
abbrev least_of : Quantifier → ℕ
least_of OneOrMore = 1
least_of (AtLeast least) = least
least_of (Between least more) = least

fewer : (q : Quantifier) (n : ℕ) → least_of q ≤ n → Allows q (suc n) → Allows q n
fewer OneOrMore n low a = low
fewer (AtLeast least) n low a = low
fewer (Between least more) n low a = let high = a.1 in (low, omega arith)

-- and no more are needed than characters above it
enough : (P : List ℕ → Type 0) (q : Quantifier) (u : List ℕ) (n : ℕ) → Allows q n → Repeated P n u
    → (m : ℕ) × (m ≤ least_of q + length u) × Allows q m × Repeated P m u
enough P q u zero a r = (0, omega arith, a, r)
enough P q u (suc n) a r = elim (leb_tells (suc n) (least_of q + length u)) [
  | inl h ↦ (suc n, h.1, a, r)
  | inr h ↦ enough P q u n (fewer q n (omega (arith, h.1)) a) (one_less P n u (omega (arith, h.1)) r)
]

allows_told : (q : Quantifier) (n : ℕ) → Told (Allows q n)
allows_told OneOrMore n = at_most 1 n
allows_told (AtLeast least) n = at_most least n
allows_told (Between least more) n = both (at_most least n) (at_most n (least + more))

times_told : (P : List ℕ → Type 0) → ((u : List ℕ) → Told (P u)) → (q : Quantifier) (u : List ℕ) → Told ((n : ℕ) × Allows q n × Repeated P n u)
times_told P told q u =
    like (λ h. (h.0, h.2.0, h.2.1)) (λ h. let (m, within, a, r) = enough P q u h.0 h.1 h.2 in (m, within, (a, r)))
    (up_to (λ n. Allows q n × Repeated P n u) (λ n. both (allows_told q n) (repeated_told P told n u)) (least_of q + length u))

symbol_told : (s : Bool × List (ℕ × ℕ)) (u : List ℕ) → Told (MatchesAtom (symbol s) u)
symbol_told s [] = inr (λ h. let e = h.1 in cc e)
symbol_told s (c ∷ []) =
    like (λ is. (c, refl, is)) (λ h. let e = h.1 in let same : h.0 ≡ c = cc e in subst (λ d. IsTrue (accepts s d)) same h.2)
    (told_true (accepts s c))
symbol_told s (c ∷ d ∷ u) = inr (λ h. let e = h.1 in cc e)

mutual
  -- what is matched
  pub matches_told : (bs : Branches) (u : List ℕ) → Told (Matches bs u)
  matches_told (one b) u = branch_told b u
  matches_told (or bs b) u = either (matches_told bs u) (branch_told b u)

  branch_told : (b : Branch) (u : List ℕ) → Told (MatchesBranch b u)
  branch_told none u = same_text u []
  branch_told (followed b p) u =
      like (λ h. (h.0, h.1, h.2, h.3.0, h.3.1)) (λ h. (h.0, h.1, h.2, (h.3, h.4)))
      (split (λ x y. MatchesBranch b x × MatchesPiece p y) (λ x y. both (branch_told b x) (piece_told p y)) u)

  piece_told : (p : Piece) (u : List ℕ) → Told (MatchesPiece p u)
  piece_told (once a) u = atom_told a u
  piece_told (times a q) u = times_told (MatchesAtom a) (λ v. atom_told a v) q u

  atom_told : (a : Atom) (u : List ℕ) → Told (MatchesAtom a u)
  atom_told (symbol s) u = symbol_told s u
  atom_told (group bs) u = matches_told bs u

module _ (text : List ℕ) where
  by_size : (ls : List Letter) (ts : List Token) (bs : Branches) → letters_from false (chars text) ≡ Some ls → lex Outside ls ≡ Some ts → run ts start ≡ Some bs → Told (IsPattern text)
  by_size ls ts bs e f h = elim (leb_tells (size bs) 1024) [
    | inl small ↦ inl (bs, spelled text ls ts bs e f h small.1)
    | inr large ↦ inr (too_large text ls ts bs e f h large.1)
  ]

  by_tokens : (ls : List Letter) (ts : List Token) → letters_from false (chars text) ≡ Some ls → lex Outside ls ≡ Some ts → (o : Option Branches) → run ts start ≡ o → Told (IsPattern text)
  by_tokens ls ts e f None h = inr (no_pattern text ls ts e f h)
  by_tokens ls ts e f (Some bs) h = by_size ls ts bs e f h

  by_letters : (ls : List Letter) → letters_from false (chars text) ≡ Some ls → (o : Option (List Token)) → lex Outside ls ≡ o → Told (IsPattern text)
  by_letters ls e None f = inr (no_tokens text ls e f)
  by_letters ls e (Some ts) f = by_tokens ls ts e f (run ts start) refl

  by_text : (o : Option (List Letter)) → letters_from false (chars text) ≡ o → Told (IsPattern text)
  by_text None e = inr (no_letters text e)
  by_text (Some ls) e = by_letters ls e (lex Outside ls) refl

  -- whether a text is a pattern
  pub pattern_told : Told (IsPattern text)
  pattern_told = by_text (letters_from false (chars text)) refl

-- whether a pattern's text matches a text
pub match_told : (pattern text : List ℕ) → Told (MatchesText pattern text)
match_told pattern text = elim (pattern_told pattern) [
  | inl is ↦
      like (λ h. (is.0, is.1, h))
      (λ h. subst (λ (bs : Branches). Matches bs (chars text)) (same_pattern (chars pattern) h.0 is.0 h.1 is.1) h.2)
      (matches_told is.0 (chars text))
  | inr other ↦ inr (λ h. other (h.0, h.1))
]
