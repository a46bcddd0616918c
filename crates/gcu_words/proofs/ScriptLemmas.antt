-- The lines of a script, one after the other.
use Rattle.std.proofs.Common.{◌≡◌, ◌+◌, ◌≢◌, ◌≤◌, ℕ, suc, List, [], ◌∷◌, ◌++◌, length, Bool, true, false, if◌then◌else◌, Option, Some, None, Result, Ok, Err, IfOk, refl, sym, ap, ◌∙◌, subst, arith, append_assoc}
use Rattle.std.proofs.lemmas.Bool.{le-leb, ne_eqb}
use Rattle.std.proofs.lemmas.List.{append-nil}
use Rattle.std.proofs.lemmas.List.Splits.{length-slice_split, slice_split_at, slice_split_none}
use Rattle.std.proofs.lemmas.Str.{IsUtf8-from_is_utf8, is_utf8-from_IsUtf8}
use Rattle.std.specs.List.{All, onto_first}
use Rattle.std.specs.Str.{IsUtf8, is_utf8}
use Rattle.host_core.specs.Answers.{map_ok}
use Rattle.host_core.specs.Characters.{line_feed}
use Rattle.gcu_words.specs.Scripts.{before, is_feed, last_of, line_at, line_of, line_of_words, lines_from, most_lines, pieces_of, script, words_of}
use Rattle.gcu_words.specs.declared.script_lines.ScriptLine.{ScriptLine}

-- ---- a line

-- a text is the line that its words are
pub line_is : {E : Type 0} (r : Result (Option ScriptLine) E) (text bytes : List ℕ) → text ≡ bytes → IsUtf8 bytes
    → IfOk r (λ l. l ≡ line_of_words (words_of text)) → IfOk r (λ l. l ≡ line_of bytes)
line_is (Ok l) text bytes same utf8 is =
    is ∙ ap (λ t. line_of_words (words_of t)) same
    ∙ sym (ap (λ b. if b then line_of_words (words_of bytes) else None) (is_utf8-from_IsUtf8 bytes utf8))
line_is (Err e) text bytes same utf8 is = tt

not_utf8 : (bs : List ℕ) (b : Bool) → is_utf8 bs ≡ b → ¬ IsUtf8 bs → is_utf8 bs ≡ false
not_utf8 bs true is not = absurd (not (IsUtf8-from_is_utf8 bs is))
not_utf8 bs false is not = is

-- what isn't UTF-8 is none
pub no_line_is : (bytes : List ℕ) → ¬ IsUtf8 bytes → None ≡ line_of bytes
no_line_is bytes not = sym (ap (λ b. if b then line_of_words (words_of bytes) else None) (not_utf8 bytes (is_utf8 bytes) refl not))

-- ---- lines of pieces

-- the lines behind some that were read
abbrev pub behind : List ScriptLine → Result (List ScriptLine) ℕ → Result (List ScriptLine) ℕ
behind lines r = map_ok (λ more. lines ++ more) r

next_line : (n : ℕ) (piece : List ℕ) (ps : List (List ℕ)) → 1 ≤ length ps → lines_from n (piece ∷ ps) ≡ before n (line_at n piece) (lines_from (suc n) ps)
next_line n piece [] some = absurd (omega (arith, some))
next_line n piece (p ∷ ps) some = refl

some_pieces : (xs : List ℕ) → 1 ≤ length (pieces_of xs)
some_pieces xs = let long = length-slice_split is_feed xs in omega (arith, long)

within : (n : ℕ) (piece : List ℕ) → n ≤ most_lines → line_at n piece ≡ line_of piece
within n piece few = ap (λ b. if b then line_of piece else None) (le-leb n most_lines few)

module _ (n : ℕ) (rest line after : List ℕ) (few : suc n ≤ most_lines) (none : All (λ b. is_feed b ≡ false) line) (is : rest ≡ line ++ line_feed ∷ after) where
  first_line : lines_from (suc n) (pieces_of rest) ≡ before (suc n) (line_of line) (lines_from (suc (suc n)) (pieces_of after))
  first_line =
      ap (λ t. lines_from (suc n) (pieces_of t)) is
      ∙ ap (lines_from (suc n)) (slice_split_at is_feed line line_feed after none refl)
      ∙ next_line (suc n) line (pieces_of after) (some_pieces after)
      ∙ ap (λ o. before (suc n) o (lines_from (suc (suc n)) (pieces_of after))) (within (suc n) line few)

  -- the first one is of no form
  pub no_form : (text : List ℕ) (lines : List ScriptLine) → script text ≡ behind lines (lines_from (suc n) (pieces_of rest)) → line_of line ≡ None
      → script text ≡ Err (suc n)
  no_form text lines so other = so ∙ ap (behind lines) (first_line ∙ ap (λ o. before (suc n) o (lines_from (suc (suc n)) (pieces_of after))) other)

  more : (l : ScriptLine) (lines : List ScriptLine) (r : Result (List ScriptLine) ℕ) → behind lines (map_ok (λ ls. l ∷ ls) r) ≡ behind (lines ++ l ∷ []) r
  more l lines (Ok ls) = ap (λ (x : List ScriptLine). Ok x) (sym (append_assoc lines (l ∷ []) ls))
  more l lines (Err e) = refl

  -- it is read, and then the others
  pub one_more : (text : List ℕ) (lines : List ScriptLine) (l : ScriptLine) → script text ≡ behind lines (lines_from (suc n) (pieces_of rest)) → line_of line ≡ Some l
      → script text ≡ behind (lines ++ l ∷ []) (lines_from (suc (suc n)) (pieces_of after))
  one_more text lines l so one =
      so ∙ ap (behind lines) (first_line ∙ ap (λ o. before (suc n) o (lines_from (suc (suc n)) (pieces_of after))) one)
      ∙ more l lines (lines_from (suc (suc n)) (pieces_of after))

-- ---- the end

empty_last : (n : ℕ) (rest : List ℕ) → length rest ≡ 0 → lines_from n (pieces_of rest) ≡ Ok []
empty_last n [] none = refl
empty_last n (x ∷ xs) none = absurd (omega (arith, none))

-- nothing is left
pub all_read : (text : List ℕ) (lines : List ScriptLine) (n : ℕ) (rest : List ℕ) → script text ≡ behind lines (lines_from n (pieces_of rest)) → length rest ≡ 0
    → script text ≡ Ok lines
all_read text lines n rest so none = so ∙ ap (behind lines) (empty_last n rest none) ∙ ap (λ (x : List ScriptLine). Ok x) (append-nil lines)

full_last : (n : ℕ) (xs : List ℕ) → length xs ≢ 0 → last_of n xs ≡ Err n
full_last n [] some = absurd (some refl)
full_last n (x ∷ xs) some = ap (λ b. if b then Ok [] else Err n) (ne_eqb (length (x ∷ xs)) 0 some)

-- the last line has no line feed
pub no_feed_behind : (text : List ℕ) (lines : List ScriptLine) (n : ℕ) (rest : List ℕ) → script text ≡ behind lines (lines_from n (pieces_of rest)) → length rest ≢ 0
    → All (λ b. is_feed b ≡ false) rest → script text ≡ Err n
no_feed_behind text lines n rest so some none =
    so ∙ ap (behind lines) (ap (lines_from n) (slice_split_none is_feed rest none) ∙ full_last n rest some)

-- ---- one line too many

too_many_from : (x : ℕ) (ps : List (List ℕ)) → lines_from 257 (onto_first x ps) ≡ Err 257
too_many_from x [] = refl
too_many_from x (p ∷ []) = full_last 257 (x ∷ p) (λ e. omega (arith, e))
too_many_from x (p ∷ q ∷ ps) = refl

too_many : (xs : List ℕ) → length xs ≢ 0 → lines_from 257 (pieces_of xs) ≡ Err 257
too_many [] some = absurd (some refl)
too_many (x ∷ xs) some = by (is_feed x)
  where
    by : (b : Bool) → lines_from 257 (if b then ([] ∷ pieces_of xs) else onto_first x (pieces_of xs)) ≡ Err 257
    by true = next_line 257 [] (pieces_of xs) (some_pieces xs)
    by false = too_many_from x (pieces_of xs)

pub one_too_many : (text : List ℕ) (lines : List ScriptLine) (n : ℕ) (rest : List ℕ) → n ≡ 257 → script text ≡ behind lines (lines_from n (pieces_of rest)) → length rest ≢ 0
    → script text ≡ Err 257
one_too_many text lines n rest last so some = so ∙ ap (λ k. behind lines (lines_from k (pieces_of rest))) last ∙ ap (behind lines) (too_many rest some)

-- ---- numbers as they are counted

pub next_number : (text : List ℕ) (n : ℕ) → script text ≡ Err (suc n) → script text ≡ Err (n + 1)
next_number text n is = let one : suc n ≡ n + 1 = omega arith in subst (λ k. script text ≡ Err k) one is

pub next_lines : (text : List ℕ) (lines : List ScriptLine) (n : ℕ) (after : List ℕ) → script text ≡ behind lines (lines_from (suc (suc n)) (pieces_of after))
    → script text ≡ behind lines (lines_from (suc (n + 1)) (pieces_of after))
next_lines text lines n after is =
    let one : suc n ≡ n + 1 = omega arith in
    subst (λ k. script text ≡ behind lines (lines_from (suc k) (pieces_of after))) one is
