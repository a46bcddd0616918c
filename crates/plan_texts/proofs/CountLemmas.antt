-- The count that a line tells, by the number read from it.
use Rattle.std.proofs.Common.{◌≡◌, ◌≢◌, ℕ, ◌<◌, ◌^◌, List, ◌++◌, Option, Some, None, Result, Ok, Err, refl, sym, ◌∙◌, subst, arith, codes, decimal, IsUtf8}
use Rattle.std.proofs.lemmas.Fmt.{parse-decimal, IsAscii-decimal}
use Rattle.std.proofs.lemmas.Str.{IsUtf8-append, IsUtf8-from_ascii}
use Rattle.std.specs.Prelude.{MatchOption}
use Rattle.std.specs.Str.Parse.{ParsesUnsigned}
use Rattle.json.proofs.Printed.Utf8.{IsUtf8-are_ascii}
use Rattle.plan_texts.specs.Lines.{count_words}

-- the first line of a plan is a text
pub count_is_text : (n : ℕ) → n < 2 ^ 32 → IsUtf8 (count_words n)
count_is_text n small = IsUtf8-append (codes "plan ") (decimal n) (IsUtf8-are_ascii (codes "plan ") refl) (IsUtf8-from_ascii _ (IsAscii-decimal n (omega arith)))

-- what is said of a count that is tried
abbrev pub Found : List ℕ → ℕ → Option ℕ → Type 0
Found line m o = MatchOption o (line ≢ count_words m) (λ n. (n ≡ m) × (line ≡ count_words m))

-- what is said of the count of a line
abbrev pub Counts : List ℕ → Option ℕ → Type 0
Counts line o = MatchOption o ((n : ℕ) → n < 2 ^ 32 → line ≢ count_words n) (λ n. (n < 2 ^ 32) × (line ≡ count_words n))

module _ {E : Type 0} (line number : List ℕ) (r : Result ℕ E) (is : line ≡ codes "plan " ++ number) (parsed : ParsesUnsigned 32 10 number r) where
  -- the digits of a count are read as the count
  number_read : (n : ℕ) → n < 2 ^ 32 → line ≡ count_words n → r ≡ Ok n
  number_read n less e =
      let begin : codes "plan " ++ number ≡ codes "plan " ++ decimal n = sym is ∙ e in
      let digits : number ≡ decimal n = cc in
      parse-decimal 32 n number r less (omega arith) digits parsed

  small : (m : ℕ) → r ≡ Ok m → m < 2 ^ 32
  small m ok =
      let read = subst (λ (q : Result ℕ E). ParsesUnsigned 32 10 number q) ok parsed in
      omega (arith, read.0.1, read.1)

  -- no number, no count
  pub no_count : (e : E) → r ≡ Err e → (n : ℕ) → n < 2 ^ 32 → line ≢ count_words n
  no_count e err n less same = let ok = number_read n less same in absurd cc

  -- a number, at most that count
  pub one_count : (m : ℕ) → r ≡ Ok m → (o : Option ℕ) → Found line m o → Counts line o
  one_count m ok None isnt = λ n less same.
      let read = number_read n less same in
      let numbers : n ≡ m = cc in
      isnt (subst (λ k. line ≡ count_words k) numbers same)
  one_count m ok (Some n) is_it = (subst (λ k. k < 2 ^ 32) (sym is_it.0) (small m ok), subst (λ k. line ≡ count_words k) (sym is_it.0) is_it.1)
