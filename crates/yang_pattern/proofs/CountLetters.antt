-- Reading the letters of a quantifier in braces gives exactly the letters of its decimals.
use Rattle.std.proofs.Common.{◌≡◌, ◌≢◌, ℕ, ◌+◌, ◌-◌, ◌*◌, ◌/◌, ◌%◌, ◌<◌, ◌≤◌, Bool, true, false, ◌&&◌, ◌||◌, not, cond, eqb, leb, List, [], ◌∷◌, ◌++◌, map, Option, Some, None, option_map, option_and_then, option_to_list, refl, sym, ap, ◌∙◌, subst, append_assoc, inl, inr, arith}
use Rattle.std.proofs.lemmas.Bool.{eq-eqb, eqb-true, ne_eqb, eqb-false, cases_eq, cases_Bool, le-leb, leb-true, lt-ltb, lt-leb, true≢false, and_parts, agree_below_at, not-true}
use Rattle.std.proofs.lemmas.List.{map-append}
use Rattle.yang_pattern.specs.declared.letters.Letter.{Letter}
use Rattle.yang_pattern.specs.declared.symbols.Quantifier.{Quantifier}
use Rattle.yang_pattern.specs.declared.symbols.Quantifier.TheVariants.{OneOrMore, AtLeast, Between}
use Rattle.yang_pattern.specs.declared.symbols.Token.{Token}
use Rattle.yang_pattern.specs.declared.symbols.Token.TheVariants.{Times}
use Rattle.yang_pattern.specs.declared.counts.OpenCount.{OpenCount}
use Rattle.yang_pattern.specs.declared.counts.OpenCount.TheVariants.{First, Second}
use Rattle.yang_pattern.specs.declared.tokens.Mode.TheVariants.{Outside, Count}
use Rattle.yang_pattern.specs.declared.tokens.Step.{Step}
use Rattle.yang_pattern.specs.Counts.{with_digit, count_comma, count_digit, count_with, count_close}
use Rattle.yang_pattern.specs.Lexing.{advance, lex}
use Rattle.yang_pattern.specs.Grammar.{plain, decimal, digits, IsQuantifier}
use Rattle.yang_pattern.proofs.LexRuns.{lex_quiet, lex_token, lex_first, letter_is}
use Rattle.yang_pattern.proofs.TokenSources.{map_some, then_some}

-- digits, one after another
abbrev with_digits : Option ℕ → List ℕ → Option (Option ℕ)
with_digits m [] = Some m
with_digits m (c ∷ cs) = cond (leb 48 c && leb c 57) (option_and_then (λ k. with_digits (Some k) cs) (with_digit m (c - 48))) None

abbrev is_number : Option (Option ℕ) → ℕ → Bool
is_number None n = false
is_number (Some None) n = false
is_number (Some (Some k)) n = eqb k n

is_number_then : (o : Option (Option ℕ)) (n : ℕ) → is_number o n ≡ true → o ≡ Some (Some n)
is_number_then None n e = absurd (true≢false (sym e))
is_number_then (Some None) n e = absurd (true≢false (sym e))
is_number_then (Some (Some k)) n e = ap (λ x. Some (Some x)) (eqb-true k n e)

-- the digits of a decimal up to 255 are read as it
decimal_read : (n : ℕ) → n < 256 → with_digits None (decimal n) ≡ Some (Some n)
decimal_read n h = is_number_then (with_digits None (decimal n)) n (agree_below_at (λ k. is_number (with_digits None (decimal k)) k) (λ k. true) 256 n refl h)

abbrev same_numbers : List ℕ → List ℕ → Bool
same_numbers [] [] = true
same_numbers [] (y ∷ ys) = false
same_numbers (x ∷ xs) [] = false
same_numbers (x ∷ xs) (y ∷ ys) = eqb x y && same_numbers xs ys

-- one digit more is written at the end
abbrev grows : ℕ → Bool
grows k = leb k 9 || same_numbers (decimal k) (decimal (k / 10) ++ (48 + k % 10) ∷ [])

same_bytes : (xs ys : List ℕ) → same_numbers xs ys ≡ true → xs ≡ ys
same_bytes [] [] e = refl
same_bytes [] (y ∷ ys) e = absurd (true≢false (sym e))
same_bytes (x ∷ xs) [] e = absurd (true≢false (sym e))
same_bytes (x ∷ xs) (y ∷ ys) e =
    let parts = and_parts (eqb x y) (same_numbers xs ys) e in
    let head : x ≡ y = eqb-true x y parts.0 in
    let tail : xs ≡ ys = same_bytes xs ys parts.1 in
    cc

large : (b : Bool) {c : Bool} → b ≡ false → (b || c) ≡ true → c ≡ true
large true e h = absurd (true≢false e)
large false e h = h

pub decimal_grows : (k : ℕ) → 9 < k → k < 256 → decimal k ≡ decimal (k / 10) ++ (48 + k % 10) ∷ []
decimal_grows k low high =
    same_bytes (decimal k) (decimal (k / 10) ++ (48 + k % 10) ∷ []) (large (leb k 9) (lt-leb k 9 low) (agree_below_at grows (λ x. true) 256 k refl high))

one_digit : (d : ℕ) → d < 10 → decimal d ≡ (48 + d) ∷ []
one_digit d h = rw (lt-ltb d 10 h) refl

-- the digits of a number, if there are some
abbrev shown : Option ℕ → List Letter
shown None = []
shown (Some n) = digits n

abbrev IsSmall : Option ℕ → Type 0
IsSmall None = Unit {0}
IsSmall (Some n) = n ≤ 255

-- a digit more is shown, and the number is small
digit_shown : (m : Option ℕ) (d k : ℕ) → d < 10 → with_digit m d ≡ Some k → (digits k ≡ shown m ++ plain (48 + d) ∷ []) × (k ≤ 255)
digit_shown None d k h e =
    let is : d ≡ k = cc e in
    (ap digits (sym is) ∙ ap (λ xs. map plain xs) (one_digit d h), omega arith)
digit_shown (Some n) d k h e =
    let parts = some_digit n d k (eqb n 0) (leb (n * 10 + d) 255) e in
    let positive : n ≢ 0 = eqb-false n 0 parts.0 in
    let small : n * 10 + d ≤ 255 = leb-true (n * 10 + d) 255 parts.1 in
    let is : n * 10 + d ≡ k = parts.2 in
    let front : k / 10 ≡ n = omega arith in
    let last : k % 10 ≡ d = omega arith in (
      ap (λ xs. map plain xs) (decimal_grows k (omega arith) (omega arith) ∙ (ap (λ x. decimal x ++ (48 + k % 10) ∷ []) front ∙ ap (λ x. decimal n ++ (48 + x) ∷ []) last)) ∙ map-append plain (decimal n) ((48 + d) ∷ []),
      omega arith,
    )
  where
    some_digit : (n d k : ℕ) (a b : Bool) → cond a None (cond b (Some (n * 10 + d)) None) ≡ Some k → (a ≡ false) × (b ≡ true) × (n * 10 + d ≡ k)
    some_digit n d k true b e = cc e
    some_digit n d k false true e = (refl, refl, cc e)
    some_digit n d k false false e = cc e

-- what is shown of an open count
abbrev count_shown : OpenCount → List Letter
count_shown (First m) = shown m
count_shown (Second n m) = digits n ++ plain 44 ∷ shown m

abbrev IsSmallCount : OpenCount → Type 0
IsSmallCount (First m) = IsSmall m
IsSmallCount (Second n m) = (n ≤ 255) × IsSmall m

digit_count : (k : OpenCount) (d : ℕ) (n : OpenCount) → d < 10 → IsSmallCount k → count_digit k d ≡ Some n → (count_shown n ≡ count_shown k ++ plain (48 + d) ∷ []) × IsSmallCount n
digit_count (First m) d n h small e =
    let (j, here, is) = map_some (λ x. First (Some x)) (with_digit m d) n e in
    let (shows, within) = digit_shown m d j h here in
    subst (λ (x : OpenCount). (count_shown x ≡ shown m ++ plain (48 + d) ∷ []) × IsSmallCount x) (sym is) (shows, within)
digit_count (Second l m) d n h small e =
    let (j, here, is) = map_some (λ x. Second l (Some x)) (with_digit m d) n e in
    let (shows, within) = digit_shown m d j h here in
    subst (λ (x : OpenCount). (count_shown x ≡ (digits l ++ plain 44 ∷ shown m) ++ plain (48 + d) ∷ []) × IsSmallCount x) (sym is)
    (ap (λ xs. digits l ++ plain 44 ∷ xs) shows ∙ sym (append_assoc (digits l) (plain 44 ∷ shown m) (plain (48 + d) ∷ [])), (small.0, within))

comma_count : (k n : OpenCount) → IsSmallCount k → count_comma k ≡ Some n → (count_shown n ≡ count_shown k ++ plain 44 ∷ []) × IsSmallCount n
comma_count (First None) n small e = cc e
comma_count (First (Some l)) n small e =
    let is : Second l None ≡ n = cc e in
    subst (λ (x : OpenCount). (count_shown x ≡ digits l ++ plain 44 ∷ []) × IsSmallCount x) is (refl, (small, tt))
comma_count (Second l m) n small e = cc e

-- a letter more is shown
with_count : (k n : OpenCount) (l : Letter) → IsSmallCount k → count_with k l ≡ Some n → (count_shown n ≡ count_shown k ++ l ∷ []) × IsSmallCount n
with_count k n l small e = by_cases l.escaped refl
  where
    by_cases : (b : Bool) → l.escaped ≡ b → (count_shown n ≡ count_shown k ++ l ∷ []) × IsSmallCount n
    by_cases true h =
        let none : None ≡ Some n = sym (rw h refl) ∙ e in
        cc none
    by_cases false h =
        elim (cases_eq l.character 44) [
          | inl comma ↦
              let at : count_comma k ≡ Some n = sym (rw (h, eq-eqb l.character 44 comma) refl) ∙ e in
              let is = letter_is l 44 comma h in
              subst (λ (x : Letter). (count_shown n ≡ count_shown k ++ x ∷ []) × IsSmallCount n) (sym is) (comma_count k n small at)
          | inr other ↦
              elim (cases_Bool (leb 48 l.character && leb l.character 57)) [
                | inl digit ↦
                    let bounds = and_parts (leb 48 l.character) (leb l.character 57) digit in
                    let low = leb-true 48 l.character bounds.0 in
                    let high = leb-true l.character 57 bounds.1 in
                    let at : count_digit k (l.character - 48) ≡ Some n = sym (rw (h, ne_eqb l.character 44 other, digit) refl) ∙ e in
                    let is = letter_is l (48 + (l.character - 48)) (omega arith) h in
                    subst (λ (x : Letter). (count_shown n ≡ count_shown k ++ x ∷ []) × IsSmallCount n) (sym is) (digit_count k (l.character - 48) n (omega arith) small at)
                | inr none ↦
                    let at : None ≡ Some n = sym (rw (h, ne_eqb l.character 44 other, none) refl) ∙ e in
                    cc at
              ]
        ]

-- the closing brace
close_count : (k : OpenCount) (q : Quantifier) → IsSmallCount k → count_close k ≡ Some q → IsQuantifier q (plain 123 ∷ (count_shown k ++ plain 125 ∷ []))
close_count (First None) q small e = cc e
close_count (First (Some n)) q small e =
    let is : Between n 0 ≡ q = cc e in
    subst (λ (x : Quantifier). IsQuantifier x (plain 123 ∷ (digits n ++ plain 125 ∷ []))) is (inr (inl (small, refl, refl)))
close_count (Second n None) q small e =
    let is : AtLeast n ≡ q = cc e in
    subst (λ (x : Quantifier). IsQuantifier x (plain 123 ∷ ((digits n ++ plain 44 ∷ []) ++ plain 125 ∷ []))) is (inr (small.0, ap (λ xs. plain 123 ∷ xs) (append_assoc (digits n) (plain 44 ∷ []) (plain 125 ∷ []))))
close_count (Second n (Some m)) q small e =
    let (low, is) = ordered n m (leb n m) q e in
    let within : n ≤ m = leb-true n m low in
    let sum : n + (m - n) ≡ m = omega arith in
    let top : m ≤ 255 = small.1 in
    subst (λ (x : Quantifier). IsQuantifier x (plain 123 ∷ ((digits n ++ plain 44 ∷ digits m) ++ plain 125 ∷ []))) is
    (inr (inr (omega arith, ap (λ xs. plain 123 ∷ xs) (append_assoc (digits n) (plain 44 ∷ digits m) (plain 125 ∷ []) ∙ ap (λ x. digits n ++ plain 44 ∷ (digits x ++ plain 125 ∷ [])) (sym sum)))))
  where
    ordered : (n m : ℕ) (b : Bool) (q : Quantifier) → cond b (Some (Between n (m - n))) None ≡ Some q → (b ≡ true) × (Between n (m - n) ≡ q)
    ordered n m true q e = (refl, cc e)
    ordered n m false q e = cc e

-- the letters behind an open brace are those of a quantifier
pub count_sound : (ls : List Letter) (k : OpenCount) (ts : List Token) → IsSmallCount k → lex (Count k) ls ≡ Some ts
    → (q : Quantifier) × (x : List Letter) × (y : List Letter) × (us : List Token) × (ls ≡ x ++ y) × (ts ≡ Times q ∷ us) × (lex Outside y ≡ Some us) × IsQuantifier q (plain 123 ∷ (count_shown k ++ x))
count_sound [] k ts small e = cc e
count_sound (l ∷ ls) k ts small e =
    let (s, us, here, rest, all) = lex_first (Count k) l ls ts e in
    elim (cases_Bool (eqb l.character 125 && not l.escaped)) [
      | inl ends ↦
          let at : option_map (λ q. record { mode = Outside; token = Some (Times q) }) (count_close k) ≡ Some s = sym (rw ends refl) ∙ here in
          let (q, closes, is) = map_some (λ q. record { mode = Outside; token = Some (Times q) }) (count_close k) s at in
          let parts = and_parts (eqb l.character 125) (not l.escaped) ends in
          let letter : l ≡ plain 125 = letter_is l 125 (eqb-true l.character 125 parts.0) (not-true l.escaped parts.1) in
          let after : lex Outside ls ≡ Some us = ap (λ (x : Step). lex x.mode ls) (sym is) ∙ rest in
          let tokens : ts ≡ Times q ∷ us = all ∙ ap (λ (x : Step). option_to_list x.token ++ us) is in
          (q, l ∷ [], ls, us, refl, tokens, after, subst (λ (x : Letter). IsQuantifier q (plain 123 ∷ (count_shown k ++ x ∷ []))) (sym letter) (close_count k q small closes))
      | inr goes ↦
          let at : option_map (λ n. record { mode = Count n; token = None }) (count_with k l) ≡ Some s = sym (rw goes refl) ∙ here in
          let (n, with, is) = map_some (λ n. record { mode = Count n; token = None }) (count_with k l) s at in
          let (shows, within) = with_count k n l small with in
          let after : lex (Count n) ls ≡ Some us = ap (λ (x : Step). lex x.mode ls) (sym is) ∙ rest in
          let tokens : ts ≡ us = all ∙ ap (λ (x : Step). option_to_list x.token ++ us) is in
          let (q, x, y, vs, split, more, end, quantifier) = count_sound ls n us within after in
          (q, l ∷ x, y, vs, ap (λ v. l ∷ v) split, tokens ∙ more, end, subst (λ v. IsQuantifier q (plain 123 ∷ v)) (ap (λ v. v ++ x) shows ∙ append_assoc (count_shown k) (l ∷ []) x) quantifier)
    ]

digit_step : (k n : OpenCount) (c : ℕ) → (leb 48 c && leb c 57) ≡ true → count_digit k (c - 48) ≡ Some n → advance (Count k) (plain c) ≡ Some (record { mode = Count n; token = None })
digit_step k n c digit e =
    let bounds = and_parts (leb 48 c) (leb c 57) digit in
    let low = leb-true 48 c bounds.0 in
    let high = leb-true c 57 bounds.1 in
    let brace : c ≢ 125 = omega arith in
    let comma : c ≢ 44 = omega arith in
    rw (ne_eqb c 125 brace, ne_eqb c 44 comma, digit) (ap (λ o. option_map (λ n. record { mode = Count n; token = None }) o) e)

-- the digits of a number are read
count_run : (cs : List ℕ) (m n : Option ℕ) (f : Option ℕ → OpenCount) (rest : List Letter) → ((j : Option ℕ) (d : ℕ) → count_digit (f j) d ≡ option_map (λ i. f (Some i)) (with_digit j d))
    → with_digits m cs ≡ Some n → lex (Count (f m)) (map plain cs ++ rest) ≡ lex (Count (f n)) rest
count_run [] m n f rest ok e =
    let is : m ≡ n = cc e in
    ap (λ x. lex (Count (f x)) rest) is
count_run (c ∷ cs) m n f rest ok e =
    elim (cases_Bool (leb 48 c && leb c 57)) [
      | inl digit ↦
          let at : option_and_then (λ i. with_digits (Some i) cs) (with_digit m (c - 48)) ≡ Some n = sym (rw digit refl) ∙ e in
          let (i, here, more) = then_some (λ i. with_digits (Some i) cs) (with_digit m (c - 48)) n at in
          let step : count_digit (f m) (c - 48) ≡ Some (f (Some i)) = ok m (c - 48) ∙ ap (λ o. option_map (λ i. f (Some i)) o) here in
          lex_quiet (Count (f m)) (Count (f (Some i))) (plain c) (map plain cs ++ rest) (digit_step (f m) (f (Some i)) c digit step) ∙ count_run cs (Some i) n f rest ok more
      | inr none ↦
          let at : None ≡ Some n = sym (rw none refl) ∙ e in
          cc at
    ]

first_run : (n : ℕ) (rest : List Letter) → n ≤ 255 → lex Outside (plain 123 ∷ (digits n ++ rest)) ≡ lex (Count (First (Some n))) rest
first_run n rest h =
    lex_quiet Outside (Count (First None)) (plain 123) (digits n ++ rest) refl
    ∙ count_run (decimal n) None (Some n) (λ x. First x) rest (λ j d. refl) (decimal_read n (omega arith))

second_run : (n m : ℕ) (rest : List Letter) → m ≤ 255 → lex (Count (First (Some n))) (plain 44 ∷ (digits m ++ rest)) ≡ lex (Count (Second n (Some m))) rest
second_run n m rest h =
    lex_quiet (Count (First (Some n))) (Count (Second n None)) (plain 44) (digits m ++ rest) refl
    ∙ count_run (decimal m) None (Some m) (λ x. Second n x) rest (λ j d. refl) (decimal_read m (omega arith))

-- a quantifier's letters are read as its token
pub quantifier_complete : (q : Quantifier) (x y : List Letter) (ts : List Token) → IsQuantifier q x → lex Outside y ≡ Some ts → lex Outside (x ++ y) ≡ Some (Times q ∷ ts)
quantifier_complete OneOrMore x y ts e h =
    ap (λ v. lex Outside (v ++ y)) e ∙ lex_token Outside Outside (Times OneOrMore) (plain 43) y ts refl h
quantifier_complete (AtLeast n) x y ts (inl (e, zero)) h =
    ap (λ v. lex Outside (v ++ y)) e ∙ (lex_token Outside Outside (Times (AtLeast 0)) (plain 42) y ts refl h ∙ ap (λ k. Some (Times (AtLeast k) ∷ ts)) (sym zero))
quantifier_complete (AtLeast n) x y ts (inr (small, e)) h =
    ap (λ v. lex Outside (v ++ y)) e
    ∙ (ap (λ v. lex Outside (plain 123 ∷ v)) (append_assoc (digits n) (plain 44 ∷ plain 125 ∷ []) y)
    ∙ (first_run n (plain 44 ∷ plain 125 ∷ y) small
    ∙ (lex_quiet (Count (First (Some n))) (Count (Second n None)) (plain 44) (plain 125 ∷ y) refl
    ∙ lex_token (Count (Second n None)) Outside (Times (AtLeast n)) (plain 125) y ts refl h)))
quantifier_complete (Between n m) x y ts (inl (e, zero, one)) h =
    ap (λ v. lex Outside (v ++ y)) e
    ∙ (lex_token Outside Outside (Times (Between 0 1)) (plain 63) y ts refl h ∙ (ap (λ k. Some (Times (Between k 1) ∷ ts)) (sym zero) ∙ ap (λ k. Some (Times (Between n k) ∷ ts)) (sym one)))
quantifier_complete (Between n m) x y ts (inr (inl (small, zero, e))) h =
    ap (λ v. lex Outside (v ++ y)) e
    ∙ (ap (λ v. lex Outside (plain 123 ∷ v)) (append_assoc (digits n) (plain 125 ∷ []) y)
    ∙ (first_run n (plain 125 ∷ y) small
    ∙ (lex_token (Count (First (Some n))) Outside (Times (Between n 0)) (plain 125) y ts refl h ∙ ap (λ k. Some (Times (Between n k) ∷ ts)) (sym zero))))
quantifier_complete (Between n m) x y ts (inr (inr (small, e))) h =
    let back : n + m - n ≡ m = omega arith in
    let closes : advance (Count (Second n (Some (n + m)))) (plain 125) ≡ Some (record { mode = Outside; token = Some (Times (Between n m)) }) =
    rw (le-leb n (n + m) (omega arith), back) refl in
    ap (λ v. lex Outside (v ++ y)) e
    ∙ (ap (λ v. lex Outside (plain 123 ∷ v)) (append_assoc (digits n) (plain 44 ∷ (digits (n + m) ++ plain 125 ∷ [])) y ∙ ap (λ v. digits n ++ plain 44 ∷ v) (append_assoc (digits (n + m)) (plain 125 ∷ []) y))
    ∙ (first_run n (plain 44 ∷ (digits (n + m) ++ plain 125 ∷ y)) (omega arith)
    ∙ (second_run n (n + m) (plain 125 ∷ y) small
    ∙ lex_token (Count (Second n (Some (n + m)))) Outside (Times (Between n m)) (plain 125) y ts closes h)))
