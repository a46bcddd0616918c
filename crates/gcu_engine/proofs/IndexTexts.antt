-- A token that is an index at a list is the text of that index, and `-` is the one behind the last item.
use Rattle.std.proofs.Common.{◌≡◌, ℕ, zero, suc, ◌+◌, ◌-◌, ◌/◌, ◌%◌, ◌<◌, ◌≤◌, List, [], ◌∷◌, ◌++◌, Bool, true, false, map, fold, refl, sym, ap, ◌∙◌, arith, append-nil, append_assoc, nat_le, if◌then◌else◌}
use Rattle.std.specs.Prelude.{codes}
use Rattle.std.proofs.lemmas.Bool.{and_parts, eqb-true, leb-true, not-true, eqb-false}
use Rattle.std.proofs.lemmas.Int.Digits.{digits_of_step}
use Rattle.std.proofs.lemmas.List.{map-append}
use Rattle.std.specs.Int.Digits.{digits_of}
use Rattle.std.specs.Char.{is_ascii_digit}
use Rattle.std.specs.List.{list_all}
use Rattle.host_core.specs.Characters.{decimal_base, digit_zero}
use Rattle.patch_core.specs.Indexes.{behind_last, index, is_dash, is_index, list_token, no_index, number, with_digit}
use Rattle.patch_core.proofs.Numbers.{fold_grows}
use Rattle.move_core.specs.Operations.{index_text}

abbrev character : ℕ → ℕ
character d = digit_zero + d

abbrev characters : List ℕ → List ℕ
characters ds = map character ds

-- ---- digits and their number

record IsDigit (c : ℕ) : Type 0 where
  pub low : 48 ≤ c
  pub high : c ≤ 57

digit_told : (c : ℕ) → is_ascii_digit c ≡ true → IsDigit c
digit_told c is =
    let parts = and_parts (nat_le 48 c) (nat_le c 57) is in
    record { low = leb-true 48 c parts.0; high = leb-true c 57 parts.1 }

last_of : (n c : ℕ) → 0 < n → IsDigit c
    → characters (digits_of decimal_base (with_digit n c)) ≡ characters (digits_of decimal_base n) ++ c ∷ []
last_of n c some is =
    let step = digits_of_step decimal_base (with_digit n c) (omega arith) (omega arith) in
    let front : with_digit n c / decimal_base ≡ n = omega arith in
    let end : character (with_digit n c % decimal_base) ≡ c = omega arith in
    ap characters step ∙ map-append character (digits_of decimal_base (with_digit n c / decimal_base))
    (with_digit n c % decimal_base ∷ [])
    ∙ ap (λ m. characters (digits_of decimal_base m) ++ character (with_digit n c % decimal_base) ∷ []) front
    ∙ ap (λ x. characters (digits_of decimal_base n) ++ x ∷ []) end

digits_behind : (n : ℕ) (cs : List ℕ) → 0 < n → list_all is_ascii_digit cs ≡ true
    → characters (digits_of decimal_base (fold with_digit n cs)) ≡ characters (digits_of decimal_base n) ++ cs
digits_behind n [] some are = sym (append-nil (characters (digits_of decimal_base n)))
digits_behind n (c ∷ cs) some are =
    let parts = and_parts (is_ascii_digit c) (list_all is_ascii_digit cs) are in
    digits_behind (with_digit n c) cs (omega arith) parts.1 ∙ ap (λ ds. ds ++ cs)
    (last_of n c some (digit_told c parts.0))
    ∙ append_assoc (characters (digits_of decimal_base n)) (c ∷ []) cs

first_digit : (c : ℕ) → 48 < c → IsDigit c → characters (digits_of decimal_base (with_digit 0 c)) ≡ c ∷ []
first_digit c some is =
    let step = digits_of_step decimal_base (with_digit 0 c) (omega arith) (omega arith) in
    let front : with_digit 0 c / decimal_base ≡ 0 = omega arith in
    let end : character (with_digit 0 c % decimal_base) ≡ c = omega arith in
    ap characters step ∙ ap (λ m. characters (digits_of decimal_base m ++ with_digit 0 c % decimal_base ∷ [])) front
    ∙ ap (λ x. x ∷ []) end

text_of_some : (n : ℕ) → 0 < n → index_text n ≡ characters (digits_of decimal_base n)
text_of_some zero some = absurd (omega arith)
text_of_some (suc n) some = refl

-- ---- the token of an index

one_digit : (c : ℕ) → IsDigit c → c ∷ [] ≡ index_text (number (c ∷ []))
one_digit c is = by (c - 48) (omega arith)
  where
    by : (d : ℕ) → c ≡ 48 + d → c ∷ [] ≡ index_text (number (c ∷ []))
    by zero e =
        let none : number (c ∷ []) ≡ 0 = omega arith in
        ap (λ x. x ∷ []) e ∙ ap index_text (sym none)
    by (suc d) e =
        sym (text_of_some (number (c ∷ [])) (omega arith) ∙ first_digit c (omega arith) is)

index_is : (token : List ℕ) → is_index token ≡ true → token ≡ index_text (number token)
index_is [] is = absurd cc
index_is (c ∷ []) is = one_digit c (digit_told c is)
index_is (c ∷ d ∷ ds) is =
    let parts = and_parts _ (list_all is_ascii_digit (c ∷ d ∷ ds)) is in
    let all = and_parts (is_ascii_digit c) (list_all is_ascii_digit (d ∷ ds)) parts.1 in
    let digit = digit_told c all.0 in
    let other = eqb-false c digit_zero (not-true _ parts.0) in
    let more : 48 < c = above c digit other in
    let some : 0 < number (c ∷ d ∷ ds) = omega (arith, fold_grows (with_digit 0 c) (d ∷ ds)) in
    sym (text_of_some (number (c ∷ d ∷ ds)) some ∙ digits_behind (with_digit 0 c) (d ∷ ds) (omega arith) all.1 ∙
    ap (λ xs. xs ++ d ∷ ds) (first_digit c more digit))
  where
    above : (c : ℕ) → IsDigit c → (c ≡ digit_zero → ⊥) → 48 < c
    above c digit other = omega arith

picks_index : (a b : Bool) (n i : ℕ) → (if a then behind_last else if b then index n else no_index) ≡ index i
    → (b ≡ true) × (n ≡ i)
picks_index true b n i e = absurd cc
picks_index false false n i e = absurd cc
picks_index false true n i e = (refl, cc)

picks_dash : (a b : Bool) (n : ℕ) → (if a then behind_last else if b then index n else no_index) ≡ behind_last
    → a ≡ true
picks_dash true b n e = refl
picks_dash false false n e = absurd cc
picks_dash false true n e = absurd cc

pub token_is_index : (token : List ℕ) (i : ℕ) → list_token token ≡ index i → token ≡ index_text i
token_is_index token i e =
    let is = picks_index (is_dash token) (is_index token) (number token) i e in
    index_is token is.0 ∙ ap index_text is.1

dash_is : (token : List ℕ) → is_dash token ≡ true → token ≡ codes "-"
dash_is [] is = absurd cc
dash_is (b ∷ []) is = ap (λ x. x ∷ []) (eqb-true b 45 is)
dash_is (b ∷ c ∷ bs) is = absurd cc

pub token_is_dash : (token : List ℕ) → list_token token ≡ behind_last → token ≡ codes "-"
token_is_dash token e = dash_is token (picks_dash (is_dash token) (is_index token) (number token) e)
