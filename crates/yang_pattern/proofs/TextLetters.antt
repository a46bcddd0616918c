-- Reading letters gives exactly the letters of the text.
use Rattle.std.proofs.Common.{◌≡◌, ℕ, Bool, true, false, List, [], ◌∷◌, ◌++◌, Some, option_map, option_and_then, refl, sym, ap, ◌∙◌, subst, inl, inr}
use Rattle.std.proofs.lemmas.Bool.{cases_eq, true≢false}
use Rattle.yang_pattern.specs.declared.letters.Letter.{Letter}
use Rattle.yang_pattern.specs.Letters.{letters_from, letter_of}
use Rattle.yang_pattern.specs.Escapes.{escaped_character}
use Rattle.yang_pattern.specs.Grammar.{IsLetter, IsText}
use Rattle.yang_pattern.proofs.LetterSteps.{letters_backslash, letters_other}
use Rattle.yang_pattern.proofs.TokenSources.{map_some, then_some}

one_letter : (b : Bool) (c : ℕ) (x y : List ℕ) (ls : List Letter) → IsLetter b c x → letters_from false y ≡ Some ls
    → letters_from false (x ++ y) ≡ Some (record { character = c; escaped = b } ∷ ls)
one_letter false c x y ls (e, other) more =
    ap (λ v. letters_from false (v ++ y)) e
    ∙ (letters_other false c y (λ is h. other is) ∙ ap (λ o. option_map (λ (xs : List Letter). record { character = c; escaped = false } ∷ xs) o) more)
one_letter true c x y ls (d, e, is) more =
    ap (λ v. letters_from false (v ++ y)) e
    ∙ (letters_backslash false 92 (d ∷ y) refl refl
    ∙ (letters_other true d y (λ same h. true≢false h)
    ∙ (ap (λ o. option_and_then (λ (l : Letter). option_map (λ (xs : List Letter). l ∷ xs) (letters_from false y)) (option_map (λ k. record { character = k; escaped = true }) o)) is
    ∙ ap (λ o. option_map (λ (xs : List Letter). record { character = c; escaped = true } ∷ xs) o) more)))

pub letters_complete : (ls : List Letter) (cs : List ℕ) → IsText ls cs → letters_from false cs ≡ Some ls
letters_complete [] cs e = ap (λ v. letters_from false v) e
letters_complete (l ∷ ls) cs (x, y, e, is, more) =
    ap (λ v. letters_from false v) e ∙ one_letter l.escaped l.character x y ls is (letters_complete ls y more)

-- the backslash that stands before
abbrev before : Bool → List ℕ
before true = 92 ∷ []
before false = []

pub letters_sound : (a : Bool) (cs : List ℕ) (ls : List Letter) → letters_from a cs ≡ Some ls → IsText ls (before a ++ cs)
letters_sound true [] ls e = cc e
letters_sound false [] ls e =
    let is : [] ≡ ls = cc e in
    subst (λ (x : List Letter). IsText x []) is refl
letters_sound false (c ∷ cs) ls e =
    elim (cases_eq c 92) [
      | inl is ↦ subst (λ d. IsText ls (d ∷ cs)) (sym is) (letters_sound true cs ls (sym (letters_backslash false c cs is refl) ∙ e))
      | inr other ↦
          let (l, here, more) = then_some (λ (l : Letter). option_map (λ (xs : List Letter). l ∷ xs) (letters_from false cs)) (letter_of false c) ls (sym (letters_other false c cs (λ is h. other is)) ∙ e) in
          let (xs, rest, all) = map_some (λ (xs : List Letter). l ∷ xs) (letters_from false cs) ls more in
          let letter : record { character = c; escaped = false } ≡ l = cc here in
          let P : Letter → Type 0 = λ k. IsText (k ∷ xs) (c ∷ cs) in
          subst (λ (x : List Letter). IsText x (c ∷ cs)) (sym all) (subst P letter (c ∷ [], cs, refl, (refl, other), letters_sound false cs xs rest))
    ]
letters_sound true (c ∷ cs) ls e =
    let (l, here, more) = then_some (λ (l : Letter). option_map (λ (xs : List Letter). l ∷ xs) (letters_from false cs)) (letter_of true c) ls (sym (letters_other true c cs (λ is h. true≢false h)) ∙ e) in
    let (xs, rest, all) = map_some (λ (xs : List Letter). l ∷ xs) (letters_from false cs) ls more in
    let (d, escape, letter) = map_some (λ k. record { character = k; escaped = true }) (escaped_character c) l here in
    let P : Letter → Type 0 = λ k. IsText (k ∷ xs) (92 ∷ c ∷ cs) in
    subst (λ (x : List Letter). IsText x (92 ∷ c ∷ cs)) (sym all) (subst P (sym letter) (92 ∷ c ∷ [], cs, refl, (c, refl, escape), letters_sound false cs xs rest))
