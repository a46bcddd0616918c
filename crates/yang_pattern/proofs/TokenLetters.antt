-- Reading tokens gives exactly the tokens that the letters spell.
use Rattle.std.proofs.Common.{◌≡◌, ◌≢◌, ℕ, Bool, true, false, ◌||◌, not, eqb, List, [], ◌∷◌, ◌++◌, Some, None, option_to_list, refl, sym, ap, ◌∙◌, subst, inl, inr, ◌⊎◌, IsTrue}
use Rattle.std.proofs.lemmas.Bool.{eq-eqb, ne_eqb, cases_eq, not-true, or_parts}
use Rattle.yang_pattern.specs.declared.letters.Letter.{Letter}
use Rattle.yang_pattern.specs.declared.symbols.Token.{Token}
use Rattle.yang_pattern.specs.declared.symbols.Token.TheVariants.{Open, Close, Bar, Times, Symbol}
use Rattle.yang_pattern.specs.declared.classes.Item.TheVariants.{Start}
use Rattle.yang_pattern.specs.declared.counts.OpenCount.TheVariants.{First}
use Rattle.yang_pattern.specs.declared.tokens.Mode.TheVariants.{Outside, Class, Count}
use Rattle.yang_pattern.specs.declared.tokens.Step.{Step}
use Rattle.yang_pattern.specs.Lexing.{outside, token_at, lex}
use Rattle.yang_pattern.specs.Grammar.{plain, is_special, IsToken, AreTokens}
use Rattle.yang_pattern.proofs.LexRuns.{lex_token, lex_first}
use Rattle.yang_pattern.proofs.CountLetters.{count_sound, quantifier_complete}
use Rattle.yang_pattern.proofs.ClassLetters.{class_complete, class_token}

-- the step of a token
abbrev token_step : Token → Step
token_step t = record { mode = Outside; token = Some t }

abbrev single : ℕ → Bool × List (ℕ × ℕ)
single c = (false, (c, c) ∷ [])

single_step : (b : Bool) (c : ℕ) → IsTrue (b || not (is_special c)) → outside (record { character = c; escaped = b }) ≡ Some (token_step (Symbol (single c)))
single_step true c h = refl
single_step false c h =
    let none = not-true (is_special c) h in
    let p10 = or_parts (eqb c 46 || eqb c 63 || eqb c 42 || eqb c 43 || eqb c 123 || eqb c 125 || eqb c 40 || eqb c 41 || eqb c 91 || eqb c 93) (eqb c 124) none in
    let p9 = or_parts (eqb c 46 || eqb c 63 || eqb c 42 || eqb c 43 || eqb c 123 || eqb c 125 || eqb c 40 || eqb c 41 || eqb c 91) (eqb c 93) p10.0 in
    let p8 = or_parts (eqb c 46 || eqb c 63 || eqb c 42 || eqb c 43 || eqb c 123 || eqb c 125 || eqb c 40 || eqb c 41) (eqb c 91) p9.0 in
    let p7 = or_parts (eqb c 46 || eqb c 63 || eqb c 42 || eqb c 43 || eqb c 123 || eqb c 125 || eqb c 40) (eqb c 41) p8.0 in
    let p6 = or_parts (eqb c 46 || eqb c 63 || eqb c 42 || eqb c 43 || eqb c 123 || eqb c 125) (eqb c 40) p7.0 in
    let p5 = or_parts (eqb c 46 || eqb c 63 || eqb c 42 || eqb c 43 || eqb c 123) (eqb c 125) p6.0 in
    let p4 = or_parts (eqb c 46 || eqb c 63 || eqb c 42 || eqb c 43) (eqb c 123) p5.0 in
    let p3 = or_parts (eqb c 46 || eqb c 63 || eqb c 42) (eqb c 43) p4.0 in
    let p2 = or_parts (eqb c 46 || eqb c 63) (eqb c 42) p3.0 in
    let p1 = or_parts (eqb c 46) (eqb c 63) p2.0 in
    rw (p8.1, p4.1, p9.1, p5.1, p6.1, p7.1, p10.1, p2.1, p3.1, p1.1, p1.0) refl

-- the letters of a token are read as it
token_complete : (t : Token) (x y : List Letter) (ts : List Token) → IsToken t x → lex Outside y ≡ Some ts → lex Outside (x ++ y) ≡ Some (t ∷ ts)
token_complete Open x y ts e h = ap (λ v. lex Outside (v ++ y)) e ∙ lex_token Outside Outside Open (plain 40) y ts refl h
token_complete Close x y ts e h = ap (λ v. lex Outside (v ++ y)) e ∙ lex_token Outside Outside Close (plain 41) y ts refl h
token_complete Bar x y ts e h = ap (λ v. lex Outside (v ++ y)) e ∙ lex_token Outside Outside Bar (plain 124) y ts refl h
token_complete (Times q) x y ts e h = quantifier_complete q x y ts e h
token_complete (Symbol s) x y ts (inl (l, e, self, is)) h =
    ap (λ v. lex Outside (v ++ y)) e
    ∙ (lex_token Outside Outside (Symbol (single l.character)) l y ts (single_step l.escaped l.character self) h ∙ ap (λ (z : Bool × List (ℕ × ℕ)). Some (Symbol z ∷ ts)) (sym is))
token_complete (Symbol s) x y ts (inr (inl (e, is))) h =
    ap (λ v. lex Outside (v ++ y)) e
    ∙ (lex_token Outside Outside (Symbol (true, (10, 10) ∷ (13, 13) ∷ [])) (plain 46) y ts refl h ∙ ap (λ (z : Bool × List (ℕ × ℕ)). Some (Symbol z ∷ ts)) (sym is))
token_complete (Symbol s) x y ts (inr (inr k)) h = class_complete s x y ts k h

pub tokens_complete : (ts : List Token) (ls : List Letter) → AreTokens ts ls → lex Outside ls ≡ Some ts
tokens_complete [] ls e = ap (λ v. lex Outside v) e
tokens_complete (t ∷ ts) ls (x, y, e, is, more) = ap (λ v. lex Outside v) e ∙ token_complete t x y ts is (tokens_complete ts y more)

-- what a letter outside classes and braces is
abbrev OutsideIs : Letter → Step → Type 0
OutsideIs l st = ((t : Token) × (token_step t ≡ st) × IsToken t (l ∷ []))
    ⊎ (((l ≡ plain 91) × (record { mode = Class (false, [], Start); token = None } ≡ st)) ⊎ ((l ≡ plain 123) × (record { mode = Count (First None); token = None } ≡ st)))

outside_cases : (b : Bool) (c : ℕ) (st : Step) → outside (record { character = c; escaped = b }) ≡ Some st → OutsideIs (record { character = c; escaped = b }) st
outside_cases true c st e = inl (Symbol (single c), cc e, inl (record { character = c; escaped = true }, refl, refl, refl))
outside_cases false c st e =
    elim (cases_eq c 91) [
      | inl is ↦ let at : Some (record { mode = Class (false, [], Start); token = None }) ≡ Some st = sym (rw (eq-eqb c 91 is) refl) ∙ e in inr (inl (ap plain is, cc at))
      | inr n91 ↦ elim (cases_eq c 123) [
        | inl is ↦ let at : Some (record { mode = Count (First None); token = None }) ≡ Some st = sym (rw (ne_eqb c 91 n91, eq-eqb c 123 is) refl) ∙ e in inr (inr (ap plain is, cc at))
        | inr n123 ↦ elim (cases_eq c 93) [
          | inl is ↦ let at : None ≡ Some st = sym (rw (ne_eqb c 91 n91, ne_eqb c 123 n123, eq-eqb c 93 is) refl) ∙ e in cc at
          | inr n93 ↦ elim (cases_eq c 125) [
            | inl is ↦ let at : None ≡ Some st = sym (rw (ne_eqb c 91 n91, ne_eqb c 123 n123, ne_eqb c 93 n93, eq-eqb c 125 is) refl) ∙ e in cc at
            | inr n125 ↦
                let at : Some (token_step (token_at c)) ≡ Some st = sym (rw (ne_eqb c 91 n91, ne_eqb c 123 n123, ne_eqb c 93 n93, ne_eqb c 125 n125) refl) ∙ e in
                inl (token_at c, cc at, token_is c n91 n123 n93 n125)
          ]
        ]
      ]
    ]
  where
    token_is : (c : ℕ) → c ≢ 91 → c ≢ 123 → c ≢ 93 → c ≢ 125 → IsToken (token_at c) (plain c ∷ [])
    token_is c n91 n123 n93 n125 =
        let P : ℕ → Type 0 = λ d. IsToken (token_at d) (plain d ∷ []) in
        elim (cases_eq c 40) [
          | inl is ↦ subst P (sym is) refl
          | inr n40 ↦ elim (cases_eq c 41) [
            | inl is ↦ subst P (sym is) refl
            | inr n41 ↦ elim (cases_eq c 124) [
              | inl is ↦ subst P (sym is) refl
              | inr n124 ↦ elim (cases_eq c 42) [
                | inl is ↦ subst P (sym is) (inl (refl, refl))
                | inr n42 ↦ elim (cases_eq c 43) [
                  | inl is ↦ subst P (sym is) refl
                  | inr n43 ↦ elim (cases_eq c 63) [
                    | inl is ↦ subst P (sym is) (inl (refl, refl, refl))
                    | inr n63 ↦ elim (cases_eq c 46) [
                      | inl is ↦ subst P (sym is) (inr (inl (refl, refl)))
                      | inr n46 ↦
                          let self : IsTrue (false || not (is_special c)) = rw (ne_eqb c 46 n46, ne_eqb c 63 n63, ne_eqb c 42 n42, ne_eqb c 43 n43, ne_eqb c 123 n123, ne_eqb c 125 n125, ne_eqb c 40 n40, ne_eqb c 41 n41, ne_eqb c 91 n91, ne_eqb c 93 n93, ne_eqb c 124 n124) refl in
                          let Q : Token → Type 0 = λ t. IsToken t (plain c ∷ []) in
                          let is : token_at c ≡ Symbol (single c) = rw (ne_eqb c 40 n40, ne_eqb c 41 n41, ne_eqb c 124 n124, ne_eqb c 42 n42, ne_eqb c 43 n43, ne_eqb c 63 n63, ne_eqb c 46 n46) refl in
                          subst Q (sym is) (inl (plain c, refl, self, refl))
                    ]
                  ]
                ]
              ]
            ]
          ]
        ]

-- the first token of letters that are read
first_token : (ls : List Letter) (t : Token) (ts : List Token) → lex Outside ls ≡ Some (t ∷ ts)
    → (x : List Letter) × (y : List Letter) × (ls ≡ x ++ y) × IsToken t x × (lex Outside y ≡ Some ts)
first_token [] t ts e = cc e
first_token (l ∷ ls) t ts e =
    let (st, us, here, rest, all) = lex_first Outside l ls (t ∷ ts) e in
    elim (outside_cases l.escaped l.character st here) [
      | inl (k, is, token) ↦
          let after : lex Outside ls ≡ Some us = ap (λ (x : Step). lex x.mode ls) is ∙ rest in
          let tokens : t ∷ ts ≡ k ∷ us = all ∙ ap (λ (x : Step). option_to_list x.token ++ us) (sym is) in
          let same : t ≡ k = cc tokens in
          let others : ts ≡ us = cc tokens in
          (l ∷ [], ls, refl, subst (λ (z : Token). IsToken z (l ∷ [])) (sym same) token, after ∙ ap Some (sym others))
      | inr (inl (letter, is)) ↦
          let after : lex (Class (false, [], Start)) ls ≡ Some us = ap (λ (x : Step). lex x.mode ls) is ∙ rest in
          let tokens : t ∷ ts ≡ us = all ∙ ap (λ (x : Step). option_to_list x.token ++ us) (sym is) in
          let (y, x, z, vs, split, first, end, class) = class_token ls us after in
          let both : t ∷ ts ≡ Symbol y ∷ vs = tokens ∙ first in
          let same : t ≡ Symbol y = cc both in
          let others : ts ≡ vs = cc both in
          (x, z, ap (λ (k : Letter). k ∷ ls) letter ∙ split, subst (λ (k : Token). IsToken k x) (sym same) (inr (inr class)), end ∙ ap Some (sym others))
      | inr (inr (letter, is)) ↦
          let after : lex (Count (First None)) ls ≡ Some us = ap (λ (x : Step). lex x.mode ls) is ∙ rest in
          let tokens : t ∷ ts ≡ us = all ∙ ap (λ (x : Step). option_to_list x.token ++ us) (sym is) in
          let (q, x, z, vs, split, first, end, quantifier) = count_sound ls (First None) us tt after in
          let both : t ∷ ts ≡ Times q ∷ vs = tokens ∙ first in
          let same : t ≡ Times q = cc both in
          let others : ts ≡ vs = cc both in
          (plain 123 ∷ x, z, ap (λ (k : Letter). k ∷ ls) letter ∙ ap (λ v. plain 123 ∷ v) split, subst (λ (k : Token). IsToken k (plain 123 ∷ x)) (sym same) quantifier, end ∙ ap Some (sym others))
    ]

no_token : (ls : List Letter) → lex Outside ls ≡ Some [] → ls ≡ []
no_token [] e = refl
no_token (l ∷ ls) e =
    let (st, us, here, rest, all) = lex_first Outside l ls [] e in
    elim (outside_cases l.escaped l.character st here) [
      | inl (k, is, token) ↦
          let tokens : [] ≡ k ∷ us = all ∙ ap (λ (x : Step). option_to_list x.token ++ us) (sym is) in cc tokens
      | inr (inl (letter, is)) ↦
          let after : lex (Class (false, [], Start)) ls ≡ Some us = ap (λ (x : Step). lex x.mode ls) is ∙ rest in
          let tokens : [] ≡ us = all ∙ ap (λ (x : Step). option_to_list x.token ++ us) (sym is) in
          let (y, x, z, vs, split, first, end, class) = class_token ls us after in
          let both : [] ≡ Symbol y ∷ vs = tokens ∙ first in cc both
      | inr (inr (letter, is)) ↦
          let after : lex (Count (First None)) ls ≡ Some us = ap (λ (x : Step). lex x.mode ls) is ∙ rest in
          let tokens : [] ≡ us = all ∙ ap (λ (x : Step). option_to_list x.token ++ us) (sym is) in
          let (q, x, z, vs, split, first, end, quantifier) = count_sound ls (First None) us tt after in
          let both : [] ≡ Times q ∷ vs = tokens ∙ first in cc both
    ]

pub tokens_sound : (ts : List Token) (ls : List Letter) → lex Outside ls ≡ Some ts → AreTokens ts ls
tokens_sound [] ls e = no_token ls e
tokens_sound (t ∷ ts) ls e =
    let (x, y, split, token, after) = first_token ls t ts e in
    (x, y, split, token, tokens_sound ts y after)
