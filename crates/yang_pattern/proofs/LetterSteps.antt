-- One character of a text.
use Rattle.std.proofs.Common.{◌≡◌, ℕ, Bool, true, false, ◌&&◌, not, eqb, List, [], ◌∷◌, ◌++◌, Option, Some, None, option_map, option_and_then, refl, sym, ap, ◌∙◌, append-nil, length, chars, arith}
use Rattle.std.proofs.lemmas.Str.{chars-nil}
use Rattle.yang_pattern.specs.declared.errors.Failure.{Failure}
use Rattle.yang_pattern.specs.declared.errors.Failure.TheVariants.{NoPattern, NoMemory}
use Rattle.yang_pattern.specs.Errors.{IfNoPattern}
use Rattle.std.proofs.lemmas.Bool.{eq-eqb, eqb-true}
use Rattle.yang_pattern.specs.declared.letters.Letter.{Letter}
use Rattle.yang_pattern.specs.Letters.{letters_from, letter_of}

pub letters_backslash : (a : Bool) (c : ℕ) (cs : List ℕ) → c ≡ 92 → a ≡ false → letters_from a (c ∷ cs) ≡ letters_from true cs
letters_backslash a c cs e h = rw (eq-eqb c 92 e, h) refl

not_both : (x a : Bool) → (x ≡ true → a ≡ false → ⊥) → (x && not a) ≡ false
not_both true true h = refl
not_both true false h = absurd (h refl refl)
not_both false a h = refl

pub letters_other : (a : Bool) (c : ℕ) (cs : List ℕ) → (c ≡ 92 → a ≡ false → ⊥)
    → letters_from a (c ∷ cs) ≡ option_and_then (λ l. option_map (λ ls. l ∷ ls) (letters_from false cs)) (letter_of a c)
letters_other a c cs h = rw (not_both (eqb c 92) a (λ e. h (eqb-true c 92 e))) refl

pub chars_none : (bs : List ℕ) → length bs ≡ 0 → chars bs ≡ []
chars_none [] e = chars-nil
chars_none (b ∷ bs) e = absurd (omega arith)

-- at the end of the text
pub ends_behind : (a : Bool) (ls : List Letter) (cs : List ℕ) (whole : Option (List Letter)) → cs ≡ [] → a ≡ true → option_map (λ xs. ls ++ xs) (letters_from a cs) ≡ whole → whole ≡ None
ends_behind a ls cs whole e h is = sym is ∙ rw (e, h) refl

pub ends_well : (a : Bool) (ls : List Letter) (cs : List ℕ) (whole : Option (List Letter)) → cs ≡ [] → a ≡ false → option_map (λ xs. ls ++ xs) (letters_from a cs) ≡ whole → whole ≡ Some ls
ends_well a ls cs whole e h is = sym is ∙ rw (e, h) (ap Some (append-nil ls))

pub IfNoPattern-weaker : {P Q : Type 0} (e : Failure) → (P → Q) → IfNoPattern e P → IfNoPattern e Q
IfNoPattern-weaker NoPattern f h = f h
IfNoPattern-weaker NoMemory f h = h
