-- The parts of a key are one list.
use Rattle.std.proofs.Common.{◌≡◌, ◌≢◌, ◌==◌, ◌<◌, ℕ, Bool, true, false, cond, List, [], ◌∷◌, ◌++◌, length, map, All, refl, sym, ap, ◌∙◌, arith, rules}
use Rattle.std.specs.List.{join_with_byte, onto_first, join_by}
use Rattle.std.proofs.lemmas.Bool.{eqb-false, ne_eqb}
use Rattle.std.proofs.lemmas.List.Elements.{All-nil, All-cons, All-head, All-tail, All-weaker}
use Rattle.std.proofs.lemmas.List.Splits.{slice_split_none, slice_split_at, length-slice_split, join_with_byte-slice_split}
use Rattle.host_core.specs.Characters.{bar}
use Rattle.key_split.specs.Key.{HasNoBar, ArePartsOf, key_parts}

abbrev IsPlain : ℕ → Type 0
IsPlain c = c ≢ bar

HasNoBar-nil : HasNoBar []
HasNoBar-nil = All-nil IsPlain

All-onto_first : (x : ℕ) (parts : List (List ℕ)) → x ≢ bar → All HasNoBar parts → All HasNoBar (onto_first x parts)
All-onto_first x [] ne all = All-cons HasNoBar (x ∷ []) [] (All-cons IsPlain x [] ne HasNoBar-nil) all
All-onto_first x (part ∷ parts) ne all =
    All-cons HasNoBar (x ∷ part) parts (All-cons IsPlain x part ne (All-head HasNoBar part parts all)) (All-tail HasNoBar part parts all)

All-cond : (b : Bool) (x : ℕ) (parts : List (List ℕ)) → (b ≡ false → x ≢ bar) → All HasNoBar parts → All HasNoBar (cond b ([] ∷ parts) (onto_first x parts))
All-cond true x parts ne all = All-cons HasNoBar [] parts HasNoBar-nil all
All-cond false x parts ne all = All-onto_first x parts (ne refl) all

-- no part holds a bar
All-key_parts : (key : List ℕ) → All HasNoBar (key_parts key)
All-key_parts [] = All-cons HasNoBar [] [] HasNoBar-nil (All-nil HasNoBar)
All-key_parts (c ∷ key) = All-cond (c == bar) c (key_parts key) (eqb-false c bar) (All-key_parts key)

-- a key has parts
pub ArePartsOf-key_parts : (key : List ℕ) → ArePartsOf key (key_parts key)
ArePartsOf-key_parts key = record {
  some = omega (arith, length-slice_split (λ c. c == bar) key);
  plain = All-key_parts key;
  whole = join_with_byte-slice_split bar key;
}

all_differ : (part : List ℕ) → HasNoBar part → All (λ c. (c == bar) ≡ false) part
all_differ part plain = All-weaker IsPlain (λ c. (c == bar) ≡ false) (λ c ne. ne_eqb c bar ne) part plain

key_parts-join : (parts : List (List ℕ)) → 0 < length parts → All HasNoBar parts → key_parts (join_with_byte bar parts) ≡ parts
key_parts-join [] some plain = absurd (omega arith)
key_parts-join (x ∷ []) some plain = slice_split_none (λ c. c == bar) x (all_differ x (All-head HasNoBar x [] plain))
key_parts-join (x ∷ y ∷ parts) some plain =
    slice_split_at (λ c. c == bar) x bar (join_with_byte bar (y ∷ parts)) (all_differ x (All-head HasNoBar x (y ∷ parts) plain)) refl
    ∙ ap (λ ps. x ∷ ps) (key_parts-join (y ∷ parts) (omega arith) (All-tail HasNoBar x (y ∷ parts) plain))

-- and no others
pub key_parts-only : (key : List ℕ) (parts : List (List ℕ)) → ArePartsOf key parts → parts ≡ key_parts key
key_parts-only key parts are = sym (key_parts-join parts are.some are.plain) ∙ ap key_parts are.whole

module _ {X : Type 0} (f : X → List ℕ) where
  pub join_by-bar : (xs : List X) → join_by f (bar ∷ []) xs ≡ join_with_byte bar (map f xs)
  join_by-bar [] = refl
  join_by-bar (x ∷ []) = search rules
  join_by-bar (x ∷ y ∷ xs) = ap (λ rest. f x ++ (bar ∷ rest)) (join_by-bar (y ∷ xs))
