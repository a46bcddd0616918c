-- Keys of at most two parts: a part stands at an end.
use Rattle.std.proofs.Common.{◌≡◌, ◌≤◌, ◌||◌, ℕ, zero, suc, Bool, true, false, List, [], ◌∷◌, ◌++◌, length, Contains, refl, sym, ap, ◌∙◌, subst, arith, append-nil, append_assoc}
use Rattle.std.specs.Prelude.{MatchBool}
use Rattle.std.specs.List.{AllZip, join_with_byte}
use Rattle.std.proofs.lemmas.List.Splits.{join_with_byte-slice_split}
use Rattle.std.proofs.lemmas.Option.{get_or_from_slice_get}
use Rattle.std.proofs.lemmas.Bool.Decides.{Decides-eqb}
use Rattle.std.proofs.lemmas.Slice.Eq.{ends_is, starts_is}
use Rattle.std.proofs.lemmas.Slice.Zip.{AllZip-long}
use Rattle.conf_check.specs.Rows.{IsShapeOf}
use Rattle.host_core.specs.Characters.{bar}
use Rattle.key_split.specs.Key.{key_parts}
use Rattle.yang_model.specs.Belongs.{AcceptsPart, Fits}
use Rattle.yang_model.specs.ModelSets.{ModelSet, shapes_of}
use Rattle.yang_model.specs.declared.shapes.Shape.{Shape}
use Rattle.move_extend.specs.KeyLengths.{HasFewParts, IsShort, is_at_an_end}

-- ---- parts

or_left : (a b : Bool) → a ≡ true → a || b ≡ true
or_left true b e = refl
or_left false b e = cc

or_right : (a b : Bool) → b ≡ true → a || b ≡ true
or_right true b e = refl
or_right false b e = e

module _ (key s : List ℕ) where
  begins : (rest : List ℕ) → key ≡ s ++ rest → is_at_an_end key s ≡ true
  begins rest e = or_left _ _ ((starts_is Decides-eqb key s _ refl).1 rest e)

  ends : (front : List ℕ) → key ≡ front ++ s → is_at_an_end key s ≡ true
  ends front e = or_right _ _ ((ends_is Decides-eqb key s _ refl).1 front e)

  among_few : (parts : List (List ℕ)) → length parts ≤ 2 → Contains parts s → join_with_byte bar parts ≡ key → is_at_an_end key s ≡ true
  among_few [] few (i, below, is) whole = absurd (omega (arith, below))
  among_few (x ∷ []) few (zero, below, is) whole = begins [] (sym whole ∙ is ∙ sym (append-nil s))
  among_few (x ∷ []) few (suc i, below, is) whole = absurd (omega (arith, below))
  among_few (x ∷ y ∷ []) few (zero, below, is) whole = begins (bar ∷ y) (sym whole ∙ ap (λ (z : List ℕ). z ++ (bar ∷ y)) is)
  among_few (x ∷ y ∷ []) few (suc zero, below, is) whole =
      ends (x ++ (bar ∷ [])) (sym whole ∙ ap (λ (z : List ℕ). x ++ (bar ∷ z)) is ∙ sym (append_assoc x (bar ∷ []) s))
  among_few (x ∷ y ∷ []) few (suc (suc i), below, is) whole = absurd (omega (arith, below))
  among_few (x ∷ y ∷ z ∷ rest) few has whole = absurd (omega (arith, few))

  -- a part of a key that has at most two stands at an end of it
  pub part_at_end : HasFewParts key → Contains (key_parts key) s → is_at_an_end key s ≡ true
  part_at_end few has = among_few (key_parts key) few has (join_with_byte-slice_split bar key)

-- ---- shapes

-- a key that belongs to a short shape has as many parts as it has key leaves
pub few_parts : (models : ModelSet) (table key : List ℕ) (shape : Shape) → IsShort shape → IsShapeOf models table key shape → HasFewParts key
few_parts models table key shape short is =
    let fits : Fits shape key =
    subst (λ (s : Shape). Fits s key) (get_or_from_slice_get (shapes_of table models) is.place shape shape is.is) (is.belongs.1 shape) in
    let parts : AllZip AcceptsPart shape.keys (key_parts key) =
    subst (λ b. MatchBool b (key ≡ shape.name) (AllZip AcceptsPart shape.keys (key_parts key))) short.0 fits in
    let long : length (key_parts key) ≡ length shape.keys = AllZip-long AcceptsPart shape.keys (key_parts key) parts in
    omega (arith, long, short.1)
