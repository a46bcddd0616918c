-- Which shape of its table an entry belongs to, by its key.
use Rattle.std.specs.Prelude.{◌≡◌, ◌<◌, ℕ, true, List, [], Option, Some, None, MatchOption, MatchBool, All, length, take, refl}
use Rattle.std.proofs.Common.{inl, inr, subst, ap, sym, arith}
use Rattle.std.proofs.lemmas.Bool.{cases_lt}
use Rattle.std.proofs.lemmas.List.{get_or-take, length-take}
use Rattle.std.specs.List.{AllZip, HoldsAt}
use Rattle.key_split.specs.Key.{key_parts}
use Rattle.yang_types.specs.Accepts.{Accepts}
use Rattle.yang_types.specs.DataTypes.{data_type}
use Rattle.yang_model.specs.declared.shapes.KeyLeaf.{KeyLeaf}
use Rattle.yang_model.specs.declared.shapes.Shape.{Shape}

-- a part of a key, and the key leaf that it stands for
abbrev pub AcceptsPart : KeyLeaf → List ℕ → Type 0
AcceptsPart leaf part = Accepts (data_type leaf.ty) part

-- a fixed container fits the key that is its name; a list fits a key of as many parts as it has key
-- leaves, where each part is accepted by its leaf
abbrev pub Fits : Shape → List ℕ → Type 0
Fits shape key =
    MatchBool shape.fixed (key ≡ shape.name) (AllZip AcceptsPart shape.keys (key_parts key))

-- the answer is the first shape that fits, by its place, or None where none does
abbrev pub Belongs : List Shape → List ℕ → Option ℕ → Type 0
Belongs shapes key answer =
    MatchOption answer
    (All (λ s. ¬ Fits s key) shapes)
    (λ i. (i < length shapes)
    × HoldsAt (λ s. Fits s key) shapes i
    × All (λ s. ¬ Fits s key) (take i shapes))

some_shape : Shape
some_shape = record { name = []; fixed = true; keys = []; fields = []; musts = [] }

-- a shape that fits stands at no place of which none does
not_before : (shapes : List Shape) (key : List ℕ) (i j : ℕ) → i < j → i < length shapes
    → HoldsAt (λ s. Fits s key) shapes i → All (λ s. ¬ Fits s key) (take j shapes) → ⊥
not_before shapes key i j before within fits none =
    let P : Shape → Type 0 = λ s. Fits s key in
    none i some_shape (omega (arith, length-take j shapes))
    (subst P (sym (get_or-take j shapes i some_shape before)) (fits some_shape))

-- an entry belongs to one shape or to none
pub Belongs-once : (shapes : List Shape) (key : List ℕ) (a b : Option ℕ)
    → Belongs shapes key a → Belongs shapes key b → a ≡ b
Belongs-once shapes key None None p q = refl
Belongs-once shapes key None (Some j) p q = absurd (p j some_shape q.0 (q.1 some_shape))
Belongs-once shapes key (Some i) None p q = absurd (q i some_shape p.0 (p.1 some_shape))
Belongs-once shapes key (Some i) (Some j) p q =
    elim (cases_lt i j) [
      | inl before ↦ absurd (not_before shapes key i j before p.0 p.1 q.2)
      | inr not ↦ elim (cases_lt j i) [
        | inl after ↦ absurd (not_before shapes key j i after q.0 q.1 p.2)
        | inr same ↦ let e : i ≡ j = omega arith in ap Some e
      ]
    ]
