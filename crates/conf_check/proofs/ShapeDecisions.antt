-- Which shape an entry belongs to can be told.
use Rattle.std.proofs.Common.{◌≡◌, ◌<◌, ◌⊎◌, ◌↔◌, ℕ, suc, Bool, true, false, true≢false, List, [], ◌∷◌, Option, Some, None, MatchBool, length, take, IsTrue, bytes_eq, refl, sym, inl, inr, arith}
use Rattle.std.specs.List.{AllZip}
use Rattle.std.proofs.lemmas.List.Elements.{All-nil, All-cons}
use Rattle.std.proofs.lemmas.Slice.Eq.{bytes_eq-Decides}
use Rattle.conf_doc.specs.declared.configuration.Config.{Config}
use Rattle.conf_doc.specs.declared.configuration.Table.{Table}
use Rattle.key_split.specs.Key.{key_parts}
use Rattle.yang_model.specs.Belongs.{AcceptsPart, Fits, Belongs}
use Rattle.yang_model.specs.ModelSets.{ModelSet, shapes_of}
use Rattle.yang_model.specs.declared.shapes.KeyLeaf.{KeyLeaf}
use Rattle.yang_model.specs.declared.shapes.Shape.{Shape}
use Rattle.yang_types.specs.Accepts.{Accepts}
use Rattle.yang_types.specs.DataType.{DataType}
use Rattle.yang_types.specs.DataTypes.{data_type}
use Rattle.conf_check.specs.Belongings.{Belongings, AreBelongings, AreBelongingsOf}

-- it holds, or it doesn't
abbrev Told : Type 0 → Type 0
Told P = P ⊎ (P → ⊥)

told_by : {P : Type 0} (b : Bool) → IsTrue b ↔ P → Told P
told_by true says = inl (says.0 refl)
told_by false says = inr (λ p. true≢false (sym (says.1 p)))

both : {P Q : Type 0} → Told P → Told Q → Told (P × Q)
both (inl p) (inl q) = inl (p, q)
both (inl p) (inr n) = inr (λ h. n h.1)
both (inr n) t = inr (λ h. n h.0)

-- what the first shape doesn't fit belongs to a later one or to none
past_first : (s : Shape) (ss : List Shape) (key : List ℕ) → ¬ Fits s key → (o : Option ℕ) → Belongs ss key o → (o : Option ℕ) × Belongs (s ∷ ss) key o
past_first s ss key not None none = (None, All-cons (λ s. ¬ Fits s key) s ss not none)
past_first s ss key not (Some i) b =
    let lt : i < length ss = b.0 in
    (Some (suc i), (omega (arith, lt), b.1, All-cons (λ s. ¬ Fits s key) s (take i ss) not b.2))

-- by a test of which texts the types accept
module _ (test : DataType → List ℕ → Bool) (tells : (t : DataType) (s : List ℕ) → IsTrue (test t s) ↔ Accepts t s) where
  parts_told : (keys : List KeyLeaf) (parts : List (List ℕ)) → Told (AllZip AcceptsPart keys parts)
  parts_told [] [] = inl tt
  parts_told [] (p ∷ ps) = inr (λ h. h)
  parts_told (k ∷ ks) [] = inr (λ h. h)
  parts_told (k ∷ ks) (p ∷ ps) = both (told_by (test (data_type k.ty) p) (tells (data_type k.ty) p)) (parts_told ks ps)

  fits_told : (s : Shape) (key : List ℕ) → Told (Fits s key)
  fits_told s key = by s.fixed
    where
      by : (b : Bool) → Told (MatchBool b (key ≡ s.name) (AllZip AcceptsPart s.keys (key_parts key)))
      by true = told_by (bytes_eq key s.name) (bytes_eq-Decides key s.name)
      by false = parts_told s.keys (key_parts key)

  -- an entry belongs to one shape or to none
  pub belongs_told : (shapes : List Shape) (key : List ℕ) → (o : Option ℕ) × Belongs shapes key o
  belongs_told [] key = (None, All-nil (λ s. ¬ Fits s key))
  belongs_told (s ∷ ss) key =
      elim (fits_told s key) [
        | inl fits ↦ (Some 0, (omega arith, λ d. fits, All-nil (λ s. ¬ Fits s key)))
        | inr not ↦ let later = belongs_told ss key in past_first s ss key not later.0 later.1
      ]

  module _ (models : ModelSet) where
    table_told : (name : List ℕ) (table : Table) → (answers : List (Option ℕ)) × AreBelongingsOf models name table answers
    table_told name [] = ([], tt)
    table_told name (e ∷ es) =
        let here = belongs_told (shapes_of name models) e.0 in
        let more = table_told name es in
        (here.0 ∷ more.0, (here.1, more.1))

    -- so is each of a configuration
    pub belongings_told : (config : Config) → (b : Belongings) × AreBelongings models config b
    belongings_told [] = ([], tt)
    belongings_told (t ∷ ts) =
        let here = table_told t.0 t.1 in
        let more = belongings_told ts in
        (here.0 ∷ more.0, (here.1, more.1))
