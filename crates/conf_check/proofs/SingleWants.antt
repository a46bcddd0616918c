-- A text has one want.
use Rattle.std.proofs.Common.{◌≡◌, ℕ, List, Option, Some, None, sym, ◌∙◌, subst, inl, inr}
use Rattle.conf_doc.specs.declared.configuration.Config.{Config}
use Rattle.yang_model.specs.ModelSets.{ModelSet}
use Rattle.yang_types.specs.DataType.{DataType, text, number, length_within, value_within, matching, one_of, truth, builtin, leafref, union, DataTypes, no_types, type_and}
use Rattle.yang_types.specs.declared.types.Target.{Target}
use Rattle.conf_check.specs.Acceptance.{IsWanted, IsFirstWanted}
use Rattle.conf_check.specs.Rows.{HasShape, typed_text}
use Rattle.conf_check.specs.Wants.{Want, IsWantedText, IsWantAt}
use Rattle.conf_check.specs.declared.want_iter.WantPlace.{WantPlace}
use Rattle.conf_check.proofs.UnionVerdicts.{wanted_accepts}
use Rattle.conf_check.proofs.TableShapes.{shape_once}

some_same : {A : Type 0} (x y : A) → Some x ≡ Some y → x ≡ y
some_same x y e = cc

module _ (models : ModelSet) (config : Config) where
  module _ (s : List ℕ) (a b : Target) where
    mutual
      type_wants_once : (t : DataType) → IsWanted models config t s a → IsWanted models config t s b → a ≡ b
      type_wants_once (leafref target t) u v = u.0 ∙ sym v.0
      type_wants_once (union ts) u v = types_want_once ts u v
      type_wants_once text u v = absurd u
      type_wants_once (number n) u v = absurd u
      type_wants_once (length_within t bs) u v = absurd u
      type_wants_once (value_within t bs) u v = absurd u
      type_wants_once (matching t p) u v = absurd u
      type_wants_once (one_of names) u v = absurd u
      type_wants_once truth u v = absurd u
      type_wants_once (builtin n) u v = absurd u

      types_want_once : (ts : DataTypes) → IsFirstWanted models config ts s a → IsFirstWanted models config ts s b → a ≡ b
      types_want_once no_types u v = absurd u
      types_want_once (type_and t ts) (inl u) (inl v) = type_wants_once t u v
      types_want_once (type_and t ts) (inl u) (inr v) = absurd (v.0 (wanted_accepts models config s t a u))
      types_want_once (type_and t ts) (inr u) (inl v) = absurd (u.0 (wanted_accepts models config s t b v))
      types_want_once (type_and t ts) (inr u) (inr v) = types_want_once ts u.1 v.1

  text_wants_once : (typed : Option (DataType × List ℕ)) (u v : Want) → IsWantedText models config typed u → IsWantedText models config typed v → u ≡ v
  text_wants_once None u v a b = absurd a
  text_wants_once (Some t) u v a b =
      let same : u.text ≡ v.text = sym a.0 ∙ b.0 in
      let target : u.target ≡ v.target = type_wants_once t.1 u.target v.target t.0 a.1 b.1 in
      λ i. record { target = target i; text = same i }

  -- at a place there is one want
  pub wants_once : (p : WantPlace) (u v : Want) → IsWantAt models config p u → IsWantAt models config p v → u ≡ v
  wants_once p u v a b =
      let rows : a.row ≡ b.row = some_same a.row b.row (sym a.at ∙ b.at) in
      let shaped : HasShape models b.row a.shape = subst (λ r. HasShape models r a.shape) rows a.shaped in
      let shapes : a.shape ≡ b.shape = shape_once models b.row a.shape b.shape shaped b.shaped in
      let wanted : IsWantedText models config (typed_text a.shape b.row p.field p.item) u =
      subst (λ r. IsWantedText models config (typed_text a.shape r p.field p.item) u) rows a.wanted in
      text_wants_once (typed_text b.shape b.row p.field p.item) u v
      (subst (λ x. IsWantedText models config (typed_text x b.row p.field p.item) u) shapes wanted) b.wanted
