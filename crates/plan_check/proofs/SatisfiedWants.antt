-- A configuration satisfies the wants that it has.
use Rattle.std.proofs.Common.{ℕ, List, Option, Some, None, inl, inr, sym, subst}
use Rattle.conf_doc.specs.declared.configuration.Config.{Config}
use Rattle.conf_check.specs.Acceptance.{IsFirstWanted, IsSatisfied, IsWanted}
use Rattle.conf_check.specs.Rows.{typed_text}
use Rattle.conf_check.specs.Wants.{Want, IsWantAt, IsWantedText}
use Rattle.conf_check.specs.declared.want_iter.WantPlace.{WantPlace}
use Rattle.yang_model.specs.ModelSets.{ModelSet}
use Rattle.yang_types.specs.DataType.{DataType, text, number, length_within, value_within, matching, one_of, truth, builtin, leafref, union, DataTypes, no_types, type_and}
use Rattle.yang_types.specs.declared.types.Target.{Target}

module _ (models : ModelSet) (c : Config) (s : List ℕ) where
  mutual
    -- what a text wants is there
    wanted_satisfied : (t : DataType) (r : Target) → IsWanted models c t s r → IsSatisfied models c r s
    wanted_satisfied (leafref target t) r w = subst (λ u. IsSatisfied models c u s) (sym w.0) w.1.1
    wanted_satisfied (union ts) r w = first_satisfied ts r w
    wanted_satisfied text r w = absurd w
    wanted_satisfied (number b) r w = absurd w
    wanted_satisfied (length_within t bs) r w = absurd w
    wanted_satisfied (value_within t bs) r w = absurd w
    wanted_satisfied (matching t p) r w = absurd w
    wanted_satisfied (one_of names) r w = absurd w
    wanted_satisfied truth r w = absurd w
    wanted_satisfied (builtin b) r w = absurd w

    first_satisfied : (ts : DataTypes) (r : Target) → IsFirstWanted models c ts s r → IsSatisfied models c r s
    first_satisfied no_types r w = absurd w
    first_satisfied (type_and t ts) r (inl w) = wanted_satisfied t r w
    first_satisfied (type_and t ts) r (inr w) = first_satisfied ts r w.1

module _ (models : ModelSet) (c : Config) where
  text_satisfied : (o : Option (DataType × List ℕ)) (w : Want) → IsWantedText models c o w → IsSatisfied models c w.target w.text
  text_satisfied None w h = absurd h
  text_satisfied (Some t) w h = subst (IsSatisfied models c w.target) h.0 (wanted_satisfied models c t.1 t.0 w.target h.1)

  pub want_satisfied : (at : WantPlace) (w : Want) → IsWantAt models c at w → IsSatisfied models c w.target w.text
  want_satisfied at w is = text_satisfied (typed_text is.shape is.row at.field at.item) w is.wanted
