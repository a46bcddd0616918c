-- A text whose type doesn't refer to a table has the same wants in two configurations that satisfy the same of
-- other tables.
use Rattle.std.proofs.Common.{◌≡◌, ◌≢◌, inl, inr, ℕ, Bool, true, false, List, Option, Some, None, refl, sym, ◌∙◌, subst, ◌||◌, true≢false}
use Rattle.std.specs.List.{list_any}
use Rattle.std.specs.Str.{bytes_eq}
use Rattle.std.proofs.lemmas.Slice.Eq.{bytes_eq-Decides}
use Rattle.conf_doc.specs.declared.configuration.Config.{Config}
use Rattle.yang_model.specs.ModelSets.{ModelSet}
use Rattle.yang_types.specs.DataType.{DataType, text, number, length_within, value_within, matching, one_of, truth, builtin, leafref, union, DataTypes, no_types, type_and, plain_types}
use Rattle.yang_types.specs.declared.types.Target.{Target}
use Rattle.conf_check.specs.Acceptance.{AcceptsIn, IsFirstWanted, IsSatisfied, IsWanted}
use Rattle.conf_check.specs.Wants.{Want, IsWantedText}
use Rattle.ref_index.specs.Referring.{member_refers, type_refers}

-- what a text can want of the tables of other names, another configuration has too
abbrev pub SatisfiesElsewhere : ModelSet → List ℕ → List ℕ → Config → Config → Type 0
SatisfiesElsewhere models to s a b = (r : Target) → r.table ≢ to → IsSatisfied models a r s → IsSatisfied models b r s

either_fails : (x y : Bool) → x || y ≡ false → x ≡ false
either_fails true y e = cc
either_fails false y e = refl

rest_fails : (x y : Bool) → x || y ≡ false → y ≡ false
rest_fails true y e = cc
rest_fails false y e = e

elsewhere : (to : List ℕ) (r : Target) → bytes_eq r.table to ≡ false → r.table ≢ to
elsewhere to r fails same = true≢false (sym ((bytes_eq-Decides r.table to).1 same) ∙ fails)

module _ (models : ModelSet) (to : List ℕ) (s : List ℕ) where
  module _ (a b : Config) (has : SatisfiesElsewhere models to s a b) where
    accepts : (t : DataType) → member_refers to t ≡ false → AcceptsIn models a t s → AcceptsIn models b t s
    accepts (leafref r t) fails h = (h.0, has r (elsewhere to r fails) h.1)
    accepts (union ts) fails h = absurd (true≢false fails)
    accepts text fails h = h
    accepts (number n) fails h = h
    accepts (length_within t bs) fails h = h
    accepts (value_within t bs) fails h = h
    accepts (matching t p) fails h = h
    accepts (one_of names) fails h = h
    accepts truth fails h = h
    accepts (builtin n) fails h = h

  module _ (a b : Config) (has : SatisfiesElsewhere models to s a b) (back : SatisfiesElsewhere models to s b a) where
    member_wanted : (t : DataType) (r : Target) → member_refers to t ≡ false → IsWanted models a t s r → IsWanted models b t s r
    member_wanted (leafref q t) r fails w = (w.0, accepts a b has (leafref q t) fails w.1)
    member_wanted (union ts) r fails w = absurd (true≢false fails)
    member_wanted text r fails w = absurd w
    member_wanted (number n) r fails w = absurd w
    member_wanted (length_within t bs) r fails w = absurd w
    member_wanted (value_within t bs) r fails w = absurd w
    member_wanted (matching t p) r fails w = absurd w
    member_wanted (one_of names) r fails w = absurd w
    member_wanted truth r fails w = absurd w
    member_wanted (builtin n) r fails w = absurd w

    first_wanted : (ts : DataTypes) (r : Target) → list_any (member_refers to) (plain_types ts) ≡ false → IsFirstWanted models a ts s r → IsFirstWanted models b ts s r
    first_wanted no_types r fails w = absurd w
    first_wanted (type_and t ts) r fails (inl w) =
        inl (member_wanted t r (either_fails (member_refers to t) (list_any (member_refers to) (plain_types ts)) fails) w)
    first_wanted (type_and t ts) r fails (inr w) = inr (
      λ h. w.0 (accepts b a back t (either_fails (member_refers to t) (list_any (member_refers to) (plain_types ts)) fails) h),
      first_wanted ts r (rest_fails (member_refers to t) (list_any (member_refers to) (plain_types ts)) fails) w.1,
    )

    type_wanted : (t : DataType) (r : Target) → type_refers to t ≡ false → IsWanted models a t s r → IsWanted models b t s r
    type_wanted (union ts) r fails w = first_wanted ts r fails w
    type_wanted (leafref q t) r fails w = member_wanted (leafref q t) r fails w
    type_wanted text r fails w = absurd w
    type_wanted (number n) r fails w = absurd w
    type_wanted (length_within t bs) r fails w = absurd w
    type_wanted (value_within t bs) r fails w = absurd w
    type_wanted (matching t p) r fails w = absurd w
    type_wanted (one_of names) r fails w = absurd w
    type_wanted truth r fails w = absurd w
    type_wanted (builtin n) r fails w = absurd w

-- a want of a text of which no type refers to the table
pub wanted_elsewhere : (models : ModelSet) (to : List ℕ) (a b : Config) (o : Option (DataType × List ℕ)) (w : Want)
    → ((t : DataType × List ℕ) → o ≡ Some t → type_refers to t.0 ≡ false)
    → SatisfiesElsewhere models to w.text a b → SatisfiesElsewhere models to w.text b a → IsWantedText models a o w → IsWantedText models b o w
wanted_elsewhere models to a b None w fails has back h = h
wanted_elsewhere models to a b (Some t) w fails has back h = (
  h.0,
  subst (λ s. IsWanted models b t.0 s w.target) (sym h.0)
      (type_wanted models to w.text a b has back t.0 w.target (fails t refl) (subst (λ s. IsWanted models a t.0 s w.target) h.0 h.1)),
)
