-- Unions and leafrefs as they are stored: what a type is as a member, and whether leafrefs stand in it.
use Rattle.std.proofs.Common.{◌≡◌, ◌≢◌, ◌+◌, ◌||◌, suc, Bool, true, false, List, [], ◌∷◌, ◌++◌, refl, sym, ap, ◌∙◌, arith}
use Rattle.std.specs.List.{flat_map}
use Rattle.yang_types.specs.DataType.{DataType, text, number, length_within, value_within, matching, one_of, truth, builtin, leafref, union, DataTypes, members, inner, plain, plain_types, types_of, types_weight}
use Rattle.yang_types.proofs.FlatTypes.{same_types}
use Rattle.yang_values.specs.Defaults.{has_leafref, have_leafref}

-- no union is its own only member
never_itself : (ts : DataTypes) → plain_types ts ≢ union ts ∷ []
never_itself ts e =
    let same : types_weight ts ≡ suc (types_weight ts) + 0 = ap types_weight (sym (same_types ts) ∙ ap types_of e) in
    absurd (omega arith)

pub plain_alone : (t : DataType) → members t ≡ t ∷ [] → plain t ≡ inner t
plain_alone (union ts) e = absurd (never_itself ts e)
plain_alone text e = refl
plain_alone (number b) e = refl
plain_alone (length_within t bs) e = refl
plain_alone (value_within t bs) e = refl
plain_alone (matching t p) e = refl
plain_alone (one_of names) e = refl
plain_alone truth e = refl
plain_alone (builtin b) e = refl
plain_alone (leafref target t) e = refl

or_none : (b : Bool) → (b || false) ≡ b
or_none true = refl
or_none false = refl

or_or : (a b c : Bool) → (a || (b || c)) ≡ ((a || b) || c)
or_or true b c = refl
or_or false b c = refl

-- leafrefs among members
pub member_leafref : (t : DataType) → have_leafref (types_of (members t)) ≡ has_leafref t
member_leafref (union ts) = ap have_leafref (same_types ts)
member_leafref text = refl
member_leafref (number b) = refl
member_leafref (length_within t bs) = or_none (has_leafref t)
member_leafref (value_within t bs) = or_none (has_leafref t)
member_leafref (matching t p) = or_none (has_leafref t)
member_leafref (one_of names) = refl
member_leafref truth = refl
member_leafref (builtin b) = refl
member_leafref (leafref target t) = refl

pub joined_leafref : (ts us : List DataType) → have_leafref (types_of (ts ++ us)) ≡ (have_leafref (types_of ts) || have_leafref (types_of us))
joined_leafref [] us = refl
joined_leafref (t ∷ ts) us =
    ap (λ b. has_leafref t || b) (joined_leafref ts us) ∙ or_or (has_leafref t) (have_leafref (types_of ts)) (have_leafref (types_of us))

pub flat_leafref : (ts : List DataType) → have_leafref (types_of (flat_map members ts)) ≡ have_leafref (types_of ts)
flat_leafref [] = refl
flat_leafref (t ∷ ts) =
    joined_leafref (members t) (flat_map members ts)
    ∙ ap (λ b. b || have_leafref (types_of (flat_map members ts))) (member_leafref t)
    ∙ ap (λ b. has_leafref t || b) (flat_leafref ts)
