-- What the flat form of a type accepts and wants in a configuration, by models that satisfy what other models do.
use Rattle.std.proofs.Common.{inl, inr, ◌↔◌, ℕ, List, [], ◌∷◌, ◌++◌, sym, subst}
use Rattle.std.specs.Prelude.{◌⊎◌}
use Rattle.conf_doc.specs.declared.configuration.Config.{Config}
use Rattle.yang_model.specs.ModelSets.{ModelSet}
use Rattle.yang_types.specs.DataType.{DataType, text, number, length_within, value_within, matching, one_of, truth, builtin, leafref, union, DataTypes, no_types, type_and, members, types_of}
use Rattle.yang_types.specs.Flattening.{flat, flat_members}
use Rattle.yang_types.specs.declared.types.Target.{Target}
use Rattle.yang_types.proofs.FlatTypes.{same_types, type_accepts}
use Rattle.conf_check.specs.Acceptance.{AcceptsIn, AcceptsAnyIn, IsFirstWanted, IsSatisfied, IsWanted}

-- ---- members

module _ (models : ModelSet) (config : Config) (s : List ℕ) where
  one_accepts : (t : DataType) → AcceptsAnyIn models config (types_of (t ∷ [])) s ↔ AcceptsIn models config t s
  one_accepts t = (λ h. elim h [ inl a ↦ a | inr b ↦ absurd b ], λ a. inl a)

  member_accepts : (t : DataType) → AcceptsAnyIn models config (types_of (members t)) s ↔ AcceptsIn models config t s
  member_accepts (union ts) =
      let same = same_types ts in (
        λ h. subst (λ us. AcceptsAnyIn models config us s) same h,
        λ h. subst (λ us. AcceptsAnyIn models config us s) (sym same) h,
      )
  member_accepts text = one_accepts text
  member_accepts (number b) = one_accepts (number b)
  member_accepts (length_within t bs) = one_accepts (length_within t bs)
  member_accepts (value_within t bs) = one_accepts (value_within t bs)
  member_accepts (matching t p) = one_accepts (matching t p)
  member_accepts (one_of names) = one_accepts (one_of names)
  member_accepts truth = one_accepts truth
  member_accepts (builtin b) = one_accepts (builtin b)
  member_accepts (leafref target t) = one_accepts (leafref target t)

  accept_joined : (ts us : List DataType) → AcceptsAnyIn models config (types_of (ts ++ us)) s
      → AcceptsAnyIn models config (types_of ts) s ⊎ AcceptsAnyIn models config (types_of us) s
  accept_joined [] us a = inr a
  accept_joined (t ∷ ts) us (inl a) = inl (inl a)
  accept_joined (t ∷ ts) us (inr a) = elim (accept_joined ts us a) [ inl b ↦ inl (inr b) | inr b ↦ inr b ]

  joined_accept : (ts us : List DataType) → AcceptsAnyIn models config (types_of ts) s ⊎ AcceptsAnyIn models config (types_of us) s
      → AcceptsAnyIn models config (types_of (ts ++ us)) s
  joined_accept [] us (inl a) = absurd a
  joined_accept [] us (inr b) = b
  joined_accept (t ∷ ts) us (inl (inl a)) = inl a
  joined_accept (t ∷ ts) us (inl (inr a)) = inr (joined_accept ts us (inl a))
  joined_accept (t ∷ ts) us (inr b) = inr (joined_accept ts us (inr b))

  module _ (r : Target) where
    one_wants : (t : DataType) → IsFirstWanted models config (types_of (t ∷ [])) s r ↔ IsWanted models config t s r
    one_wants t = (λ h. elim h [ inl a ↦ a | inr b ↦ absurd b.1 ], λ a. inl a)

    member_wants : (t : DataType) → IsFirstWanted models config (types_of (members t)) s r ↔ IsWanted models config t s r
    member_wants (union ts) =
        let same = same_types ts in (
          λ h. subst (λ us. IsFirstWanted models config us s r) same h,
          λ h. subst (λ us. IsFirstWanted models config us s r) (sym same) h,
        )
    member_wants text = one_wants text
    member_wants (number b) = one_wants (number b)
    member_wants (length_within t bs) = one_wants (length_within t bs)
    member_wants (value_within t bs) = one_wants (value_within t bs)
    member_wants (matching t p) = one_wants (matching t p)
    member_wants (one_of names) = one_wants (one_of names)
    member_wants truth = one_wants truth
    member_wants (builtin b) = one_wants (builtin b)
    member_wants (leafref target t) = one_wants (leafref target t)

    -- a member of the first types is wanted, or none of them accepts and one of the others is
    abbrev EitherWanted : List DataType → List DataType → Type 0
    EitherWanted ts us =
        IsFirstWanted models config (types_of ts) s r
        ⊎ ((¬ AcceptsAnyIn models config (types_of ts) s) × IsFirstWanted models config (types_of us) s r)

    want_joined : (ts us : List DataType) → IsFirstWanted models config (types_of (ts ++ us)) s r → EitherWanted ts us
    want_joined [] us w = inr (λ a. a, w)
    want_joined (t ∷ ts) us (inl w) = inl (inl w)
    want_joined (t ∷ ts) us (inr p) =
        elim (want_joined ts us p.1) [
          | inl w ↦ inl (inr (p.0, w))
          | inr q ↦ inr (λ a. elim a [ inl h ↦ p.0 h | inr h ↦ q.0 h ], q.1)
        ]

    joined_want : (ts us : List DataType) → EitherWanted ts us → IsFirstWanted models config (types_of (ts ++ us)) s r
    joined_want [] us (inl w) = absurd w
    joined_want [] us (inr p) = p.1
    joined_want (t ∷ ts) us (inl (inl w)) = inl w
    joined_want (t ∷ ts) us (inl (inr p)) = inr (p.0, joined_want ts us (inl p.1))
    joined_want (t ∷ ts) us (inr p) =
        inr (λ a. p.0 (inl a), joined_want ts us (inr (λ a. p.0 (inr a), p.1)))

-- ---- types

module _ (a b : ModelSet) (config : Config)
    (satisfied : (r : Target) (s : List ℕ) → IsSatisfied a config r s ↔ IsSatisfied b config r s) where
  mutual
    -- the flat form accepts by the first models what the type accepts by the second
    pub accepts_alike : (t : DataType) (s : List ℕ) → AcceptsIn a config (flat t) s ↔ AcceptsIn b config t s
    accepts_alike text s = type_accepts text s
    accepts_alike (number bs) s = type_accepts (number bs) s
    accepts_alike (length_within t bs) s = type_accepts (length_within t bs) s
    accepts_alike (value_within t bs) s = type_accepts (value_within t bs) s
    accepts_alike (matching t p) s = type_accepts (matching t p) s
    accepts_alike (one_of names) s = type_accepts (one_of names) s
    accepts_alike truth s = type_accepts truth s
    accepts_alike (builtin n) s = type_accepts (builtin n) s
    accepts_alike (leafref target t) s =
        let same = type_accepts (leafref target t) s in
        let there = satisfied target s in
        (λ h. (same.0 h.0, there.0 h.1), λ h. (same.1 h.0, there.1 h.1))
    accepts_alike (union ts) s = some_alike ts s

    some_alike : (ts : DataTypes) (s : List ℕ) → AcceptsAnyIn a config (types_of (flat_members ts)) s ↔ AcceptsAnyIn b config ts s
    some_alike no_types s = (λ h. h, λ h. h)
    some_alike (type_and t ts) s =
        let one = accepts_alike t s in
        let rest = some_alike ts s in
        let here = member_accepts a config s (flat t) in (
          λ h. elim (accept_joined a config s (members (flat t)) (flat_members ts) h) [
            | inl m ↦ inl (one.0 (here.0 m))
            | inr m ↦ inr (rest.0 m)
          ],
          λ h. elim h [
            | inl m ↦ joined_accept a config s (members (flat t)) (flat_members ts) (inl (here.1 (one.1 m)))
            | inr m ↦ joined_accept a config s (members (flat t)) (flat_members ts) (inr (rest.1 m))
          ],
        )

  mutual
    -- and so with wants
    pub wants_alike : (t : DataType) (s : List ℕ) (r : Target) → IsWanted a config (flat t) s r ↔ IsWanted b config t s r
    wants_alike text s r = (λ h. h, λ h. h)
    wants_alike (number bs) s r = (λ h. h, λ h. h)
    wants_alike (length_within t bs) s r = (λ h. h, λ h. h)
    wants_alike (value_within t bs) s r = (λ h. h, λ h. h)
    wants_alike (matching t p) s r = (λ h. h, λ h. h)
    wants_alike (one_of names) s r = (λ h. h, λ h. h)
    wants_alike truth s r = (λ h. h, λ h. h)
    wants_alike (builtin n) s r = (λ h. h, λ h. h)
    wants_alike (leafref target t) s r =
        let same = accepts_alike (leafref target t) s in
        (λ h. (h.0, same.0 h.1), λ h. (h.0, same.1 h.1))
    wants_alike (union ts) s r = first_alike ts s r

    first_alike : (ts : DataTypes) (s : List ℕ) (r : Target) → IsFirstWanted a config (types_of (flat_members ts)) s r ↔ IsFirstWanted b config ts s r
    first_alike no_types s r = (λ h. h, λ h. h)
    first_alike (type_and t ts) s r =
        let one = wants_alike t s r in
        let rest = first_alike ts s r in
        let here = member_wants a config s r (flat t) in
        let accepted = member_accepts a config s (flat t) in
        let same = accepts_alike t s in (
          λ h. elim (want_joined a config s r (members (flat t)) (flat_members ts) h) [
            | inl w ↦ inl (one.0 (here.0 w))
            | inr p ↦ inr (λ m. p.0 (accepted.1 (same.1 m)), rest.0 p.1)
          ],
          λ h. elim h [
            | inl w ↦ joined_want a config s r (members (flat t)) (flat_members ts) (inl (here.1 (one.1 w)))
            | inr p ↦ joined_want a config s r (members (flat t)) (flat_members ts)
                (inr (λ m. p.0 (same.0 (accepted.0 m)), rest.1 p.1))
          ],
        )

-- by the same models
pub accepts_flat : (models : ModelSet) (config : Config) (t : DataType) (s : List ℕ) → AcceptsIn models config (flat t) s ↔ AcceptsIn models config t s
accepts_flat models config t s = accepts_alike models models config (λ r u. (λ h. h, λ h. h)) t s

pub wants_flat : (models : ModelSet) (config : Config) (t : DataType) (s : List ℕ) (r : Target)
    → IsWanted models config (flat t) s r ↔ IsWanted models config t s r
wants_flat models config t s r = wants_alike models models config (λ q u. (λ h. h, λ h. h)) t s r
