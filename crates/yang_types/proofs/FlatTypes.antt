-- A union of the members of unions is as good as a union of the unions, what a type accepts by itself accepts what
-- the type does, and so does its flat form.
use Rattle.std.proofs.Common.{◌≡◌, inl, inr, ◌↔◌, ℕ, List, [], ◌∷◌, ◌++◌, refl, sym, ap, subst}
use Rattle.std.specs.Prelude.{◌⊎◌}
use Rattle.std.specs.List.{flat_map}
use Rattle.yang_types.specs.Accepts.{Accepts, AcceptsAny}
use Rattle.yang_types.specs.DataType.{DataType, text, number, length_within, value_within, matching, one_of, truth, builtin, leafref, union, DataTypes, no_types, type_and, members, inner, plain_members, plain, plain_types, types_of}
use Rattle.yang_types.specs.Flattening.{flat, flat_members}

pub same_types : (ts : DataTypes) → types_of (plain_types ts) ≡ ts
same_types no_types = refl
same_types (type_and t ts) = ap (type_and t) (same_types ts)

pub plain_back : (ts : List DataType) → plain_types (types_of ts) ≡ ts
plain_back [] = refl
plain_back (t ∷ ts) = ap (λ us. t ∷ us) (plain_back ts)

-- texts that members accept
module _ (s : List ℕ) where
  one_accepts : (t : DataType) → AcceptsAny (types_of (t ∷ [])) s ↔ Accepts t s
  one_accepts t = (λ h. elim h [ inl a ↦ a | inr b ↦ absurd b ], λ a. inl a)

  pub member_accepts : (t : DataType) → AcceptsAny (types_of (members t)) s ↔ Accepts t s
  member_accepts (union ts) =
      let same = same_types ts in
      (λ h. subst (λ us. AcceptsAny us s) same h, λ h. subst (λ us. AcceptsAny us s) (sym same) h)
  member_accepts text = one_accepts text
  member_accepts (number b) = one_accepts (number b)
  member_accepts (length_within t bs) = one_accepts (length_within t bs)
  member_accepts (value_within t bs) = one_accepts (value_within t bs)
  member_accepts (matching t p) = one_accepts (matching t p)
  member_accepts (one_of names) = one_accepts (one_of names)
  member_accepts truth = one_accepts truth
  member_accepts (builtin b) = one_accepts (builtin b)
  member_accepts (leafref target t) = one_accepts (leafref target t)

  joined_accept : (ts us : List DataType) → AcceptsAny (types_of ts) s ⊎ AcceptsAny (types_of us) s → AcceptsAny (types_of (ts ++ us)) s
  joined_accept [] us (inl a) = absurd a
  joined_accept [] us (inr b) = b
  joined_accept (t ∷ ts) us (inl (inl a)) = inl a
  joined_accept (t ∷ ts) us (inl (inr a)) = inr (joined_accept ts us (inl a))
  joined_accept (t ∷ ts) us (inr b) = inr (joined_accept ts us (inr b))

  accept_joined : (ts us : List DataType) → AcceptsAny (types_of (ts ++ us)) s → AcceptsAny (types_of ts) s ⊎ AcceptsAny (types_of us) s
  accept_joined [] us a = inr a
  accept_joined (t ∷ ts) us (inl a) = inl (inl a)
  accept_joined (t ∷ ts) us (inr a) = elim (accept_joined ts us a) [ inl b ↦ inl (inr b) | inr b ↦ inr b ]

  -- types written out one by one
  module _ (write : DataType → List DataType) (each : (t : DataType) → AcceptsAny (types_of (write t)) s ↔ Accepts t s) where
    flat_to : (ts : List DataType) → AcceptsAny (types_of (flat_map write ts)) s → AcceptsAny (types_of ts) s
    flat_to [] a = a
    flat_to (t ∷ ts) a =
        elim (accept_joined (write t) (flat_map write ts) a) [ inl b ↦ inl ((each t).0 b) | inr b ↦ inr (flat_to ts b) ]

    flat_from : (ts : List DataType) → AcceptsAny (types_of ts) s → AcceptsAny (types_of (flat_map write ts)) s
    flat_from [] a = a
    flat_from (t ∷ ts) (inl a) = joined_accept (write t) (flat_map write ts) (inl ((each t).1 a))
    flat_from (t ∷ ts) (inr a) = joined_accept (write t) (flat_map write ts) (inr (flat_from ts a))

  pub flat_accepts : (ts : List DataType) → AcceptsAny (types_of (flat_map members ts)) s ↔ AcceptsAny (types_of ts) s
  flat_accepts ts = (flat_to members member_accepts ts, flat_from members member_accepts ts)

  inner_accepts : (t : DataType) → Accepts (inner t) s ↔ Accepts t s
  inner_accepts text = (λ h. h, λ h. h)
  inner_accepts (number b) = (λ h. h, λ h. h)
  inner_accepts (length_within t bs) = (λ h. h, λ h. h)
  inner_accepts (value_within t bs) = (λ h. h, λ h. h)
  inner_accepts (matching t p) = (λ h. h, λ h. h)
  inner_accepts (one_of names) = (λ h. h, λ h. h)
  inner_accepts truth = (λ h. h, λ h. h)
  inner_accepts (builtin b) = (λ h. h, λ h. h)
  inner_accepts (leafref target t) = (λ h. h, λ h. h)
  inner_accepts (union ts) = (λ h. h, λ h. h)

  plain_member_accepts : (t : DataType) → AcceptsAny (types_of (plain_members t)) s ↔ Accepts t s
  plain_member_accepts t = (
    λ h. (inner_accepts t).0 ((member_accepts (inner t)).0 h),
    λ h. (member_accepts (inner t)).1 ((inner_accepts t).1 h),
  )

  pub plain_accepts : (t : DataType) → Accepts (plain t) s ↔ Accepts t s
  plain_accepts (union ts) =
      let same = same_types ts in (
        λ h. subst (λ us. AcceptsAny us s) same (flat_to plain_members plain_member_accepts (plain_types ts) h),
        λ h. flat_from plain_members plain_member_accepts (plain_types ts) (subst (λ us. AcceptsAny us s) (sym same) h),
      )
  plain_accepts text = inner_accepts text
  plain_accepts (number b) = inner_accepts (number b)
  plain_accepts (length_within t bs) = inner_accepts (length_within t bs)
  plain_accepts (value_within t bs) = inner_accepts (value_within t bs)
  plain_accepts (matching t p) = inner_accepts (matching t p)
  plain_accepts (one_of names) = inner_accepts (one_of names)
  plain_accepts truth = inner_accepts truth
  plain_accepts (builtin b) = inner_accepts (builtin b)
  plain_accepts (leafref target t) = inner_accepts (leafref target t)

mutual
  -- the flat form of a type accepts what the type does
  pub type_accepts : (t : DataType) (s : List ℕ) → Accepts (flat t) s ↔ Accepts t s
  type_accepts text s = (λ h. h, λ h. h)
  type_accepts (number b) s = (λ h. h, λ h. h)
  type_accepts (length_within t bs) s =
      let same = type_accepts t s in (λ h. (same.0 h.0, h.1), λ h. (same.1 h.0, h.1))
  type_accepts (value_within t bs) s =
      let same = type_accepts t s in (λ h. (same.0 h.0, h.1), λ h. (same.1 h.0, h.1))
  type_accepts (matching t p) s =
      let same = type_accepts t s in (λ h. (same.0 h.0, h.1), λ h. (same.1 h.0, h.1))
  type_accepts (one_of names) s = (λ h. h, λ h. h)
  type_accepts truth s = (λ h. h, λ h. h)
  type_accepts (builtin b) s = (λ h. h, λ h. h)
  type_accepts (leafref target t) s =
      let same = type_accepts t s in
      let plainly = plain_accepts s (flat t) in
      (λ h. same.0 (plainly.0 h), λ h. plainly.1 (same.1 h))
  type_accepts (union ts) s = some_accepts ts s

  some_accepts : (ts : DataTypes) (s : List ℕ) → AcceptsAny (types_of (flat_members ts)) s ↔ AcceptsAny ts s
  some_accepts no_types s = (λ h. h, λ h. h)
  some_accepts (type_and t ts) s =
      let one = type_accepts t s in
      let rest = some_accepts ts s in
      let here = member_accepts s (flat t) in (
        λ h. elim (accept_joined s (members (flat t)) (flat_members ts) h) [
          | inl a ↦ inl (one.0 (here.0 a))
          | inr a ↦ inr (rest.0 a)
        ],
        λ h. elim h [
          | inl a ↦ joined_accept s (members (flat t)) (flat_members ts) (inl (here.1 (one.1 a)))
          | inr a ↦ joined_accept s (members (flat t)) (flat_members ts) (inr (rest.1 a))
        ],
      )
