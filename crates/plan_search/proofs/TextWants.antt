-- What a type accepts and wants in a configuration can be told.
use Rattle.std.proofs.Common.{◌≡◌, ◌⊎◌, inl, inr, ℕ, suc, ◌<◌, Bool, true, false, List, [], ◌∷◌, length, take, Option, Some, None, MatchBool, slice_get, refl, sym, subst, arith}
use Rattle.std.specs.List.{AllZip}
use Rattle.std.proofs.lemmas.List.Elements.{All-cons, All-nil}
use Rattle.conf_doc.specs.declared.configuration.Config.{Config}
use Rattle.key_split.specs.Key.{key_parts}
use Rattle.yang_pattern.specs.Decided.{IsDecided}
use Rattle.yang_pattern.specs.Language.{MatchesText}
use Rattle.yang_pattern.proofs.Decisions.{Told, both, decided_by, either, like, same_number, same_text}
use Rattle.yang_pattern.proofs.Deciding.{match_told}
use Rattle.yang_types.specs.Accepts.{Accepts}
use Rattle.yang_types.specs.DataType.{DataType, text, number, length_within, value_within, matching, one_of, truth, builtin, leafref, union, DataTypes, no_types, type_and}
use Rattle.yang_types.specs.DataTypes.{data_type}
use Rattle.yang_types.specs.declared.types.Target.{Target}
use Rattle.yang_types.proofs.Accepting.{accepts_told}
use Rattle.yang_model.specs.Belongs.{AcceptsPart, Belongs, Belongs-once, Fits}
use Rattle.yang_model.specs.ModelSets.{ModelSet, shapes_of}
use Rattle.yang_model.specs.declared.shapes.KeyLeaf.{KeyLeaf}
use Rattle.yang_model.specs.declared.shapes.Shape.{Shape}
use Rattle.conf_check.specs.Acceptance.{AcceptsIn, AcceptsAnyIn, IsFirstWanted, IsSatisfied, IsWanted, keys_of}
use Rattle.conf_check.specs.Wants.{IsWantedText, Want}
use Rattle.conf_doc.proofs.Edits.{same_Some}
use Rattle.plan_search.proofs.Telling.{member_told, some_told}

-- ---- by itself

matched : (pattern : List ℕ) → IsDecided (MatchesText pattern)
matched pattern = decided_by (MatchesText pattern) (match_told pattern)

accepts : (t : DataType) (s : List ℕ) → Told (Accepts t s)
accepts t s = accepts_told matched t s

-- ---- shapes

parts_told : (keys : List KeyLeaf) (parts : List (List ℕ)) → Told (AllZip AcceptsPart keys parts)
parts_told [] [] = inl tt
parts_told [] (p ∷ ps) = inr (λ h. h)
parts_told (k ∷ ks) [] = inr (λ h. h)
parts_told (k ∷ ks) (p ∷ ps) = both (accepts (data_type k.ty) p) (parts_told ks ps)

fits_told : (s : Shape) (key : List ℕ) → Told (Fits s key)
fits_told s key = by s.fixed
  where
    by : (b : Bool) → Told (MatchBool b (key ≡ s.name) (AllZip AcceptsPart s.keys (key_parts key)))
    by true = same_text key s.name
    by false = parts_told s.keys (key_parts key)

-- what the first shape doesn't fit belongs to a later one or to none
past_first : (s : Shape) (ss : List Shape) (key : List ℕ) → ¬ Fits s key → (o : Option ℕ) → Belongs ss key o
    → (o : Option ℕ) × Belongs (s ∷ ss) key o
past_first s ss key not None none = (None, All-cons (λ s. ¬ Fits s key) s ss not none)
past_first s ss key not (Some i) b =
    let lt : i < length ss = b.0 in
    (Some (suc i), (omega (arith, lt), b.1, All-cons (λ s. ¬ Fits s key) s (take i ss) not b.2))

-- the shape that an entry belongs to, or none
pub belongs_to : (shapes : List Shape) (key : List ℕ) → (o : Option ℕ) × Belongs shapes key o
belongs_to [] key = (None, All-nil (λ s. ¬ Fits s key))
belongs_to (s ∷ ss) key = by (fits_told s key) (belongs_to ss key)
  where
    by : Told (Fits s key) → (o : Option ℕ) × Belongs ss key o → (o : Option ℕ) × Belongs (s ∷ ss) key o
    by (inl fits) later = (Some 0, (omega arith, λ d. fits, All-nil (λ s. ¬ Fits s key)))
    by (inr not) later = past_first s ss key not later.0 later.1

belongs_is : (shapes : List Shape) (key : List ℕ) (n : ℕ) → Told (Belongs shapes key (Some n))
belongs_is shapes key n = by (belongs_to shapes key)
  where
    by : (o : Option ℕ) × Belongs shapes key o → Told (Belongs shapes key (Some n))
    by (None, is) = inr (λ w. let e = Belongs-once shapes key None (Some n) is w in absurd cc)
    by (Some m, is) =
        like (λ e. subst (λ k. Belongs shapes key (Some k)) e is)
        (λ w. same_Some m n (Belongs-once shapes key (Some m) (Some n) is w))
        (same_number m n)

-- ---- in a configuration

module _ (models : ModelSet) (c : Config) where
  module _ (target : Target) (s : List ℕ) where
    -- a key has the wanted part, and its entry the wanted shape
    abbrev HasPart : List ℕ → Type 0
    HasPart key =
        Belongs (shapes_of target.table models) key (Some target.shape)
        × (slice_get (key_parts key) target.part ≡ Some s)

    part_told : (key : List ℕ) → Told (HasPart key)
    part_told key =
        both (belongs_is (shapes_of target.table models) key target.shape)
        (some_told same_text (slice_get (key_parts key) target.part) s)

    pub satisfied_told : Told (IsSatisfied models c target s)
    satisfied_told =
        like (λ h. record { key = h.0; there = h.1; belongs = h.2.0; part = h.2.1 })
        (λ is. (is.key, is.there, (is.belongs, is.part)))
        (member_told HasPart part_told (keys_of target.table c))

  mutual
    accepts_in : (t : DataType) (s : List ℕ) → Told (AcceptsIn models c t s)
    accepts_in (leafref target t) s = both (accepts t s) (satisfied_told target s)
    accepts_in (union ts) s = any_in ts s
    accepts_in text s = accepts text s
    accepts_in (number b) s = accepts (number b) s
    accepts_in (length_within t bs) s = accepts (length_within t bs) s
    accepts_in (value_within t bs) s = accepts (value_within t bs) s
    accepts_in (matching t p) s = accepts (matching t p) s
    accepts_in (one_of names) s = accepts (one_of names) s
    accepts_in truth s = accepts truth s
    accepts_in (builtin b) s = accepts (builtin b) s

    any_in : (ts : DataTypes) (s : List ℕ) → Told (AcceptsAnyIn models c ts s)
    any_in no_types s = inr (λ h. h)
    any_in (type_and t ts) s = either (accepts_in t s) (any_in ts s)

  -- what is wanted is as P says
  module _ (s : List ℕ) (P : Target → Type 0) (told : (r : Target) → Told (P r)) where
    abbrev Wants : DataType → Type 0
    Wants t = (r : Target) × IsWanted models c t s r × P r

    abbrev WantsFirst : DataTypes → Type 0
    WantsFirst ts = (r : Target) × IsFirstWanted models c ts s r × P r

    -- the first type decides where it accepts, and else leaves it to the others
    first_by : (t : DataType) (ts : DataTypes) → Told (Wants t) → Told (AcceptsIn models c t s) → Told (WantsFirst ts)
        → Told (WantsFirst (type_and t ts))
    first_by t ts (inl w) a l = inl (w.0, inl w.1, w.2)
    first_by t ts (inr n) (inl a) l = inr (λ h. none h.0 h.1 h.2)
      where
        none : (r : Target) → IsWanted models c t s r ⊎ ((¬ AcceptsIn models c t s) × IsFirstWanted models c ts s r)
            → P r → ⊥
        none r (inl w) p = n (r, w, p)
        none r (inr h) p = h.0 a
    first_by t ts (inr n) (inr m) (inl w) = inl (w.0, inr (m, w.1), w.2)
    first_by t ts (inr n) (inr m) (inr l) = inr (λ h. none h.0 h.1 h.2)
      where
        none : (r : Target) → IsWanted models c t s r ⊎ ((¬ AcceptsIn models c t s) × IsFirstWanted models c ts s r)
            → P r → ⊥
        none r (inl w) p = n (r, w, p)
        none r (inr h) p = l (r, h.1, p)

    leaf_told : (target : Target) (t : DataType) → Told (Wants (leafref target t))
    leaf_told target t =
        like (λ h. (target, (refl, h.0), h.1)) (λ h. (h.1.1, subst P h.1.0 h.2))
        (both (accepts_in (leafref target t) s) (told target))

    mutual
      target_told : (t : DataType) → Told (Wants t)
      target_told (leafref target t) = leaf_told target t
      target_told (union ts) = first_told ts
      target_told text = inr (λ h. h.1)
      target_told (number b) = inr (λ h. h.1)
      target_told (length_within t bs) = inr (λ h. h.1)
      target_told (value_within t bs) = inr (λ h. h.1)
      target_told (matching t p) = inr (λ h. h.1)
      target_told (one_of names) = inr (λ h. h.1)
      target_told truth = inr (λ h. h.1)
      target_told (builtin b) = inr (λ h. h.1)

      -- of the first of the types that accepts
      first_told : (ts : DataTypes) → Told (WantsFirst ts)
      first_told no_types = inr (λ h. h.1)
      first_told (type_and t ts) = first_by t ts (target_told t) (accepts_in t s) (first_told ts)

  module _ (P : Want → Type 0) (told : (w : Want) → Told (P w)) where
    abbrev WantsText : Option (DataType × List ℕ) → Type 0
    WantsText typed = (w : Want) × IsWantedText models c typed w × P w

    abbrev want_by : List ℕ → Target → Want
    want_by s r = record { target = r; text = s }

    -- what a text wants by its type is as P says
    pub want_told : (typed : Option (DataType × List ℕ)) → Told (WantsText typed)
    want_told None = inr (λ h. h.1)
    want_told (Some t) =
        like (λ h. (want_by t.1 h.0, (refl, h.1), h.2))
        (λ h. (h.0.target, h.1.1, subst (λ s. P (want_by s h.0.target)) (sym h.1.0) h.2))
        (target_told t.1 (λ r. P (want_by t.1 r)) (λ r. told (want_by t.1 r)) t.0)
