-- What a union says of a text, member by member.
use Rattle.std.proofs.Common.{◌≡◌, ℕ, ◌+◌, ◌<◌, ◌≤◌, zero, suc, true, List, [], ◌∷◌, map, length, drop, get_or, Some, refl, subst, inl, inr, add-one, arith}
use Rattle.conf_doc.specs.declared.configuration.Config.{Config}
use Rattle.yang_model.specs.ModelSets.{ModelSet}
use Rattle.yang_types.specs.DataType.{DataType, text, number, length_within, value_within, matching, one_of, truth, builtin, leafref, union, DataTypes, no_types, type_and, types_of, type_weight, types_weight}
use Rattle.yang_types.specs.DataTypes.{data_type}
use Rattle.yang_types.specs.declared.types.Target.{Target}
use Rattle.yang_types.specs.declared.types.Ty.{Ty}
use Rattle.conf_check.specs.Acceptance.{AcceptsIn, AcceptsAnyIn, IsWanted, IsFirstWanted}
use Rattle.conf_check.specs.Verdicts.{IsVerdict, IsVerdictOfAny, is_accepted}
use Rattle.conf_check.specs.Wants.{Want, IsWantedText}
use Rattle.conf_check.specs.declared.acceptance.Verdict.{Verdict}
use Rattle.conf_check.specs.declared.acceptance.Verdict.TheVariants.{Refused, Accepted, Wanted}

module _ (models : ModelSet) (config : Config) (s : List ℕ) where
  mutual
    -- what has a want is accepted
    pub wanted_accepts : (t : DataType) (r : Target) → IsWanted models config t s r → AcceptsIn models config t s
    wanted_accepts (leafref target t) r w = w.1
    wanted_accepts (union ts) r w = first_wanted_accepts ts r w
    wanted_accepts text r w = absurd w
    wanted_accepts (number b) r w = absurd w
    wanted_accepts (length_within t bs) r w = absurd w
    wanted_accepts (value_within t bs) r w = absurd w
    wanted_accepts (matching t p) r w = absurd w
    wanted_accepts (one_of names) r w = absurd w
    wanted_accepts truth r w = absurd w
    wanted_accepts (builtin b) r w = absurd w

    first_wanted_accepts : (ts : DataTypes) (r : Target) → IsFirstWanted models config ts s r → AcceptsAnyIn models config ts s
    first_wanted_accepts no_types r w = absurd w
    first_wanted_accepts (type_and t ts) r (inl w) = inl (wanted_accepts t r w)
    first_wanted_accepts (type_and t ts) r (inr w) = inr (first_wanted_accepts ts r w.1)

  -- the first member decides, where it accepts
  judged_here : (t : DataType) (ts : DataTypes) (v : Verdict) → is_accepted v ≡ true
      → IsVerdict models config t s v → IsVerdictOfAny models config (type_and t ts) s v
  judged_here t ts Refused is v = absurd (cc)
  judged_here t ts Accepted is v =
      (inl v.0, λ r w. elim w [ inl h ↦ v.1 r h | inr p ↦ p.0 v.0 ])
  judged_here t ts (Wanted r) is v = (inl v.0, inl v.1)

  -- and else those behind it
  judged_behind : (t : DataType) (ts : DataTypes) (v : Verdict) → ¬ AcceptsIn models config t s
      → IsVerdictOfAny models config ts s v → IsVerdictOfAny models config (type_and t ts) s v
  judged_behind t ts Refused not v = λ a. elim a [ inl h ↦ not h | inr h ↦ v h ]
  judged_behind t ts Accepted not v =
      (inr v.0, λ r w. elim w [ inl h ↦ not (wanted_accepts t r h) | inr p ↦ v.1 r p.1 ])
  judged_behind t ts (Wanted r) not v = (inr v.0, inr (not, v.1))

  refused_is : (t : DataType) (v : Verdict) → (is_accepted v ≡ true → ⊥) → IsVerdict models config t s v → ¬ AcceptsIn models config t s
  refused_is t Refused not v = v
  refused_is t Accepted not v = absurd (not refl)
  refused_is t (Wanted r) not v = absurd (not refl)

  -- the members from a place on
  abbrev pub members_from : ℕ → List Ty → DataTypes
  members_from k ts = types_of (map data_type (drop k ts))

  -- a member that accepts decides for all from its place on
  pub judged_at : (ts : List Ty) (k : ℕ) (t : Ty) (v : Verdict) → k < length ts → t ≡ get_or ts k t → is_accepted v ≡ true
      → IsVerdict models config (data_type t) s v → IsVerdictOfAny models config (members_from k ts) s v
  judged_at [] k t v within is accepted judged = absurd (omega arith)
  judged_at (u ∷ ts) zero t v within is accepted judged =
      let P : Ty → Type 0 = λ w. IsVerdictOfAny models config (type_and (data_type w) (types_of (map data_type ts))) s v in
      subst P is (judged_here (data_type t) (types_of (map data_type ts)) v accepted judged)
  judged_at (u ∷ ts) (suc k) t v within is accepted judged = judged_at ts k t v (omega arith) is accepted judged

  -- one that refuses leaves it to those behind it
  pub judged_after : (ts : List Ty) (k : ℕ) (t : Ty) (v w : Verdict) → k < length ts → t ≡ get_or ts k t → (is_accepted v ≡ true → ⊥)
      → IsVerdict models config (data_type t) s v → IsVerdictOfAny models config (members_from (k + 1) ts) s w
      → IsVerdictOfAny models config (members_from k ts) s w
  judged_after ts k t v w within is refused judged more = by_suc ts k within is (subst (λ n. IsVerdictOfAny models config (members_from n ts) s w) (add-one k) more)
    where
      by_suc : (ts : List Ty) (k : ℕ) → k < length ts → t ≡ get_or ts k t → IsVerdictOfAny models config (members_from (suc k) ts) s w → IsVerdictOfAny models config (members_from k ts) s w
      by_suc [] k within is more = absurd (omega arith)
      by_suc (u ∷ ts) zero within is more =
          let P : Ty → Type 0 = λ x. IsVerdictOfAny models config (type_and (data_type x) (types_of (map data_type ts))) s w in
          subst P is (judged_behind (data_type t) (types_of (map data_type ts)) w (refused_is (data_type t) v refused judged) more)
      by_suc (u ∷ ts) (suc k) within is more = by_suc ts k (omega arith) is more

  -- past the last there is none
  pub judged_past : (ts : List Ty) (k : ℕ) → length ts ≤ k → IsVerdictOfAny models config (members_from k ts) s Refused
  judged_past [] zero past = λ a. a
  judged_past [] (suc k) past = λ a. a
  judged_past (t ∷ ts) zero past = absurd (omega arith)
  judged_past (t ∷ ts) (suc k) past = judged_past ts k (omega arith)

-- what is refused, or accepted with no want, has none
pub refused_unwanted : (models : ModelSet) (config : Config) (t : DataType) (s : List ℕ) → ¬ AcceptsIn models config t s
    → (w : Want) → ¬ IsWantedText models config (Some (t, s)) w
refused_unwanted models config t s not w wanted = not (wanted_accepts models config s t w.target wanted.1)

weight_at : (ts : List Ty) (k : ℕ) (t : Ty) → k < length ts → t ≡ get_or ts k t → type_weight (data_type t) ≤ types_weight (types_of (map data_type ts))
weight_at [] k t below is = absurd (omega arith)
weight_at (u ∷ ts) zero t below is = rw is (omega arith)
weight_at (u ∷ ts) (suc k) t below is = omega (arith, weight_at ts k t (omega arith) is)

-- a member weighs no more than all of them
pub member_weight : (ts : List Ty) (ds : List DataType) (k : ℕ) (t : Ty) → map data_type ts ≡ ds → k < length ts → t ≡ get_or ts k t → type_weight (data_type t) ≤ types_weight (types_of ds)
member_weight ts ds k t e below is = rw (← e) (weight_at ts k t below is)
