-- The members of a union, as a list of a `Ty` each.
use Rattle.std.proofs.Common.{◌≡◌, ℕ, zero, suc, ◌+◌, ◌<◌, ◌≤◌, List, [], ◌∷◌, length, get_or, drop, map, sym, subst, inl, inr, add-one, arith}
use Rattle.yang_types.specs.declared.types.Ty.{Ty}
use Rattle.yang_types.specs.DataType.{DataType, types_of, type_weight, types_weight}
use Rattle.yang_types.specs.DataTypes.{data_type}
use Rattle.yang_types.specs.Accepts.{Accepts, AcceptsAny}

weight_at : (ts : List Ty) (k : ℕ) (t : Ty) → k < length ts → t ≡ get_or ts k t → type_weight (data_type t) ≤ types_weight (types_of (map data_type ts))
weight_at [] k t below is = absurd (omega arith)
weight_at (u ∷ ts) zero t below is = rw is (omega arith)
weight_at (u ∷ ts) (suc k) t below is = omega (arith, weight_at ts k t (omega arith) is)

-- a member weighs no more than all of them
pub member_weight : (ts : List Ty) (ds : List DataType) (k : ℕ) (t : Ty) → map data_type ts ≡ ds → k < length ts → t ≡ get_or ts k t → type_weight (data_type t) ≤ types_weight (types_of ds)
member_weight ts ds k t e below is = rw (← e) (weight_at ts k t below is)

accepts_at : (ts : List Ty) (k : ℕ) (t : Ty) (s : List ℕ) → k < length ts → t ≡ get_or ts k t → Accepts (data_type t) s → AcceptsAny (types_of (map data_type ts)) s
accepts_at [] k t s below is accepted = absurd (omega arith)
accepts_at (u ∷ ts) zero t s below is accepted = inl (let P : Ty → Type 0 = λ v. Accepts (data_type v) s in subst P is accepted)
accepts_at (u ∷ ts) (suc k) t s below is accepted = inr (accepts_at ts k t s (omega arith) is accepted)

-- what a member accepts
pub member_accepts : (ts : List Ty) (ds : List DataType) (k : ℕ) (t : Ty) (s : List ℕ) → map data_type ts ≡ ds → k < length ts → t ≡ get_or ts k t → Accepts (data_type t) s → AcceptsAny (types_of ds) s
member_accepts ts ds k t s e below is accepted = rw (← e) (accepts_at ts k t s below is accepted)

-- what the rest accepts, where a member does not
pub rest_accepts : (ts : List Ty) (k : ℕ) (t : Ty) (s : List ℕ) → k < length ts → t ≡ get_or ts k t → ¬ (Accepts (data_type t) s) → AcceptsAny (types_of (map data_type (drop k ts))) s → AcceptsAny (types_of (map data_type (drop (k + 1) ts))) s
rest_accepts [] k t s below is refused any = absurd (omega arith)
rest_accepts (u ∷ ts) zero t s below is refused (inl accepted) = absurd (refused (let P : Ty → Type 0 = λ v. Accepts (data_type v) s in subst P (sym is) accepted))
rest_accepts (u ∷ ts) zero t s below is refused (inr any) = any
rest_accepts (u ∷ ts) (suc k) t s below is refused any =
    rw add-one (rw add-one at (rest_accepts ts k t s (omega arith) is refused any))

-- at the end there is refused rest
pub none_accepts : (ts : List Ty) (k : ℕ) (s : List ℕ) → length ts ≤ k → ¬ (AcceptsAny (types_of (map data_type (drop k ts))) s)
none_accepts [] zero s past any = any
none_accepts [] (suc k) s past any = any
none_accepts (t ∷ ts) zero s past any = absurd (omega arith)
none_accepts (t ∷ ts) (suc k) s past any = none_accepts ts k s (omega arith) any
