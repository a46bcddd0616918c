-- What is built of a type statement is the flat form of its type as it is written, which takes the same defaults.
use Rattle.std.proofs.Common.{◌≡◌, ◌||◌, ℕ, zero, suc, Bool, true, false, List, [], ◌∷◌, ◌++◌, map, codes, Option, Some, None, option_and_then, refl, sym, ap, ◌∙◌}
use Rattle.std.specs.Prelude.{IsTrue, if◌then◌else◌, unwrap_or}
use Rattle.std.specs.List.{flat_map, fold}
use Rattle.std.specs.Option.{option_map_or}
use Rattle.yang_text.specs.Declarations.{Declaration, argument, block}
use Rattle.yang_text.specs.declared.errors.ModelWhy.TheVariants.{BadArgument}
use Rattle.yang_types.specs.DataType.{DataType, text, number, length_within, value_within, matching, one_of, truth, builtin, leafref, union, DataTypes, no_types, type_and, members, plain, types_of}
use Rattle.yang_types.specs.Flattening.{flat, flat_members}
use Rattle.yang_types.specs.declared.types.Bounds.{Bounds}
use Rattle.yang_types.specs.declared.types.Target.{Target}
use Rattle.yang_types.proofs.FlatTypes.{type_accepts}
use Rattle.yang_scope.specs.Faults.{fault_at}
use Rattle.yang_scope.specs.Meanings.{type_meaning, base_of}
use Rattle.yang_scope.specs.Modules.{Module}
use Rattle.yang_scope.specs.Paths.{Placed}
use Rattle.yang_scope.specs.Statements.{is_keyword}
use Rattle.yang_scope.specs.declared.bases.Base.{Base}
use Rattle.yang_scope.specs.declared.bases.Base.TheVariants.{Text, Number, Enumeration, Truth, Leafref, Union, Builtin as BuiltIn}
use Rattle.yang_scope.specs.declared.faults.Fault.{Fault}
use Rattle.yang_scope.specs.declared.meanings.Meaning.{Meaning}
use Rattle.yang_scope.specs.declared.meanings.Meaning.TheVariants.{Ends, Goes, Nothing}
use Rattle.yang_values.specs.Defaults.{has_leafref, have_leafref, DecidesTexts, bad_text, bad_default}
use Rattle.yang_values.specs.Targets.{target_of}
use Rattle.yang_values.specs.TypeValues.{leafref_of, matching_by, named_type, next, nowhere, only_type, path_of, restrict, restrict_if_taken, is_taken, stored_type, type_by, type_within}
use Rattle.yang_values.specs.Values.{most_steps, parts_in, restricted_values}
use Rattle.yang_values.specs.WrittenTypes.{written_by, written_name, written_type, written_within}
use Rattle.yang_values.proofs.FlatUnions.{joined_leafref, member_leafref}

-- ---- restrictions

either : (b : Bool) (x y u v : DataType) → flat x ≡ u → flat y ≡ v → flat (if b then x else y) ≡ (if b then u else v)
either true x y u v p q = p
either false x y u v p q = q

matching_flat : (is_pattern : List ℕ → Bool) (t : DataType) (s : List ℕ) → flat (matching_by is_pattern t s) ≡ matching_by is_pattern (flat t) s
matching_flat is_pattern t s = either (is_pattern s) (matching t s) t (matching (flat t) s) (flat t) refl refl

if_there : {A : Type 0} (f : DataType → A → DataType) (o : Option A) (t : DataType) → ((u : DataType) (a : A) → flat (f u a) ≡ f (flat u) a)
    → flat (option_map_or (f t) o t) ≡ option_map_or (f (flat t)) o (flat t)
if_there f None t same = refl
if_there f (Some a) t same = same t a

module _ (is_pattern : List ℕ → Bool) (base : Option Base) (values : List Bounds) where
  abbrev with_length : DataType → Declaration → DataType
  with_length t d = option_map_or (length_within t) (parts_in values d) t

  abbrev with_range : DataType → Declaration → DataType
  with_range t d = option_map_or (value_within t) (parts_in values d) t

  abbrev with_pattern : DataType → Declaration → DataType
  with_pattern t d = option_map_or (matching_by is_pattern t) (argument d) t

  abbrev or_pattern : DataType → Declaration → DataType
  or_pattern t d = if is_keyword (codes "pattern") d then with_pattern t d else t

  abbrev or_range : DataType → Declaration → DataType
  or_range t d = if is_keyword (codes "range") d then with_range t d else or_pattern t d

  restrict_flat : (t : DataType) (d : Declaration) → flat (restrict is_pattern values t d) ≡ restrict is_pattern values (flat t) d
  restrict_flat t d =
      either (is_keyword (codes "length") d) (with_length t d) (or_range t d) (with_length (flat t) d) (or_range (flat t) d)
      (if_there length_within (parts_in values d) t (λ u a. refl))
      (either (is_keyword (codes "range") d) (with_range t d) (or_pattern t d) (with_range (flat t) d) (or_pattern (flat t) d)
      (if_there value_within (parts_in values d) t (λ u a. refl))
      (either (is_keyword (codes "pattern") d) (with_pattern t d) t (with_pattern (flat t) d) (flat t)
      (if_there (matching_by is_pattern) (argument d) t (matching_flat is_pattern)) refl))

  taken_flat : (t : DataType) (d : Declaration) → flat (restrict_if_taken is_pattern base values t d) ≡ restrict_if_taken is_pattern base values (flat t) d
  taken_flat t d =
      either (is_taken base d) (restrict is_pattern values t d) t (restrict is_pattern values (flat t) d) (flat t) (restrict_flat t d) refl

  all_flat : (t : DataType) (ds : List Declaration) → flat (fold (restrict_if_taken is_pattern base values) t ds) ≡ fold (restrict_if_taken is_pattern base values) (flat t) ds
  all_flat t [] = refl
  all_flat t (d ∷ ds) =
      all_flat (restrict_if_taken is_pattern base values t d) ds
      ∙ ap (λ u. fold (restrict_if_taken is_pattern base values) u ds) (taken_flat t d)

-- ---- names

only_flat : (ts : List DataType) → flat (only_type ts) ≡ only_type (map flat ts)
only_flat [] = refl
only_flat (t ∷ ts) = refl

members_flat : (ts : List DataType) → flat_members (types_of ts) ≡ flat_map members (map flat ts)
members_flat [] = refl
members_flat (t ∷ ts) = ap (λ us. members (flat t) ++ us) (members_flat ts)

leafref_flat : (o : Option Target) (ts : List DataType) → flat (leafref (unwrap_or o nowhere) (only_type ts)) ≡ leafref_of o (map flat ts)
leafref_flat None ts = ap (λ t. leafref nowhere (plain t)) (only_flat ts)
leafref_flat (Some target) ts = ap (λ t. leafref target (plain t)) (only_flat ts)

name_flat : (modules : List Module) (d : Declaration) (ts : List DataType) (meaning : Meaning)
    → flat (written_name modules d ts meaning) ≡ named_type modules d (map flat ts) meaning
name_flat modules d ts Nothing = refl
name_flat modules d ts (Goes m place) = only_flat ts
name_flat modules d ts (Ends Text) = refl
name_flat modules d ts (Ends (Number b)) = refl
name_flat modules d ts (Ends Enumeration) = refl
name_flat modules d ts (Ends Truth) = refl
name_flat modules d ts (Ends Leafref) = leafref_flat (option_and_then (target_of modules) (path_of d)) ts
name_flat modules d ts (Ends Union) = ap (λ us. union (types_of us)) (members_flat ts)
name_flat modules d ts (Ends (BuiltIn b)) = refl

-- ---- statements

module _ (is_pattern : List ℕ → Bool) (modules : List Module) where
  by_flat : (p : Placed) (ts : List DataType) → flat (written_by is_pattern modules p ts) ≡ type_by is_pattern modules p (map flat ts)
  by_flat p ts =
      let meaning = type_meaning modules p.0 (argument p.1) in
      let base = base_of modules p.0 (argument p.1) in
      let values = restricted_values modules p.0 p.1 in
      all_flat is_pattern base values (written_name modules p.1 ts meaning) (block p.1)
      ∙ ap (λ t. fold (restrict_if_taken is_pattern base values) t (block p.1)) (name_flat modules p.1 ts meaning)

  each_flat : (most : ℕ) → ((p : Placed) → flat (written_within is_pattern modules most p) ≡ type_within is_pattern modules most p)
      → (ps : List Placed) → map flat (map (written_within is_pattern modules most) ps) ≡ map (type_within is_pattern modules most) ps
  each_flat most same [] = refl
  each_flat most same (p ∷ ps) = λ i. same p i ∷ each_flat most same ps i

  within_flat : (most : ℕ) (p : Placed) → flat (written_within is_pattern modules most p) ≡ type_within is_pattern modules most p
  unfolding type_within written_within
  within_flat zero p = refl
  within_flat (suc most) p =
      by_flat p (map (written_within is_pattern modules most) (next modules p))
      ∙ ap (type_by is_pattern modules p) (each_flat most (within_flat most) (next modules p))

  -- the type of a statement
  pub value_flat : (m : ℕ) (d : Declaration) → stored_type is_pattern modules m d ≡ flat (written_type is_pattern modules m d)
  value_flat m d = sym (within_flat most_steps (m, d))

-- ---- defaults

mutual
  flat_holds : (t : DataType) → has_leafref (flat t) ≡ has_leafref t
  flat_holds text = refl
  flat_holds (number b) = refl
  flat_holds (length_within t bs) = flat_holds t
  flat_holds (value_within t bs) = flat_holds t
  flat_holds (matching t p) = flat_holds t
  flat_holds (one_of names) = refl
  flat_holds truth = refl
  flat_holds (builtin b) = refl
  flat_holds (leafref target t) = refl
  flat_holds (union ts) = flat_hold ts

  flat_hold : (ts : DataTypes) → have_leafref (types_of (flat_members ts)) ≡ have_leafref ts
  flat_hold no_types = refl
  flat_hold (type_and t ts) =
      joined_leafref (members (flat t)) (flat_members ts)
      ∙ ap (λ b. b || have_leafref (types_of (flat_members ts))) (member_leafref (flat t) ∙ flat_holds t)
      ∙ ap (λ b. has_leafref t || b) (flat_hold ts)

pub told_alike : (a b : Bool) → (IsTrue a → IsTrue b) → (IsTrue b → IsTrue a) → a ≡ b
told_alike true true there back = refl
told_alike true false there back = sym (there refl)
told_alike false true there back = back refl
told_alike false false there back = refl

module _ (accepts : DataType → List ℕ → Bool) (decide : DecidesTexts accepts) where
  accepted_alike : (t : DataType) (s : List ℕ) → accepts (flat t) s ≡ accepts t s
  accepted_alike t s =
      let same = type_accepts t s in
      let one = decide.decides (flat t) s in
      let other = decide.decides t s in
      told_alike (accepts (flat t) s) (accepts t s) (λ h. other.1 (same.0 (one.0 h))) (λ h. one.1 (same.1 (other.0 h)))

  text_alike : (file : ℕ) (t : DataType) (d : Declaration) (s : List ℕ) → bad_text accepts file (flat t) d s ≡ bad_text accepts file t d s
  text_alike file t d s =
      ap (λ (b : Bool). if b then fault_at file BadArgument d ∷ [] else if accepts (flat t) s then [] else fault_at file BadArgument d ∷ []) (flat_holds t)
      ∙ ap (λ (b : Bool). if has_leafref t then fault_at file BadArgument d ∷ [] else if b then [] else fault_at file BadArgument d ∷ []) (accepted_alike t s)

  -- a default that the flat form of a type takes
  pub default_alike : (file : ℕ) (t : DataType) (d : Declaration) → bad_default accepts file (flat t) d ≡ bad_default accepts file t d
  default_alike file t d =
      let same : bad_text accepts file (flat t) d ≡ bad_text accepts file t d = λ i s. text_alike file t d s i in
      ap (λ (f : List ℕ → List Fault). option_map_or f (argument d) []) same
