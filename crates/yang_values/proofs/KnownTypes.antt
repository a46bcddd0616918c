-- Types of which the same is known make types of which the same is known.
use Rattle.std.proofs.Common.{◌≡◌, inl, inr, ◌↔◌, ◌+◌, ◌<◌, ◌||◌, not, ℕ, zero, suc, Bool, true, false, cond, true≢false, List, [], ◌∷◌, ◌++◌, map, take, length, get_or, codes, Option, Some, None, option_and_then, refl, sym, ap, ◌∙◌, subst, arith}
use Rattle.std.specs.Prelude.{Contains}
use Rattle.std.specs.List.{AllZip, flat_map, fold}
use Rattle.std.specs.Option.{option_map_or}
use Rattle.std.proofs.lemmas.List.{map-append}
use Rattle.yang_text.specs.Declarations.{Declaration, argument, block}
use Rattle.yang_types.specs.Accepts.{Accepts, AcceptsAny}
use Rattle.yang_types.specs.DataType.{DataType, text, number, length_within, value_within, matching, truth, builtin, union, members, plain, types_of}
use Rattle.yang_types.specs.declared.types.Bounds.{Bounds}
use Rattle.yang_types.specs.declared.types.Target.{Target}
use Rattle.yang_scope.specs.Meanings.{type_meaning, base_of}
use Rattle.yang_scope.specs.Modules.{Module}
use Rattle.yang_scope.specs.Paths.{Placed}
use Rattle.yang_scope.specs.Statements.{is_keyword}
use Rattle.yang_scope.specs.declared.bases.Base.{Base}
use Rattle.yang_scope.specs.declared.bases.Base.TheVariants.{Text, Number, Enumeration, Truth, Leafref, Union, Builtin as BuiltIn}
use Rattle.yang_scope.specs.declared.meanings.Meaning.{Meaning}
use Rattle.yang_scope.specs.declared.meanings.Meaning.TheVariants.{Ends, Goes, Nothing}
use Rattle.yang_values.specs.Defaults.{has_leafref, have_leafref}
use Rattle.yang_values.specs.Endless.{untried, HasTaste, StandsFor, AreClosed, AreRight}
use Rattle.yang_values.specs.Targets.{target_of}
use Rattle.yang_values.specs.TypeValues.{path_of, only_type, leafref_of, named_type, matching_by, restrict, is_taken, restrict_if_taken, type_by, type_within, next}
use Rattle.yang_values.specs.Values.{parts_in, restricted_values}
use Rattle.yang_values.specs.Walks.{AreReached}
use Rattle.yang_values.specs.declared.endless.Taste.{Taste}
use Rattle.yang_types.proofs.FlatTypes.{flat_accepts, plain_accepts}
use Rattle.yang_values.proofs.FlatUnions.{flat_leafref}
use Rattle.yang_values.proofs.ReachableTypes.{no_element, mapped_more}

-- two types are leafrefs or hold them alike, and accept a text alike
pub record Alike (s : List ℕ) (t u : DataType) : Type 0 where
  pub holds : has_leafref t ≡ has_leafref u
  pub accepts : Accepts t s ↔ Accepts u s

module _ (s : List ℕ) where
  same : (t : DataType) → Alike s t t
  same t = record { holds = refl; accepts = (λ h. h, λ h. h) }

  only_alike : (ts us : List DataType) → AllZip (Alike s) ts us → Alike s (only_type ts) (only_type us)
  only_alike [] [] z = same text
  only_alike [] (u ∷ us) z = absurd z
  only_alike (t ∷ ts) [] z = absurd z
  only_alike (t ∷ ts) (u ∷ us) z = z.0

  any_alike : (ts us : List DataType) → AllZip (Alike s) ts us
      → (have_leafref (types_of ts) ≡ have_leafref (types_of us)) × (AcceptsAny (types_of ts) s ↔ AcceptsAny (types_of us) s)
  any_alike [] [] z = (refl, (λ h. h, λ h. h))
  any_alike [] (u ∷ us) z = absurd z
  any_alike (t ∷ ts) [] z = absurd z
  any_alike (t ∷ ts) (u ∷ us) z =
      let rest = any_alike ts us z.1 in (
        ap (λ b. b || have_leafref (types_of ts)) z.0.holds ∙ ap (λ b. has_leafref u || b) rest.0,
        (
          λ h. elim h [ inl a ↦ inl (z.0.accepts.0 a) | inr b ↦ inr (rest.1.0 b) ],
          λ h. elim h [ inl a ↦ inl (z.0.accepts.1 a) | inr b ↦ inr (rest.1.1 b) ],
        ),
      )

  union_alike : (ts us : List DataType) → AllZip (Alike s) ts us → Alike s (union (types_of (flat_map members ts))) (union (types_of (flat_map members us)))
  union_alike ts us z =
      let all = any_alike ts us z in
      record {
        holds = flat_leafref ts ∙ all.0 ∙ sym (flat_leafref us);
        accepts = (
          λ h. (flat_accepts s us).1 (all.1.0 ((flat_accepts s ts).0 h)),
          λ h. (flat_accepts s ts).1 (all.1.1 ((flat_accepts s us).0 h)),
        );
      }

  plain_alike : (t u : DataType) → Alike s t u → Accepts (plain t) s ↔ Accepts (plain u) s
  plain_alike t u a = (
    λ h. (plain_accepts s u).1 (a.accepts.0 ((plain_accepts s t).0 h)),
    λ h. (plain_accepts s t).1 (a.accepts.1 ((plain_accepts s u).0 h)),
  )

  leafref_alike : (o : Option Target) (ts us : List DataType) → AllZip (Alike s) ts us → Alike s (leafref_of o ts) (leafref_of o us)
  leafref_alike None ts us z = record { holds = refl; accepts = plain_alike (only_type ts) (only_type us) (only_alike ts us z) }
  leafref_alike (Some target) ts us z = record { holds = refl; accepts = plain_alike (only_type ts) (only_type us) (only_alike ts us z) }

  named_alike : (modules : List Module) (d : Declaration) (ts us : List DataType) (meaning : Meaning) → AllZip (Alike s) ts us
      → Alike s (named_type modules d ts meaning) (named_type modules d us meaning)
  named_alike modules d ts us Nothing z = same text
  named_alike modules d ts us (Goes m place) z = only_alike ts us z
  named_alike modules d ts us (Ends Leafref) z = leafref_alike (option_and_then (target_of modules) (path_of d)) ts us z
  named_alike modules d ts us (Ends Union) z = union_alike ts us z
  named_alike modules d ts us (Ends Text) z = same text
  named_alike modules d ts us (Ends (Number b)) z = same (number b)
  named_alike modules d ts us (Ends Enumeration) z = same (named_type modules d ts (Ends Enumeration))
  named_alike modules d ts us (Ends Truth) z = same truth
  named_alike modules d ts us (Ends (BuiltIn b)) z = same (builtin b)

  length_alike : (o : Option (List Bounds)) (t u : DataType) → Alike s t u → Alike s (option_map_or (length_within t) o t) (option_map_or (length_within u) o u)
  length_alike None t u a = a
  length_alike (Some bs) t u a = record { holds = a.holds; accepts = (λ h. (a.accepts.0 h.0, h.1), λ h. (a.accepts.1 h.0, h.1)) }

  range_alike : (o : Option (List Bounds)) (t u : DataType) → Alike s t u → Alike s (option_map_or (value_within t) o t) (option_map_or (value_within u) o u)
  range_alike None t u a = a
  range_alike (Some bs) t u a = record { holds = a.holds; accepts = (λ h. (a.accepts.0 h.0, h.1), λ h. (a.accepts.1 h.0, h.1)) }

  matching_alike : (b : Bool) (p : List ℕ) (t u : DataType) → Alike s t u → Alike s (cond b (matching t p) t) (cond b (matching u p) u)
  matching_alike false p t u a = a
  matching_alike true p t u a = record { holds = a.holds; accepts = (λ h. (a.accepts.0 h.0, h.1), λ h. (a.accepts.1 h.0, h.1)) }

  pattern_alike : (is_pattern : List ℕ → Bool) (o : Option (List ℕ)) (t u : DataType) → Alike s t u → Alike s (option_map_or (matching_by is_pattern t) o t) (option_map_or (matching_by is_pattern u) o u)
  pattern_alike is_pattern None t u a = a
  pattern_alike is_pattern (Some p) t u a = matching_alike (is_pattern p) p t u a

  either_alike : (b : Bool) (t u t' u' : DataType) → Alike s t u → Alike s t' u' → Alike s (cond b t t') (cond b u u')
  either_alike true t u t' u' a a' = a
  either_alike false t u t' u' a a' = a'

  restrict_alike : (is_pattern : List ℕ → Bool) (values : List Bounds) (t u : DataType) (d : Declaration) → Alike s t u → Alike s (restrict is_pattern values t d) (restrict is_pattern values u d)
  restrict_alike is_pattern values t u d a =
      either_alike (is_keyword (codes "length") d) _ _ _ _ (length_alike (parts_in values d) t u a)
      (either_alike (is_keyword (codes "range") d) _ _ _ _ (range_alike (parts_in values d) t u a)
      (either_alike (is_keyword (codes "pattern") d) _ _ _ _ (pattern_alike is_pattern (argument d) t u a) a))

  taken_alike : (is_pattern : List ℕ → Bool) (base : Option Base) (values : List Bounds) (t u : DataType) (d : Declaration) → Alike s t u
      → Alike s (restrict_if_taken is_pattern base values t d) (restrict_if_taken is_pattern base values u d)
  taken_alike is_pattern base values t u d a = either_alike (is_taken base d) _ _ _ _ (restrict_alike is_pattern values t u d a) a

  fold_alike : (is_pattern : List ℕ → Bool) (base : Option Base) (values : List Bounds) (ds : List Declaration) (t u : DataType) → Alike s t u
      → Alike s (fold (restrict_if_taken is_pattern base values) t ds) (fold (restrict_if_taken is_pattern base values) u ds)
  fold_alike is_pattern base values [] t u a = a
  fold_alike is_pattern base values (d ∷ ds) t u a =
      fold_alike is_pattern base values ds (restrict_if_taken is_pattern base values t d) (restrict_if_taken is_pattern base values u d) (taken_alike is_pattern base values t u d a)

  type_by_alike : (is_pattern : List ℕ → Bool) (modules : List Module) (p : Placed) (ts us : List DataType) → AllZip (Alike s) ts us
      → Alike s (type_by is_pattern modules p ts) (type_by is_pattern modules p us)
  type_by_alike is_pattern modules p ts us z =
      fold_alike is_pattern (base_of modules p.0 (argument p.1)) (restricted_values modules p.0 p.1) (block p.1) _ _
      (named_alike modules p.1 ts us (type_meaning modules p.0 (argument p.1)) z)

  -- the same is known of both
  known_alike : (t u : DataType) (taste : Taste) → HasTaste s t taste → HasTaste s u taste → Alike s t u
  known_alike t u taste a b = record {
    holds = a.holds ∙ sym b.holds;
    accepts = (λ h. b.accepts.0 (a.accepts.1 h), λ h. a.accepts.0 (b.accepts.1 h));
  }

  alike_known : (t u : DataType) (taste : Taste) → Alike s t u → HasTaste s u taste → HasTaste s t taste
  alike_known t u taste a b = record {
    holds = a.holds ∙ b.holds;
    accepts = (λ h. a.accepts.1 (b.accepts.0 h), λ h. b.accepts.1 (a.accepts.0 h));
  }

within-zero : (is_pattern : List ℕ → Bool) (modules : List Module) (p : Placed) → type_within is_pattern modules 0 p ≡ text
unfolding type_within
within-zero is_pattern modules p = refl

within-suc : (is_pattern : List ℕ → Bool) (modules : List Module) (n : ℕ) (p : Placed)
    → type_within is_pattern modules (suc n) p ≡ type_by is_pattern modules p (map (type_within is_pattern modules n) (next modules p))
unfolding type_within
within-suc is_pattern modules n p = refl

module _ (is_pattern : List ℕ → Bool) (modules : List Module) (s : List ℕ) (n : ℕ) (known : List (Placed × Taste)) (right : AreRight is_pattern modules s n known) where
  stand_alike : (ps : List Placed) (ts : List DataType) → AllZip (StandsFor known) ps ts → AllZip (Alike s) (map (type_within is_pattern modules n) ps) ts
  stand_alike [] [] z = tt
  stand_alike [] (t ∷ ts) z = absurd z
  stand_alike (p ∷ ps) [] z = absurd z
  stand_alike (p ∷ ps) (t ∷ ts) z =
      let (taste, there, has) = z.0 in
      (known_alike s (type_within is_pattern modules n p) t taste (right p taste there) (has s), stand_alike ps ts z.1)

  -- what is known of the type that stands for what a statement leads to is known of the statement
  pub next_right : (p : Placed) (ps : List Placed) (ts : List DataType) (t : DataType) (taste : Taste) → ps ≡ next modules p → AllZip (StandsFor known) ps ts
      → t ≡ type_by is_pattern modules p ts → HasTaste s t taste → HasTaste s (type_within is_pattern modules (n + 1) p) taste
  next_right p ps ts t taste leads z is has =
      let e : n + 1 ≡ suc n = omega arith in
      let whole : type_by is_pattern modules p (map (type_within is_pattern modules n) ps) ≡ type_within is_pattern modules (n + 1) p =
      ap (λ qs. type_by is_pattern modules p (map (type_within is_pattern modules n) qs)) leads ∙ (sym (within-suc is_pattern modules n p) ∙ ap (λ k. type_within is_pattern modules k p) (sym e)) in
      let alike = type_by_alike s is_pattern modules p (map (type_within is_pattern modules n) ps) ts (stand_alike ps ts z) in
      let has_it : HasTaste s (type_by is_pattern modules p ts) taste = subst (λ u. HasTaste s u taste) is has in
      subst (λ u. HasTaste s u taste) whole (alike_known s (type_by is_pattern modules p (map (type_within is_pattern modules n) ps)) (type_by is_pattern modules p ts) taste alike has_it)

-- where a step changes nothing, no further one does
pub settled : (is_pattern : List ℕ → Bool) (modules : List Module) (s : List ℕ) (known : List (Placed × Taste))
    → ((most : ℕ) → AreRight is_pattern modules s most known → AreRight is_pattern modules s (most + 1) known)
    → (n k : ℕ) → AreRight is_pattern modules s n known → AreRight is_pattern modules s (n + k) known
settled is_pattern modules s known step n zero right = subst (λ m. AreRight is_pattern modules s m known) (omega arith) right
settled is_pattern modules s known step n (suc k) right =
    subst (λ m. AreRight is_pattern modules s m known) (omega arith) (step (n + k) (settled is_pattern modules s known step n k right))

zip_push : {X Y : Type 0} (R : X → Y → Type 0) (xs : List X) (ys : List Y) (x : X) (y : Y) → AllZip R xs ys → R x y → AllZip R (xs ++ x ∷ []) (ys ++ y ∷ [])
zip_push R [] [] x y z r = (r, tt)
zip_push R [] (b ∷ ys) x y z r = absurd z
zip_push R (a ∷ xs) [] x y z r = absurd z
zip_push R (a ∷ xs) (b ∷ ys) x y z r = (z.0, zip_push R xs ys x y z.1 r)

-- one type more stands for one statement more
pub zip_more : {W U X Y : Type 0} (R : X → Y → Type 0) (f : W → X) (g : U → Y) (ws : List W) (i : ℕ) (w : W) (us all : List U) (u : U) → i < length ws → w ≡ get_or ws i w
    → all ≡ us ++ u ∷ [] → AllZip R (map f (take i ws)) (map g us) → R (f w) (g u) → AllZip R (map f (take (i + 1) ws)) (map g all)
zip_more R f g ws i w us all u below is pushed before r =
    subst (λ xs. AllZip R xs (map g all)) (sym (mapped_more f ws i w below is))
    (subst (λ ys. AllZip R (map f (take i ws) ++ f w ∷ []) ys) (sym (ap (map g) pushed ∙ map-append g us (u ∷ [])))
    (zip_push R (map f (take i ws)) (map g us) (f w) (g u) before r))

-- nothing has changed
pub unchanged : (a b : Bool) → (a || not b) ≡ false → (a ≡ false) × (b ≡ true)
unchanged false true h = (refl, refl)
unchanged false false h = absurd (true≢false h)
unchanged true b h = absurd (true≢false h)

-- what was never tried is right of no step
pub untried_right : (is_pattern : List ℕ → Bool) (modules : List Module) (s : List ℕ) (ps : List Placed) → AreRight is_pattern modules s 0 (map untried ps)
untried_right is_pattern modules s [] p taste c = absurd (no_element (p, taste) c)
untried_right is_pattern modules s (q ∷ ps) p taste (zero, below, is) =
    let begun : HasTaste s text (untried q).1 = record { holds = refl; accepts = (λ _. tt, λ _. refl) } in
    subst (λ (x : Taste). HasTaste s (type_within is_pattern modules 0 p) x) (ap (λ r. r.1) is)
    (subst (λ t. HasTaste s t (untried q).1) (sym (within-zero is_pattern modules p)) begun)
untried_right is_pattern modules s (q ∷ ps) p taste (suc k, below, is) = untried_right is_pattern modules s ps p taste (k, omega (arith, below), is)

pub untried_places : (ps : List Placed) → map (λ (r : Placed × Taste). r.0) (map untried ps) ≡ ps
untried_places [] = refl
untried_places (p ∷ ps) = ap (λ qs. p ∷ qs) (untried_places ps)

-- a statement and all that it leads to
pub reached_closed : (modules : List Module) (p : Placed) (qs : List Placed) → AreReached modules p qs → AreClosed modules (p ∷ qs)
reached_closed modules p qs all r q (zero, below, is) c =
    let there = all.first q (subst (λ (x : Placed). Contains (next modules x) q) (sym is) c) in
    (suc there.0, omega (arith, there.1), there.2)
reached_closed modules p qs all r q (suc k, below, is) c =
    let there = all.closed r q (k, omega (arith, below), is) c in
    (suc there.0, omega (arith, there.1), there.2)
