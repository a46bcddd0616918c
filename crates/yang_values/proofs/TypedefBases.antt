-- Where typedefs lead to a base that leads no further, all ways end.
use Rattle.std.proofs.Common.{◌≡◌, ℕ, zero, suc, true, false, List, [], Contains, Option, Some, None, option_and_then, codes, sym, subst, arith}
use Rattle.std.specs.Option.{option_map_or, option_to_list}
use Rattle.yang_text.specs.Declarations.{Declaration, argument}
use Rattle.yang_scope.specs.Meanings.{base_within, base_of, most_typedefs, type_meaning, typedef_meaning, statement_at}
use Rattle.yang_scope.specs.Modules.{Module}
use Rattle.yang_scope.specs.Paths.{Placed}
use Rattle.yang_scope.specs.Statements.{first_child}
use Rattle.yang_scope.specs.declared.bases.Base.{Base}
use Rattle.yang_scope.specs.declared.bases.Base.TheVariants.{Text, Number, Enumeration, Truth, Leafref, Union, Builtin}
use Rattle.yang_scope.specs.declared.meanings.Meaning.{Meaning}
use Rattle.yang_scope.specs.declared.meanings.Meaning.TheVariants.{Ends, Goes, Nothing}
use Rattle.yang_values.specs.Endings.{EndsIn, DoesEnd, leads_on}
use Rattle.yang_values.specs.TypeValues.{next_by, placed_in}

nothing_there : {X : Type 0} (x : X) → Contains [] x → ⊥
nothing_there x within = omega (arith, within.1)

module _ (modules : List Module) (base : Base) (plain : leads_on (Some base) ≡ false) where
  base_ends : (m : ℕ) (d : Declaration) (most : ℕ) (b : Base) → b ≡ base → (q : Placed) → Contains (next_by modules m d (Ends b)) q → EndsIn modules most q
  base_ends m d most Text is q within = absurd (nothing_there q within)
  base_ends m d most (Number n) is q within = absurd (nothing_there q within)
  base_ends m d most Enumeration is q within = absurd (nothing_there q within)
  base_ends m d most Truth is q within = absurd (nothing_there q within)
  base_ends m d most (Builtin n) is q within = absurd (nothing_there q within)
  base_ends m d most Leafref is q within =
      let P : Base → Type 0 = λ x. leads_on (Some x) ≡ false in
      let wrong : true ≡ false = subst P (sym is) plain in
      absurd (cc)
  base_ends m d most Union is q within =
      let P : Base → Type 0 = λ x. leads_on (Some x) ≡ false in
      let wrong : true ≡ false = subst P (sym is) plain in
      absurd (cc)

  -- the type statement of a typedef, where there is one
  inner : (n k : ℕ) → ((t : Declaration) → base_within modules n (type_meaning modules k (argument t)) ≡ Some base → EndsIn modules (suc (suc n)) (k, t))
      → (to : Option Declaration) → base_within modules n (option_map_or (λ t. type_meaning modules k (argument t)) to Nothing) ≡ Some base
      → (q : Placed) → Contains (placed_in k (option_to_list to)) q → EndsIn modules (suc (suc n)) q
  inner n k below None h q within = absurd (nothing_there q within)
  inner n k below (Some t) h q within =
      let P : Placed → Type 0 = λ x. EndsIn modules (suc (suc n)) x in
      let zeroth : within.0 ≡ 0 = omega (arith, within.1) in
      subst P (rw zeroth at within.2) (below t h)

  outer : (n k : ℕ) → ((t : Declaration) → base_within modules n (type_meaning modules k (argument t)) ≡ Some base → EndsIn modules (suc (suc n)) (k, t))
      → (so : Option Declaration) → base_within modules n (option_map_or (typedef_meaning modules k) so Nothing) ≡ Some base
      → (q : Placed) → Contains (placed_in k (option_to_list (option_and_then (first_child (codes "type")) so))) q → EndsIn modules (suc (suc n)) q
  outer n k below None h q within = absurd (nothing_there q within)
  outer n k below (Some s) h q within = inner n k below (first_child (codes "type") s) h q within

  ends_by : (most m : ℕ) (d : Declaration) (meaning : Meaning) → base_within modules most meaning ≡ Some base → (q : Placed) → Contains (next_by modules m d meaning) q → EndsIn modules (suc most) q
  unfolding base_within
  ends_by zero m d (Ends b) is q within = let same : b ≡ base = cc in base_ends m d (suc zero) b same q within
  ends_by zero m d (Goes k place) is q within = absurd (cc)
  ends_by zero m d Nothing is q within = absurd (nothing_there q within)
  ends_by (suc n) m d (Ends b) is q within = let same : b ≡ base = cc in base_ends m d (suc (suc n)) b same q within
  ends_by (suc n) m d (Goes k place) is q within =
      outer n k (λ t h r inside. ends_by n k t (type_meaning modules k (argument t)) h r inside) (statement_at modules k place) is q within
  ends_by (suc n) m d Nothing is q within = absurd (nothing_there q within)

  based : (most m : ℕ) (d : Declaration) → base_within modules most (type_meaning modules m (argument d)) ≡ Some base → DoesEnd modules (m, d)
  based most m d is = (suc (suc most), λ q within. ends_by most m d (type_meaning modules m (argument d)) is q within)

-- a base that leads no further
pub ends_at_base : (modules : List Module) (m : ℕ) (d : Declaration) (o : Option Base) → o ≡ base_of modules m (argument d) → leads_on o ≡ false → DoesEnd modules (m, d)
ends_at_base modules m d None is plain = absurd (cc)
ends_at_base modules m d (Some base) is plain = based modules base plain most_typedefs m d (sym is)
