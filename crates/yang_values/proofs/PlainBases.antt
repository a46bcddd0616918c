-- Typedefs that end at a plain base go round no circle.
use Rattle.std.proofs.Common.{◌≡◌, ℕ, zero, suc, true, List, Option, Some, None, codes, option_and_then, refl, sym, ap, subst, ◌∙◌, arith}
use Rattle.std.specs.Option.{option_map_or, option_to_list}
use Rattle.std.specs.Prelude.{Contains}
use Rattle.std.proofs.lemmas.Bool.{false≢true}
use Rattle.yang_text.specs.Declarations.{Declaration, argument}
use Rattle.yang_scope.specs.Meanings.{type_meaning, typedef_meaning, statement_at, meaning_at, base_within}
use Rattle.yang_scope.specs.Modules.{Module}
use Rattle.yang_scope.specs.Paths.{Placed}
use Rattle.yang_scope.specs.Statements.{first_child}
use Rattle.yang_scope.specs.declared.bases.Base.{Base}
use Rattle.yang_scope.specs.declared.bases.Base.TheVariants.{Text, Number, Enumeration, Truth, Leafref, Union, Builtin}
use Rattle.yang_scope.specs.declared.meanings.Meaning.{Meaning}
use Rattle.yang_scope.specs.declared.meanings.Meaning.TheVariants.{Ends, Goes, Nothing}
use Rattle.yang_values.specs.Circles.{IsOnCircle, is_plain}
use Rattle.yang_values.specs.TypeValues.{placed_in, next_by}
use Rattle.yang_values.specs.Values.{typedef_type}
use Rattle.yang_values.proofs.ReachableTypes.{no_element, only, leads_on}

plain_ends : (modules : List Module) (m : ℕ) (d : Declaration) (b : Base) (r : Placed) → is_plain (Some b) ≡ true → Contains (next_by modules m d (Ends b)) r → ⊥
plain_ends modules m d Text r plain c = no_element r c
plain_ends modules m d (Number n) r plain c = no_element r c
plain_ends modules m d Enumeration r plain c = no_element r c
plain_ends modules m d Truth r plain c = no_element r c
plain_ends modules m d Leafref r plain c = false≢true plain
plain_ends modules m d Union r plain c = false≢true plain
plain_ends modules m d (Builtin n) r plain c = no_element r c

typed : (k : ℕ) (r : Placed) (o : Option Declaration) → Contains (placed_in k (option_to_list o)) r → (t : Declaration) × (o ≡ Some t) × (r ≡ (k, t))
typed k r None c = absurd (no_element r c)
typed k r (Some t) c = (t, refl, sym (only (k, t) r c))

type_means : (modules : List Module) (k : ℕ) (t : Declaration) (o : Option Declaration) → option_and_then (first_child (codes "type")) o ≡ Some t
    → option_map_or (typedef_meaning modules k) o Nothing ≡ type_meaning modules k (argument t)
type_means modules k t None is = absurd (grind arith)
type_means modules k t (Some s) is = ap (λ x. option_map_or (λ u. type_meaning modules k (argument u)) x Nothing) is

pub no_circle : (modules : List Module) (f : ℕ) (p : Placed) (meaning : Meaning) → type_meaning modules p.0 (argument p.1) ≡ meaning
    → is_plain (base_within modules f meaning) ≡ true → IsOnCircle modules p → ⊥
unfolding base_within
no_circle modules zero p (Ends b) e plain (n, (r, c, rest)) = plain_ends modules p.0 p.1 b r plain (subst (λ (m : Meaning). Contains (next_by modules p.0 p.1 m) r) e c)
no_circle modules (suc f) p (Ends b) e plain (n, (r, c, rest)) = plain_ends modules p.0 p.1 b r plain (subst (λ (m : Meaning). Contains (next_by modules p.0 p.1 m) r) e c)
no_circle modules zero p (Goes k place) e plain on = false≢true plain
no_circle modules (suc f) p (Goes k place) e plain (n, (r, c, rest)) =
    let at = typed k r (typedef_type modules k place) (subst (λ (m : Meaning). Contains (next_by modules p.0 p.1 m) r) e c) in
    let same : type_meaning modules r.0 (argument r.1) ≡ meaning_at modules k place =
    ap (λ (q : Placed). type_meaning modules q.0 (argument q.1)) at.2 ∙ sym (type_means modules k at.0 (statement_at modules k place) at.1) in
    no_circle modules f r (meaning_at modules k place) same plain (n, leads_on modules n r p r rest c)
no_circle modules zero p Nothing e plain on = false≢true plain
no_circle modules (suc f) p Nothing e plain on = false≢true plain
