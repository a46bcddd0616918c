-- The scopes of what is read are those of the parts of the patch.
use Rattle.std.proofs.Common.{◌≡◌, ◌<◌, ℕ, ◌+◌, List, [], ◌∷◌, ◌++◌, get_or, length, map, take, refl, sym, ap, ◌∙◌, Option, Some, None, Ok, Err}
use Rattle.std.proofs.lemmas.List.{map-append}
use Rattle.std.specs.Option.{option_map_or}
use Rattle.patch_core.specs.Operation.{Operation}
use Rattle.scopes.specs.Splitting.{Part, operations_in, part_of, parts, scopes_of, split}
use Rattle.scopes.specs.declared.errors.SplitError.TheVariants as error
use Rattle.scopes.specs.declared.scope.Scope.{Scope}
use Rattle.scopes.specs.declared.splitting.Scoped.{Scoped}
use Rattle.gcu_requests.specs.ScopesAsked.{split_answer}
use Rattle.gcu_requests.specs.ScopesPlannings.{AreInOrder}
use Rattle.gcu_requests.specs.declared.scopes_planning.ScopeEnds.{ScopeEnds}
use Rattle.gcu_requests.proofs.EachFinding.{items_more}

-- one more is read
pub scopes_more : (given : List Scoped) (i : ℕ) (part : Scoped) (es all : List ScopeEnds) (e : ScopeEnds)
    → i < length given → part ≡ get_or given i part
    → all ≡ es ++ e ∷ [] → map (λ (x : ScopeEnds). x.scope) es ≡ map (λ (p : Scoped). p.scope) (take i given)
    → e.scope ≡ part.scope
    → map (λ (x : ScopeEnds). x.scope) all ≡ map (λ (p : Scoped). p.scope) (take (i + 1) given)
scopes_more given i part es all e less is longer so_far same =
    ap (map (λ (x : ScopeEnds). x.scope)) longer
    ∙ map-append (λ (x : ScopeEnds). x.scope) es (e ∷ [])
    ∙ (λ j. so_far j ++ same j ∷ [])
    ∙ sym (items_more (λ (p : Scoped). p.scope) given i part less is)

-- what a patch is split into are its parts
split_parts : (ops : List Operation) (ps : List Part) → split_answer (split ops) ≡ Ok ps → parts ops ≡ ps
split_parts ops ps e = by _ e
  where
    by : (o : Option ℕ) → split_answer (option_map_or (λ index. Err (error.BadScope index)) o (Ok (parts ops))) ≡ Ok ps
        → parts ops ≡ ps
    by None is = cc
    by (Some i) is = absurd cc

scopes_in_parts : (ops : List Operation) (scopes : List Scope)
    → map (λ (p : Part). p.0) (map (λ (scope : Scope). (scope, operations_in scope ops)) scopes) ≡ scopes
scopes_in_parts ops [] = refl
scopes_in_parts ops (scope ∷ scopes) = ap (λ (l : List Scope). scope ∷ l) (scopes_in_parts ops scopes)

scopes_of_parts : (given : List Scoped)
    → map (λ (p : Part). p.0) (map part_of given) ≡ map (λ (p : Scoped). p.scope) given
scopes_of_parts [] = refl
scopes_of_parts (p ∷ given) = ap (λ (l : List Scope). p.scope ∷ l) (scopes_of_parts given)

-- so they are in order
pub in_order : (ops : List Operation) (given : List Scoped) (es : List ScopeEnds)
    → split_answer (split ops) ≡ Ok (map part_of given)
    → map (λ (e : ScopeEnds). e.scope) es ≡ map (λ (p : Scoped). p.scope) given → AreInOrder es
in_order ops given es gives same = (
  ops,
  same ∙ sym (scopes_of_parts given) ∙ ap (map (λ (p : Part). p.0)) (sym (split_parts ops (map part_of given) gives))
      ∙ scopes_in_parts ops (scopes_of ops),
)
