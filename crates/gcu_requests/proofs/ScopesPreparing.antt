-- What a change of several scopes needs, found call after call.
use Rattle.std.proofs.Common.{◌≡◌, ℕ, Global, List, map, sym, subst, Option, Some, None, Vec, Result, Ok, Err}
use Rattle.host_core.specs.State.{State}
use Rattle.move_core.specs.declared.contexts.Ctx.{Ctx}
use Rattle.patch_core.specs.Operation.{operations}
use Rattle.patch_core.specs.declared.patches.Patch.{Patch}
use Rattle.scopes.specs.Splitting.{Part, part_of, split}
use Rattle.scopes.specs.declared.splitting.Scoped.{Scoped}
use Rattle.gcu_output.specs.declared.outcomes.Outcome.{Outcome}
use Rattle.gcu_inputs.specs.Asking.{follows, of_each}
use Rattle.gcu_inputs.specs.IntentAsked.{uninterrupted}
use Rattle.gcu_inputs.specs.PatchAsked.{patch_asked}
use Rattle.gcu_inputs.specs.Preparing.{Finds, Found}
use Rattle.gcu_inputs.specs.RulesAsked.{ctx_asked}
use Rattle.gcu_requests.specs.ScopesAsked.{ScopePlanning, part_asked, scopes_asked, split_answer}
use Rattle.gcu_requests.specs.ScopesPlannings.{plans_of, scope_planning}
use Rattle.gcu_requests.specs.declared.scopes_planning.ScopeEnds.{ScopeEnds}
use Rattle.gcu_requests.specs.declared.scopes_planning.ScopesPlanning.{ScopesPlanning}
use Rattle.gcu_inputs.proofs.Finding.{first_refused, then_found}

abbrev self : {X : Type 0} → X → X
self x = x

-- the parts that were split
abbrev parts_of : Vec Scoped Global → List Part
parts_of parts = map part_of parts.items

module _ (path : List ℕ) (budget : ℕ) (o : Option State) where
  -- a change is under way
  pub scopes_closed : (e : Outcome) → Finds {X = Unit {0}} o self (Err e) uninterrupted
      → Finds {X = ScopesPlanning} o plans_of (Err e) (scopes_asked path budget)
  scopes_closed e h = by o h
    where
      by : (q : Option State) → Finds {X = Unit {0}} q self (Err e) uninterrupted
          → Finds {X = ScopesPlanning} q plans_of (Err e) (scopes_asked path budget)
      by None h = tt
      by (Some s) h = first_refused {X = Unit {0}} self plans_of e (uninterrupted s) _ h

  module _ (u : Unit {0}) (free : Finds o self (Ok u) uninterrupted) where
    -- there is nothing to judge by
    pub no_scopes_ctx : (e : Outcome) → Finds {X = Ctx} o self (Err e) ctx_asked
        → Finds {X = ScopesPlanning} o plans_of (Err e) (scopes_asked path budget)
    no_scopes_ctx e h = by o free h
      where
        by : (q : Option State) → Finds q self (Ok u) uninterrupted → Finds {X = Ctx} q self (Err e) ctx_asked
            → Finds {X = ScopesPlanning} q plans_of (Err e) (scopes_asked path budget)
        by None f h = tt
        by (Some s) f h =
            then_found self plans_of u (Err e) (uninterrupted s) _ f
            (first_refused {X = Ctx} self plans_of e (ctx_asked s) _ h)

    module _ (ctx : Ctx) (judged : Finds o self (Ok ctx) ctx_asked) where
      -- there is no patch
      pub no_scopes_patch : (e : Outcome) → Finds {X = Patch} o operations (Err e) (patch_asked path)
          → Finds {X = ScopesPlanning} o plans_of (Err e) (scopes_asked path budget)
      no_scopes_patch e h = by o free judged h
        where
          by : (q : Option State) → Finds q self (Ok u) uninterrupted → Finds q self (Ok ctx) ctx_asked
              → Finds {X = Patch} q operations (Err e) (patch_asked path)
              → Finds {X = ScopesPlanning} q plans_of (Err e) (scopes_asked path budget)
          by None f j h = tt
          by (Some s) f j h =
              then_found self plans_of u (Err e) (uninterrupted s) _ f
              (then_found self plans_of ctx (Err e) (ctx_asked s) _ j
              (first_refused {X = Patch} operations plans_of e (patch_asked path s) _ h))

      module _ (patch : Patch) (read : Finds o operations (Ok patch) (patch_asked path)) where
        -- an operation has no scope
        pub no_parts : (e : Outcome)
            → Found {X = Vec Scoped Global} parts_of (Err e) (follows (split_answer (split (operations patch))))
            → Finds {X = ScopesPlanning} o plans_of (Err e) (scopes_asked path budget)
        no_parts e h = by o free judged read
          where
            by : (q : Option State) → Finds q self (Ok u) uninterrupted → Finds q self (Ok ctx) ctx_asked
                → Finds q operations (Ok patch) (patch_asked path)
                → Finds {X = ScopesPlanning} q plans_of (Err e) (scopes_asked path budget)
            by None f j r = tt
            by (Some s) f j r =
                then_found self plans_of u (Err e) (uninterrupted s) _ f
                (then_found self plans_of ctx (Err e) (ctx_asked s) _ j
                (then_found operations plans_of patch (Err e) (patch_asked path s) _ r
                (first_refused {X = Vec Scoped Global} parts_of plans_of e
                (follows (split_answer (split (operations patch)))) _ h)))

        module _ (parts : Vec Scoped Global)
            (parted : Found parts_of (Ok parts) (follows (split_answer (split (operations patch))))) where
          all_behind : (r : Result ScopesPlanning Outcome)
              → Finds o plans_of r (λ s. of_each (part_asked ctx budget s) (parts_of parts))
              → Finds o plans_of r (scopes_asked path budget)
          all_behind r h = by o free judged read h
            where
              by : (q : Option State) → Finds q self (Ok u) uninterrupted → Finds q self (Ok ctx) ctx_asked
                  → Finds q operations (Ok patch) (patch_asked path)
                  → Finds q plans_of r (λ s. of_each (part_asked ctx budget s) (parts_of parts))
                  → Finds q plans_of r (scopes_asked path budget)
              by None f j p h = tt
              by (Some s) f j p h =
                  then_found self plans_of u r (uninterrupted s) _ f
                  (then_found self plans_of ctx r (ctx_asked s) _ j
                  (then_found operations plans_of patch r (patch_asked path s) _ p
                  (then_found parts_of plans_of parts r (follows (split_answer (split (operations patch)))) _ parted
                  h)))

          -- a scope is refused
          pub no_scopes : (e : Outcome) (q : Option State) (ps : List Scoped) → q ≡ o → ps ≡ parts.items
              → Finds {X = List ScopeEnds} q (map (scope_planning ctx budget)) (Err e)
              (λ s. of_each (part_asked ctx budget s) (map part_of ps))
              → Finds {X = ScopesPlanning} o plans_of (Err e) (scopes_asked path budget)
          no_scopes e q ps same are h =
              all_behind (Err e)
              (by o
              (subst (λ (t : Option State). Finds {X = List ScopeEnds} t (map (scope_planning ctx budget)) (Err e)
              (λ s. of_each (part_asked ctx budget s) (parts_of parts))) same
              (subst (λ (l : List Scoped). Finds {X = List ScopeEnds} q (map (scope_planning ctx budget)) (Err e)
              (λ s. of_each (part_asked ctx budget s) (map part_of l))) are h)))
            where
              by : (q : Option State)
                  → Finds {X = List ScopeEnds} q (map (scope_planning ctx budget)) (Err e)
                  (λ s. of_each (part_asked ctx budget s) (parts_of parts))
                  → Finds {X = ScopesPlanning} q plans_of (Err e)
                  (λ s. of_each (part_asked ctx budget s) (parts_of parts))
              by None h = tt
              by (Some s) h = record { gives = h.gives; stands = h.stands }

          -- there is all that the plans need
          pub scopes_found : (all : ScopesPlanning) (q : Option State) (ps : List Scoped)
              → plans_of all ≡ map (scope_planning ctx budget) all.scopes → q ≡ o → ps ≡ parts.items
              → Finds q (map (scope_planning ctx budget)) (Ok all.scopes)
              (λ s. of_each (part_asked ctx budget s) (map part_of ps))
              → Finds o plans_of (Ok all) (scopes_asked path budget)
          scopes_found all q ps is same are h =
              all_behind (Ok all)
              (by o
              (subst (λ (t : Option State). Finds t (map (scope_planning ctx budget)) (Ok all.scopes)
              (λ s. of_each (part_asked ctx budget s) (parts_of parts))) same
              (subst (λ (l : List Scoped). Finds q (map (scope_planning ctx budget)) (Ok all.scopes)
              (λ s. of_each (part_asked ctx budget s) (map part_of l))) are h)))
            where
              by : (q : Option State)
                  → Finds q (map (scope_planning ctx budget)) (Ok all.scopes)
                  (λ s. of_each (part_asked ctx budget s) (parts_of parts))
                  → Finds q plans_of (Ok all) (λ s. of_each (part_asked ctx budget s) (parts_of parts))
              by None h = tt
              by (Some s) h = record {
                gives =
                    subst (λ (ps : List ScopePlanning).
                    (of_each (part_asked ctx budget s) (parts_of parts)).Gives (Ok ps)) (sym is) h.gives;
                stands = tt;
              }
