use Rattle.std.proofs.Common.{◌≡◌, ◌≤◌, ℕ, List, [], Some, None, sym, ◌∙◌, subst}
use Rattle.conf_doc.specs.Pairs.{find}
use Rattle.conf_doc.specs.declared.configuration.Config.{Config}
use Rattle.move_core.specs.declared.contexts.Ctx.{Ctx}
use Rattle.gcu_requests.specs.GoalTables.{HasKeysAt}
use Rattle.gcu_requests.proofs.TableNames.{all_passed, at_each, passed_below}
use Rattle.gcu_requests.proofs.empty_tables.empty_table.Goals as goal

-- a table that isn't there isn't one without keys
absent : (ctx : Ctx) (c : Config) (u : List ℕ) → find u c ≡ None → HasKeysAt ctx c u
absent ctx c u none modelled empty = let both : None ≡ Some [] = sym none ∙ empty in absurd cc

pub returns-then-not-has_keys : goal.returns-then-not-has_keys
returns-then-not-has_keys c = (
  c.if-not-has_keys.ensures,
  λ u less.
      at_each (HasKeysAt c.args.ctx.now c.args.config.now) c.args.config.now u
      (passed_below (HasKeysAt c.args.ctx.now c.args.config.now)
      c.args.config.now c.loop-i.i c.loop-i.invariant c.name_at-name.result.now
      c.len-i-end.ensures.formed.shaped.rising c.name_at-name.ensures u less)
      (absent c.args.ctx.now c.args.config.now u),
)

pub returns : goal.returns
returns c =
    λ u.
    at_each (HasKeysAt c.args.ctx.now c.args.config.now) c.args.config.now u
    (all_passed (HasKeysAt c.args.ctx.now c.args.config.now) c.args.config.now c.loop-i.i c.loop-i.invariant
    (subst (λ n. n ≤ c.loop-i.i) c.len-i-end.ensures.len c.loop-i-test.false) u)
    (absent c.args.ctx.now c.args.config.now u)
