use Rattle.std.proofs.Common.{◌≡◌, subst, sym}
use Rattle.sessions.specs.Worlds.{IsKept, opened}
use Rattle.sessions.proofs.WorldInvariants.{opened_is_kept}
use Rattle.sessions.proofs.worlds.World.new.Goals as goal

pub invariant_of-result : goal.invariant_of-result
invariant_of-result c =
    let same : opened c.args.ctx c.args.config.now
    ≡ record { ctx = c.args.ctx; opening = c.in_ok-opening.opening; config = c.in_ok-config.config; commits = c.new.result; sessions = c.new-2.result } =
    λ i. record {
      ctx = c.args.ctx;
      opening = sym c.in_ok-opening.ensures.copy i;
      config = sym c.in_ok-config.ensures.copy i;
      commits = sym c.new.ensures i;
      sessions = sym c.new-2.ensures i;
    } in
    subst IsKept same (opened_is_kept c.args.ctx c.args.config.now c.requires)

pub returns-clause-kept : goal.returns-clause-kept
returns-clause-kept c = invariant_of-result c
