use Rattle.std.proofs.Common.{rules, ◌≡◌, subst, sym}
use Rattle.sessions.specs.Turns.{with_aim}
use Rattle.sessions.specs.Worlds.{IsKept, WorldState}
use Rattle.sessions.proofs.WorldInvariants.{with_aim_is_kept}
use Rattle.sessions.proofs.worlds.World.aim.Goals as goal

pub invariant_of-self-2 : goal.invariant_of-self-2
invariant_of-self-2 c =
    let kept : IsKept c.args.self.now = subst IsKept c.self.view_is c.self.invariant in
    let after : WorldState = record { ctx = c.self.inside.ctx; opening = c.self.inside.opening; config = c.self.inside.config; commits = c.self.inside.commits; sessions = c.put.new.self } in
    let is : after ≡ with_aim c.args.self.now c.args.name.now c.args.goal.now c.args.plan = search rules in
    subst IsKept (sym is) (with_aim_is_kept c.args.self.now c.args.name.now c.args.goal.now c.args.plan kept c.requires)

pub returns-clause-kept : goal.returns-clause-kept
returns-clause-kept c = invariant_of-self-2 c
