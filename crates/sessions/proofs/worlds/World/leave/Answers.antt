use Rattle.std.proofs.Common.{rules, ◌≡◌, subst, sym}
use Rattle.sessions.specs.Turns.{without_session}
use Rattle.sessions.specs.Worlds.{IsKept, WorldState}
use Rattle.sessions.proofs.WorldInvariants.{without_session_is_kept}
use Rattle.sessions.proofs.worlds.World.leave.Goals as goal

pub invariant_of-self : goal.invariant_of-self
invariant_of-self c =
    let kept : IsKept c.args.self.now = subst IsKept c.self.view_is c.self.invariant in
    let after : WorldState = record { ctx = c.self.inside.ctx; opening = c.self.inside.opening; config = c.self.inside.config; commits = c.self.inside.commits; sessions = c.take.new.self } in
    let is : after ≡ without_session c.args.self.now c.args.name.now = search rules in
    subst IsKept (sym is) (without_session_is_kept c.args.self.now c.args.name.now kept)

pub returns-clause-kept : goal.returns-clause-kept
returns-clause-kept c = invariant_of-self c
