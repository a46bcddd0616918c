use Rattle.std.proofs.Common.{length, subst, sym}
use Rattle.std.specs.Prelude.{IsSomeAnd}
use Rattle.sessions.specs.Named.{IsNextOf}
use Rattle.sessions.specs.States.{state_of}
use Rattle.sessions.specs.Worlds.{WorldState, session_of}
use Rattle.sessions.proofs.WorldInvariants.{next_is_allowed, next_is_kept}
use Rattle.sessions.proofs.CommitWorlds.{committed}
use Rattle.sessions.proofs.worlds.World.commit.Goals as goal

pub step-requires : goal.step-requires
step-requires c =
    let w : WorldState = state_of c.self.inside in
    let P : WorldState → Type 0 = λ v. IsSomeAnd (session_of c.args.name.now v) (IsNextOf c.args.commit (length v.commits)) in
    let next : P w = subst P (sym c.self.view_is) c.requires.next in
    let allowed = next_is_allowed w c.args.name.now c.args.commit c.self.invariant next in
    c.listed_moves_are_defined.ensures.listed w.ctx w.config allowed.0 c.args.commit.mv c.len-tables.ensures.formed allowed.1.listed

pub invariant_of-self-2 : goal.invariant_of-self-2
invariant_of-self-2 c =
    let w : WorldState = state_of c.self.inside in
    let P : WorldState → Type 0 = λ v. IsSomeAnd (session_of c.args.name.now v) (IsNextOf c.args.commit (length v.commits)) in
    let next : P w = subst P (sym c.self.view_is) c.requires.next in
    next_is_kept w c.args.name.now c.args.commit _ c.self.invariant next
    (committed w c.args.name.now c.args.commit c.in_ok-config.config c.push.new.self c.advance.new.self c.len.result
    c.in_ok-config.ensures.step c.in_ok-push.ensures.ok c.len.ensures c.requires.named c.advance.ensures next)

pub returns-clause-kept : goal.returns-clause-kept
returns-clause-kept c = invariant_of-self-2 c
