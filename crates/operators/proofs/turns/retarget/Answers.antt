use Rattle.gcu_requests.specs.ReadScripts.{patched_all}
use Rattle.sessions.specs.Turns.{Refusal, Towards}
use Rattle.sessions.specs.Worlds.{session_of}
use Rattle.operators.proofs.ScriptRuns.{isnt_there, retarget_told, unknown_told}
use Rattle.operators.proofs.turns.retarget.Goals as goal

-- it isn't there
pub returns-then-not-knows-clause-turn : goal.returns-then-not-knows-clause-turn
returns-then-not-knows-clause-turn g c =
    let absent = isnt_there (session_of c.args.name.now c.args.world.now)
    c.knows.result c.if-not-knows.true (rw c.as_str.ensures.text at c.knows.ensures.knows.1) in
    unknown_told (patched_all c.args.patches.now) c.args.budget c.args.world.now c.args.name.now c.args.file.now absent
    (c.refusals_are_turns.ensures.unknown_retarget c.args.world.now c.args.name.now (Refusal 0) absent)

pub aim_of_file-requires-clause-start : goal.aim_of_file-requires-clause-start
aim_of_file-requires-clause-start g c = rw (c.ctx.ensures.ctx, c.config.ensures.config) c.config.ensures.valid

-- it has another goal
pub returns-in-Towards-clause-turn : goal.returns-in-Towards-clause-turn
returns-in-Towards-clause-turn g c =
    let aim = rw (c.ctx.ensures.ctx, c.config.ensures.config, c.in-Towards.is) at c.in_ok-goal.ensures.aim in
    retarget_told (patched_all c.args.patches.now)
    c.args.budget c.args.world.now c.args.name.now c.args.file.now (Towards c.in-Towards.goal c.in-Towards.plan)
    c.retarget.result c.retarget.new.self
    aim (rw c.as_str-in-Towards.ensures.text at c.retarget.ensures.turn)

-- the patch is refused
pub returns-in-Refusal-clause-turn : goal.returns-in-Refusal-clause-turn
returns-in-Refusal-clause-turn g c =
    let aim = rw (c.ctx.ensures.ctx, c.config.ensures.config, c.in-Refusal.is) at c.in_ok-goal.ensures.aim in
    let there = rw c.as_str.ensures.text at (c.knows.ensures.knows.0 c.if-not-knows.false) in (
      Refusal c.in-Refusal.number,
      (λ some. aim),
      c.refusals_are_turns.ensures.refused_retarget c.args.world.now c.args.name.now c.in-Refusal.number there,
    )
