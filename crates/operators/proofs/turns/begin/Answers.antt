use Rattle.gcu_requests.specs.ReadScripts.{patched_all}
use Rattle.sessions.specs.Turns.{Refusal, Towards}
use Rattle.sessions.specs.Worlds.{session_of}
use Rattle.operators.proofs.ScriptRuns.{begin_told, exists_told, isnt_there}
use Rattle.operators.proofs.turns.begin.Goals as goal

-- it is there
pub returns-then-knows-clause-turn : goal.returns-then-knows-clause-turn
returns-then-knows-clause-turn g c =
    let there = rw c.as_str.ensures.text at (c.knows.ensures.knows.0 c.if-knows.true) in
    exists_told (patched_all c.args.patches.now) c.args.budget c.args.world.now c.args.name.now c.args.file.now there
    (c.refusals_are_turns.ensures.exists c.args.world.now c.args.name.now (Refusal 0) there)

pub aim_of_file-requires-clause-start : goal.aim_of_file-requires-clause-start
aim_of_file-requires-clause-start g c = rw (c.ctx.ensures.ctx, c.config.ensures.config) c.config.ensures.valid

-- it begins
pub returns-in-Towards-clause-turn : goal.returns-in-Towards-clause-turn
returns-in-Towards-clause-turn g c =
    let aim = rw (c.ctx.ensures.ctx, c.config.ensures.config, c.in-Towards.is) at c.in_ok-goal.ensures.aim in
    begin_told (patched_all c.args.patches.now)
    c.args.budget c.args.world.now c.args.name.now c.args.file.now (Towards c.in-Towards.goal c.in-Towards.plan)
    c.begin.result c.begin.new.self
    aim (rw c.as_str-in-Towards.ensures.text at c.begin.ensures.turn)

-- the patch is refused
pub returns-in-Refusal-clause-turn : goal.returns-in-Refusal-clause-turn
returns-in-Refusal-clause-turn g c =
    let aim = rw (c.ctx.ensures.ctx, c.config.ensures.config, c.in-Refusal.is) at c.in_ok-goal.ensures.aim in
    let absent = isnt_there (session_of c.args.name.now c.args.world.now)
    c.knows.result c.if-knows.false (rw c.as_str.ensures.text at c.knows.ensures.knows.1) in (
      Refusal c.in-Refusal.number,
      (λ none. aim),
      c.refusals_are_turns.ensures.refused_begin c.args.world.now c.args.name.now c.in-Refusal.number absent,
    )
