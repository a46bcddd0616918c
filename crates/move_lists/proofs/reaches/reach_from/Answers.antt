use Rattle.std.proofs.Common.{refl, subst, ◌∙◌, arith}
use Rattle.move_lists.specs.Reaches.{AreNoted}
use Rattle.move_lists.proofs.ReachableMoves.{can_spread, reached_all, reached_begun, reached_more, spread_before}
use Rattle.move_lists.proofs.reaches.reach_from.Goals as goal

pub loop-i-init : goal.loop-i-init
loop-i-init g c =
    let q = c.args.question.now in
    record {
      kinds = c.requires.kinds;
      rules = refl;
      reached = reached_begun q c.args.beside.now c.args.first.items c.note_all.new.self
          (subst (λ l. AreNoted c.args.beside.now l c.note_all.new.self c.args.first.items 0) c.new-reached.ensures c.in_ok-note_all.ensures);
    }

pub spread-requires-clause-ready : goal.spread-requires-clause-ready
spread-requires-clause-ready g c =
    let q = c.args.question.now in
    let len = c.len.ensures.len in
    let small = c.len.ensures.small in
    let lt = c.loop-i-test.true in
    can_spread q c.args.beside.now c.args.first.items c.loop-i.reached c.loop-i.i c.loop-i.invariant.reached
    (omega (arith, len, lt)) (omega (arith, len, small)) c.requires.first
    (λ m is. c.listed_moves_are_defined.ensures.listed q.ctx.now q.cur.now q.goal.now m c.len-tables.ensures.formed is)

pub spread-requires-clause-before : goal.spread-requires-clause-before
spread-requires-clause-before g c =
    spread_before c.args.question.now c.args.beside.now c.args.first.items c.loop-i.reached c.loop-i.i c.loop-i.invariant.reached

pub loop-i-preserved : goal.loop-i-preserved
loop-i-preserved g c =
    let q = c.args.question.now in
    record {
      kinds = c.spread.ensures.kinds;
      rules = c.spread.ensures.rules ∙ c.loop-i.invariant.rules;
      reached = reached_more q c.args.beside.now c.args.first.items c.loop-i.reached c.spread.new.self c.loop-i.i
          c.loop-i.invariant.reached c.in_ok-spread.ensures.spread;
    }

pub returns-clause-all : goal.returns-clause-all
returns-clause-all g c =
    let q = c.args.question.now in
    let len = c.len.ensures.len in
    let end = c.loop-i-test.false in
    reached_all q c.args.beside.now c.args.first.items c.loop-i.reached c.loop-i.i c.loop-i.invariant.reached
    (omega (arith, len, end)) c.requires.closed
