use Rattle.std.proofs.Common.{[], refl, sym, subst, ◌∙◌, true≢false}
use Rattle.move_lists.specs.Reaches.{AreNoted, IsSpread, IsSpreadBefore}
use Rattle.move_lists.proofs.ReachableMoves.{below_spreads, spread_before, within_all, within_begun, within_more}
use Rattle.move_lists.proofs.reaches.reach_within.Goals as goal

pub loop-alloc-init : goal.loop-alloc-init
loop-alloc-init g c =
    let q = c.args.question.now in
    record {
      kinds = c.requires.kinds;
      rules = refl;
      within = within_begun q c.args.first.items c.args.limit c.note_all.new.self
          (subst (λ l. AreNoted [] l c.note_all.new.self c.args.first.items 0) c.new-reached.ensures
          (subst (λ l. AreNoted l c.new-reached.result c.note_all.new.self c.args.first.items 0) c.new-none.ensures c.in_ok-note_all.ensures));
    }

pub spread-requires-clause-ready : goal.spread-requires-clause-ready
spread-requires-clause-ready g c =
    let q = c.args.question.now in
    let reached = c.loop-alloc.invariant.within.reached in
    let below = c.is_below.ensures.below.0 c.loop-alloc-test.true in
    below_spreads q c.args.first.items c.loop-alloc.reached c.loop-alloc.i c.args.limit reached below (c.is_below.ensures.small c.loop-alloc-test.true) c.requires.first
    (λ m is. c.listed_moves_are_defined.ensures.listed q.ctx.now q.cur.now q.goal.now m c.len-tables.ensures.formed is)

pub spread-requires-clause-before : goal.spread-requires-clause-before
spread-requires-clause-before g c =
    subst (λ l. IsSpreadBefore c.args.question.now l c.loop-alloc.reached c.loop-alloc.i) (sym c.new-none.ensures)
    (spread_before c.args.question.now [] c.args.first.items c.loop-alloc.reached c.loop-alloc.i c.loop-alloc.invariant.within.reached)

pub loop-alloc-preserved : goal.loop-alloc-preserved
loop-alloc-preserved g c =
    let q = c.args.question.now in
    record {
      kinds = c.spread.ensures.kinds;
      rules = c.spread.ensures.rules ∙ c.loop-alloc.invariant.rules;
      within = within_more q c.args.first.items c.args.limit c.loop-alloc.reached c.spread.new.self c.loop-alloc.i
          c.loop-alloc.invariant.within (c.is_below.ensures.below.0 c.loop-alloc-test.true)
          (subst (λ l. IsSpread q l c.loop-alloc.reached c.spread.new.self c.loop-alloc.i) c.new-none.ensures c.in_ok-spread.ensures.spread);
    }

pub returns-clause-all : goal.returns-clause-all
returns-clause-all g c =
    let q = c.args.question.now in
    within_all q c.args.first.items c.args.limit c.loop-alloc.reached c.loop-alloc.i c.loop-alloc.invariant.within
    (λ below. true≢false (sym (c.is_below.ensures.below.1 below) ∙ c.loop-alloc-test.false))
