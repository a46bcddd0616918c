use Rattle.std.proofs.Common.{sym, subst, arith}
use Rattle.move_core.specs.Contexts.{IsValidIn, rulebook}
use Rattle.move_lists.specs.Firsts.{AreFirstsOf}
use Rattle.move_lists.specs.Parts.{AreListedIn}
use Rattle.plan_search.specs.Kits.{move_problem}
use Rattle.plan_search.specs.Problems.{IsPart}
use Rattle.plan_search.proofs.FirstPart.{part_without_leading}
use Rattle.plan_search.proofs.Parts.{listed_part}
use Rattle.plan_search.proofs.planning.KitMovesExpanding.list.Goals as goal

pub listed_in_part-requires-clause-goal : goal.listed_in_part-requires-clause-goal
listed_in_part-requires-clause-goal g c = subst (IsValidIn c.args.self.now.ctx.now) (sym c.config-goal.ensures) c.requires.ready.0.1

pub listed_in_part-requires-clause-firsts : goal.listed_in_part-requires-clause-firsts
listed_in_part-requires-clause-firsts g c =
    let s = c.args.self.now in
    subst (λ d. AreFirstsOf (rulebook s.ctx.now) s.start.now c.args.cur.now d c.args.firsts.now) (sym c.config-goal.ensures) c.requires.firsts

-- part 1 is made without the move that was tried
pub returns-then-part-eq-LEADING-clause-part : goal.returns-then-part-eq-LEADING-clause-part
returns-then-part-eq-LEADING-clause-part g c =
    let s = c.args.self.now in
    let cur = c.args.cur.now in
    let p = move_problem s.ctx.now s.start.now s.goal.now in
    let moves = c.in_ok-moves.moves.items in
    let are = subst (λ d. AreListedIn (rulebook s.ctx.now) s.start.now cur d c.args.part moves) c.config-goal.ensures c.in_ok-moves.ensures.listed in
    let first = subst (λ k. AreListedIn (rulebook s.ctx.now) s.start.now cur s.goal.now k moves) c.if-part-eq-LEADING.true are in
    subst (λ k. IsPart p cur k c.but_first.result.items) (sym c.if-part-eq-LEADING.true)
    (subst (IsPart p cur 1) (sym c.but_first.ensures)
    (part_without_leading s.ctx.now s.start.now s.goal.now cur moves first
    (listed_part s.ctx.now s.start.now s.goal.now cur 1 moves (omega arith) first)))

pub returns-else-part-eq-LEADING-clause-part : goal.returns-else-part-eq-LEADING-clause-part
returns-else-part-eq-LEADING-clause-part g c =
    let s = c.args.self.now in
    let cur = c.args.cur.now in
    let moves = c.in_ok-moves.moves.items in
    listed_part s.ctx.now s.start.now s.goal.now cur c.args.part moves c.requires.some
    (subst (λ d. AreListedIn (rulebook s.ctx.now) s.start.now cur d c.args.part moves) c.config-goal.ensures c.in_ok-moves.ensures.listed)
