use Rattle.move_core.specs.Contexts.{rulebook}
use Rattle.move_core.specs.Generated.{IsGenerated}
use Rattle.move_lists.specs.Questions.{IsOffered}
use Rattle.move_lists.proofs.BoxResults.{IsAll, five_generated, gathered_five}
use Rattle.move_lists.proofs.asking.generated_moves.Goals as goal

pub returns-clause-each : goal.returns-clause-each
returns-clause-each g c =
    let q = c.args.question.now in
    let all : IsAll (IsOffered q) c.moves_at-5.new.out.items =
    gathered_five (IsGenerated (rulebook q.ctx.now) q.cur.now q.goal.now) (IsOffered q) (λ k a h. (k, h))
    (five_generated (rulebook q.ctx.now) q.cur.now q.goal.now) c.new-out.result.items c.moves_at.new.out.items
    c.moves_at-2.new.out.items c.moves_at-3.new.out.items c.moves_at-4.new.out.items c.moves_at-5.new.out.items c.new-out.ensures.items
    c.in_ok-moves_at.ensures.ok c.in_ok-moves_at-2.ensures.ok c.in_ok-moves_at-3.ensures.ok c.in_ok-moves_at-4.ensures.ok c.in_ok-moves_at-5.ensures.ok in
    all.each

pub returns-clause-all : goal.returns-clause-all
returns-clause-all g c =
    let q = c.args.question.now in
    let all : IsAll (IsOffered q) c.moves_at-5.new.out.items =
    gathered_five (IsGenerated (rulebook q.ctx.now) q.cur.now q.goal.now) (IsOffered q) (λ k a h. (k, h))
    (five_generated (rulebook q.ctx.now) q.cur.now q.goal.now) c.new-out.result.items c.moves_at.new.out.items
    c.moves_at-2.new.out.items c.moves_at-3.new.out.items c.moves_at-4.new.out.items c.moves_at-5.new.out.items c.new-out.ensures.items
    c.in_ok-moves_at.ensures.ok c.in_ok-moves_at-2.ensures.ok c.in_ok-moves_at-3.ensures.ok c.in_ok-moves_at-4.ensures.ok c.in_ok-moves_at-5.ensures.ok in
    all.all
