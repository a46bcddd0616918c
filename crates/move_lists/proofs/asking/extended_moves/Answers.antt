use Rattle.std.proofs.Common.{◌⊎◌, inl, inr, Bool, IsTrue, List, All}
use Rattle.std.specs.List.{Contains}
use Rattle.move_core.specs.Contexts.{rulebook}
use Rattle.move_core.specs.Extensions.{IsExtension, IsUpper}
use Rattle.move_core.specs.declared.moves.Move.{Move}
use Rattle.move_lists.specs.Questions.{FollowsIn}
use Rattle.move_lists.specs.declared.asking.Question.{Question}
use Rattle.move_lists.proofs.BoxResults.{first_extended, four_extended, gathered_after}
use Rattle.move_lists.proofs.asking.extended_moves.Goals as goal

-- what the place above becomes, where it is known
abbrev IsKnown : Bool → Question → Move → Move → Type 0
IsKnown b q mv m = IsTrue b × IsUpper q.goal.now mv m

known_or : (b : Bool) (q : Question) (mv m : Move) (ms : List Move) → IsTrue b ⊎ Contains ms m → IsUpper q.goal.now mv m
    → IsKnown b q mv m ⊎ Contains ms m
known_or b q mv m ms (inl t) is = inl (t, is)
known_or b q mv m ms (inr h) is = inr h

pub returns-clause-each : goal.returns-clause-each
returns-clause-each g c =
    let q = c.args.question.now in
    let book = rulebook q.ctx.now in
    let mv = c.args.mv.now in
    let all : All (FollowsIn q mv) c.extend_at-3.new.out.items
    × ((m : Move) → FollowsIn q mv m → IsKnown c.args.is_above_known q mv m ⊎ Contains c.extend_at-3.new.out.items m) =
    gathered_after (λ k x. IsExtension book q.cur.now q.goal.now k mv x) (FollowsIn q mv) (λ k a h. (k, h)) (IsKnown c.args.is_above_known q mv)
    (four_extended book q.cur.now q.goal.now mv) c.in_ok-out.out.items c.extend_at.new.out.items c.extend_at-2.new.out.items c.extend_at-3.new.out.items
    c.in_ok-out.ensures.each
    (λ m h. known_or c.args.is_above_known q mv m c.in_ok-out.out.items
    (c.in_ok-out.ensures.all m (first_extended book q.cur.now q.goal.now mv m h)) (first_extended book q.cur.now q.goal.now mv m h))
    c.in_ok-extend_at.ensures.ok c.in_ok-extend_at-2.ensures.ok c.in_ok-extend_at-3.ensures.ok in
    all.0

pub returns-clause-all : goal.returns-clause-all
returns-clause-all g c =
    let q = c.args.question.now in
    let book = rulebook q.ctx.now in
    let mv = c.args.mv.now in
    let all : All (FollowsIn q mv) c.extend_at-3.new.out.items
    × ((m : Move) → FollowsIn q mv m → IsKnown c.args.is_above_known q mv m ⊎ Contains c.extend_at-3.new.out.items m) =
    gathered_after (λ k x. IsExtension book q.cur.now q.goal.now k mv x) (FollowsIn q mv) (λ k a h. (k, h)) (IsKnown c.args.is_above_known q mv)
    (four_extended book q.cur.now q.goal.now mv) c.in_ok-out.out.items c.extend_at.new.out.items c.extend_at-2.new.out.items c.extend_at-3.new.out.items
    c.in_ok-out.ensures.each
    (λ m h. known_or c.args.is_above_known q mv m c.in_ok-out.out.items
    (c.in_ok-out.ensures.all m (first_extended book q.cur.now q.goal.now mv m h)) (first_extended book q.cur.now q.goal.now mv m h))
    c.in_ok-extend_at.ensures.ok c.in_ok-extend_at-2.ensures.ok c.in_ok-extend_at-3.ensures.ok in
    all.1
