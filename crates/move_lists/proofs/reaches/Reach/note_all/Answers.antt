use Rattle.std.proofs.Common.{sym, subst, ◌∙◌}
use Rattle.std.proofs.lemmas.List.{map-id}
use Rattle.std.proofs.lemmas.Iterator.Adapters.{YieldsList-from_vec}
use Rattle.std.proofs.lemmas.Iterator.Consumers.{YieldsList-end}
use Rattle.move_lists.specs.Reaches.{AreNoted}
use Rattle.move_lists.proofs.ReachableMoves.{noted_more, noted_none}
use Rattle.move_lists.proofs.reaches.Reach.note_all.Goals as goal

pub loop-mv-init : goal.loop-mv-init
loop-mv-init c = noted_none c.args.beside.now c.args.self.now c.args.depth

pub loop-mv-preserved : goal.loop-mv-preserved
loop-mv-preserved c =
    noted_more c.args.beside.now c.args.self.now c.loop-mv.self c.note.new.self c.loop-mv.yielded c.in-Some.mv c.args.depth
    c.loop-mv.invariant c.in_ok-note.ensures

pub returns : goal.returns
returns c =
    let same = c.into_iter-mv-iterator.ensures.into_iter_gives in
    let all = YieldsList-from_vec c.args.moves.items same.0 (same.1 ∙ c.args.moves.ok.0) in
    let end = YieldsList-end all c.loop-mv.yielded c.loop-mv.mv-iterator c.loop-mv.yielded_by c.next.result c.next.new.self c.in-None.is c.next.ensures.steps in
    subst (λ ms. AreNoted c.args.beside.now c.args.self.now c.loop-mv.self ms c.args.depth) (sym (map-id c.loop-mv.yielded) ∙ end.0) c.loop-mv.invariant
