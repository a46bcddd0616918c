use Rattle.std.proofs.lemmas.Result.{IfOk-weaker}
use Rattle.yang_text.specs.Statements.{declaration}
use Rattle.yang_must.specs.Musts.{if_must, if_leaf}
use Rattle.yang_must.specs.Spots.{shape, leaf}
use Rattle.yang_must.proofs.LeastFaults.{least_of-two}
use Rattle.yang_must.proofs.must_faults.note_in_shape.Goals as goal

pub returns : goal.returns
returns c =
    let x = c.args.owner.now in
    let t = c.args.table.now in
    let s = c.args.shape.now in
    let d = declaration c.args.statement.now in
    IfOk-weaker c.note_if_leaf.result _ _
    (λ _ below read reads.
    least_of-two c.args.least.now c.note_if_must.new.least c.note_if_leaf.new.least
    (if_must read c.args.tree.now x (shape x.statement t s) d)
    (if_leaf read c.args.tree.now x (leaf x.statement t s d) d)
    (c.in_ok-note_if_must.ensures read reads) (below read reads))
    c.note_if_leaf.ensures
