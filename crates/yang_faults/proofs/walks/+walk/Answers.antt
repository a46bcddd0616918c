use Rattle.std.proofs.Common.{◌≤◌, ap, ◌∙◌, sym, map, take_all, arith, List, refl}
use Rattle.std.specs.List.{flat_map}
use Rattle.yang_text.specs.Declarations.{Declaration, block_of, weight, total_weight}
use Rattle.yang_text.specs.Falls.{block_weighs}
use Rattle.yang_text.specs.Statements.{declaration}
use Rattle.yang_scope.specs.Faults.{least_of}
use Rattle.yang_faults.specs.Own.{sentence_faults}
use Rattle.yang_faults.specs.Walks.{below_faults, block_faults}
use Rattle.yang_faults.proofs.FaultLists.{block_faults-flat, least_of-two, least-more}
use Rattle.yang_values.proofs.Weights.{weight-at}
use Rattle.yang_faults.proofs.walks.+walk.Goals as goal

pub note_block-note_below-requires : goal.note_block-note_below-requires
note_block-note_below-requires g t c κs within =
    let lighter : weight (declaration c.statement-item.result) ≤ total_weight c.args.block.now =
    rw c.items-statement-items.ensures at (weight-at c.items-statement-items.result.now c.loop-statement.statement-index c.statement-item.result c.loop-statement-test.true c.statement-item.is) in
    (omega arith, within)

pub note_block-loop-statement-init : goal.note_block-loop-statement-init
note_block-loop-statement-init g t c = λ tests decide. refl

pub note_block-loop-statement-preserved : goal.note_block-loop-statement-preserved
note_block-loop-statement-preserved g t c = λ tests decide.
    least-more declaration (below_faults (g.S.Scope.knows c.args.scope.now) (g.S.Scope.settles c.args.scope.now) (g.S.Scope.named c.args.scope.now tests) c.args.file c.args.kind)
    c.items-statement-items.result.now c.loop-statement.statement-index c.statement-item.result c.loop-statement-test.true c.statement-item.is
    c.args.least.now c.loop-statement.least c.note_below.new.least
    (c.loop-statement.invariant tests decide)
    (c.in_ok-note_below.ensures tests decide)

pub note_block-returns : goal.note_block-returns
note_block-returns g t c = λ tests decide.
    let knows = g.S.Scope.knows c.args.scope.now in
    let settles = g.S.Scope.settles c.args.scope.now in
    let named = g.S.Scope.named c.args.scope.now tests in
    let below = below_faults knows settles named c.args.file c.args.kind in
    c.loop-statement.invariant tests decide
    ∙ ap (λ (ds : List Declaration). least_of c.args.least.now (flat_map below ds))
    (ap (map declaration) (take_all c.loop-statement.statement-index c.items-statement-items.result.now c.loop-statement-test.false) ∙ c.items-statement-items.ensures)
    ∙ ap (least_of c.args.least.now) (sym (block_faults-flat knows settles named c.args.file c.args.block.now c.args.kind))

pub note_statement-note_block-requires : goal.note_statement-note_block-requires
note_statement-note_block-requires g t c κs within = (omega (arith, block_weighs c.args.statement.now.block), within)

pub note_statement-returns : goal.note_statement-returns
note_statement-returns g t c = λ tests decide.
    let s = c.args.statement.now in
    let knows = g.S.Scope.knows c.args.scope.now in
    let settles = g.S.Scope.settles c.args.scope.now in
    let named = g.S.Scope.named c.args.scope.now tests in
    least_of-two c.args.least.now c.note_sentences.new.least c.note_block.new.least
    (sentence_faults knows named c.args.file c.args.kind (declaration s))
    (block_faults knows settles named c.args.file (block_of s.block) c.args.kind)
    (c.in_ok-note_sentences.ensures tests decide)
    (c.in_ok-note_block.ensures tests decide)
