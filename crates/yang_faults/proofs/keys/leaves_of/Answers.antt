use Rattle.std.proofs.Common.{ℕ, List, map, take, take_all, sym, subst}
use Rattle.std.specs.List.{flat_map}
use Rattle.yang_text.specs.Statements.{declaration}
use Rattle.yang_text.specs.declared.statements.Statement.{Statement}
use Rattle.yang_faults.specs.Keys.{leaf_name}
use Rattle.yang_faults.specs.NameSets.{IsSetOf}
use Rattle.yang_faults.proofs.Steps.{flat_map-one_more}
use Rattle.yang_faults.proofs.keys.leaves_of.Goals as goal

pub loop-statement-preserved : goal.loop-statement-preserved
loop-statement-preserved c =
    let ss = c.args.statements.now in
    let i = c.loop-statement.statement-index in
    let P : List (List ℕ) → Type 0 = λ ns. IsSetOf c.add_leaf.new.leaves.names ns in
    subst P (sym (flat_map-one_more ss i c.statement-item.result c.loop-statement-test.true c.statement-item.is declaration leaf_name))
    (c.in_ok-add_leaf.ensures (flat_map leaf_name (map declaration (take i ss))) c.loop-statement.invariant)

pub returns : goal.returns
returns c =
    let P : List Statement → Type 0 = λ ss. IsSetOf c.loop-statement.leaves.names (flat_map leaf_name (map declaration ss)) in
    subst P (take_all c.loop-statement.statement-index c.args.statements.now c.loop-statement-test.false) c.loop-statement.invariant
