use Rattle.std.specs.Prelude.{◌≡◌, List, Result, Ok, Err, IfErr, IfOk, IsOk, OnOk}
use Rattle.std.proofs.Common.{ap, ◌∙◌, arith}
use Rattle.conf_doc.specs.Document.{Document}
use Rattle.conf_doc.specs.Trees.{document}
use Rattle.conf_doc.specs.declared.trees.Tree.{Tree}
use Rattle.host_core.specs.Answers.{Gives}
use Rattle.host_core.specs.declared.errors.Memory.{Memory}
use Rattle.patch_core.specs.Edits.{grown_list}
use Rattle.patch_core.specs.Indexes.{index}
use Rattle.patch_core.specs.Measures.{IsMeasured}
use Rattle.patch_core.specs.Stops.{stop_fault}
use Rattle.patch_core.specs.declared.errors.FailWhy.{FailWhy}
use Rattle.patch_core.specs.declared.errors.Stop.{Stop}
use Rattle.patch_core.specs.declared.errors.Stop.TheVariants.{Memory as StopMemory}
use Rattle.patch_core.specs.declared.node_edits.Change.{Change}
use Rattle.patch_core.specs.declared.node_edits.Edit.TheVariants.{Add}
use Rattle.patch_core.proofs.EditMeasures.{measured_insert, measured_push}
use Rattle.patch_core.proofs.Nodes.{with_new_at, with_new_end, with_new_dash, with_new_past, listed}
use Rattle.patch_core.proofs.node_edits.add_item.Goals as goal

-- the answer of a list, where the item was put into it
left_given : (r : Result Change Stop) (put : Result (Unit {0}) Memory) (es fs : List Document) (answer : Result Document FailWhy) → IfOk r (λ c. IsOk put × (c ≡ grown_list es)) → IfErr r (λ stop. stop ≡ StopMemory) → OnOk put (es ≡ fs) → answer ≡ Ok (listed fs) → Gives (λ (c : Change). document c.tree) stop_fault r answer
left_given (Ok c) (Ok u) es fs answer given memory set is = rw (given.1, set) is
left_given (Ok c) (Err m) es fs answer given memory set is = absurd (cc given.0)
left_given (Err stop) put es fs answer given memory set is = rw memory tt

measured_given : (r : Result Change Stop) (put : Result (Unit {0}) Memory) (es fs : List Document) (value : Tree) (before : Document) → IfOk r (λ c. IsOk put × (c ≡ grown_list es)) → OnOk put (es ≡ fs) → (es ≡ fs → IsMeasured (Add value) (grown_list es) 1 before) → IfOk r (λ c. IsMeasured (Add value) c 1 before)
measured_given (Ok c) (Ok u) es fs value before given set measured = rw given.1 (measured set)
measured_given (Ok c) (Err m) es fs value before given set measured = absurd (cc given.0)
measured_given (Err stop) put es fs value before given set measured = tt

pub returns-in-At : goal.returns-in-At
returns-in-At c =
    let given = c.give_list.ensures in
    let put = c.insert-put.ensures.ok in
    record {
      left = left_given c.give_list.result c.insert-put.result _ _ _ given.given given.memory put (with_new_at c.args.token.now (document c.args.value) c.args.items c.in-At.i c.in-At.ensures.0 (omega (arith, c.len.ensures, c.in-At.ensures.1)));
      measured = measured_given c.give_list.result c.insert-put.result _ _ c.args.value _ given.given put (measured_insert c.args.value c.args.items c.insert-put.new.self c.in-At.i);
    }

pub returns-in-End : goal.returns-in-End
returns-in-End c =
    let given = c.give_list-in-End.ensures in
    let put = c.push-put.ensures.ok in
    record {
      left = left_given c.give_list-in-End.result c.push-put.result _ _ _ given.given given.memory put (with_new_end c.args.token.now (document c.args.value) c.args.items (c.in-End.ensures ∙ ap index c.len.ensures));
      measured = measured_given c.give_list-in-End.result c.push-put.result _ _ c.args.value _ given.given put (measured_push c.args.value c.args.items c.push-put.new.self);
    }

pub returns-in-Dash : goal.returns-in-Dash
returns-in-Dash c =
    let given = c.give_list-in-Dash.ensures in
    let put = c.push-put-in-Dash.ensures.ok in
    record {
      left = left_given c.give_list-in-Dash.result c.push-put-in-Dash.result _ _ _ given.given given.memory put (with_new_dash c.args.token.now (document c.args.value) c.args.items c.in-Dash.ensures);
      measured = measured_given c.give_list-in-Dash.result c.push-put-in-Dash.result _ _ c.args.value _ given.given put (measured_push c.args.value c.args.items c.push-put-in-Dash.new.self);
    }

pub returns-in-Past-clause-left : goal.returns-in-Past-clause-left
returns-in-Past-clause-left c = with_new_past c.args.token.now (document c.args.value) c.args.items c.in-Past.ensures.0 c.in-Past.ensures.1 (omega (arith, c.len.ensures, c.in-Past.ensures.2))
