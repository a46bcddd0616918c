use Rattle.std.proofs.Common.{ℕ, ◌∷◌, [], map, Ok, ap, sym, ◌∙◌, rules, length}
use Rattle.std.specs.List.{enumerate_from}
use Rattle.std.proofs.lemmas.List.{map-append}
use Rattle.std.proofs.lemmas.Iterator.Adapters.{YieldsList-from_vec}
use Rattle.std.proofs.lemmas.Iterator.Consumers.{YieldsList-at, YieldsList-from_enumerate, YieldsList-so_far, YieldsList-turn, YieldsList-end}
use Rattle.std.proofs.lemmas.Result.{err_from_is_err_and}
use Rattle.serde_json.specs.declared.value.Value.{Value}
use Rattle.patch_core.specs.Operation.{operation_of}
use Rattle.patch_core.proofs.PatchElements.{all_read-enumerate, all_read-push, all_read-pairs, fails_first}
use Rattle.patch_core.proofs.reading.read_operations.Goals as goal

pub returns-in_err-op : goal.returns-in_err-op
returns-in_err-op c =
    let elements = c.args.elements in
    let vec = YieldsList-from_vec {s = c.into_iter.result} elements.items c.into_iter.ensures.rest (c.into_iter.ensures.len ∙ elements.ok.0) in
    let walk = YieldsList-at {t = c.enumerate-index-items.result} c.into_iter-index-iterator.ensures.into_iter_gives (YieldsList-from_enumerate {s = c.enumerate-index-items.result} (YieldsList-at {t = c.into_iter.result} c.enumerate-index-items.ensures.source vec) c.enumerate-index-items.ensures.count) in
    let item : ℕ × Value = (c.in-Some.index, c.in-Some.element) in
    let turn = YieldsList-turn walk c.loop-index.yielded _ c.loop-index.yielded_by _ c.next.new.self item c.in-Some.is c.next.ensures.steps in
    let so_far = YieldsList-so_far walk c.loop-index.yielded _ c.loop-index.yielded_by in
    let p = err_from_is_err_and c.from_residual.result c.from_residual.ensures.1 in
    rw (p.1, p.2, ← all_read-enumerate 0 elements.items)
    (fails_first _ (enumerate_from 0 elements.items) (length c.loop-index.yielded) item (map operation_of c.loop-index.ops) turn.0 turn.1 (all_read-pairs c.loop-index.yielded _ so_far ∙ c.loop-index.invariant.2) c.in_err-op.ensures)

pub loop-index-preserved : goal.loop-index-preserved
loop-index-preserved c = (
  search rules,
  search rules,
  all_read-push c.loop-index.yielded (c.in-Some.index, c.in-Some.element) (map operation_of c.loop-index.ops) (operation_of c.in_ok-op.op) c.loop-index.invariant.2 c.in_ok-op.ensures
      ∙ ap Ok (sym (map-append operation_of c.loop-index.ops (c.in_ok-op.op ∷ []))) ∙ ap (λ ops. Ok (map operation_of ops)) (sym c.in_ok-push.ensures.ok),
)

pub returns : goal.returns
returns c =
    let elements = c.args.elements in
    let vec = YieldsList-from_vec {s = c.into_iter.result} elements.items c.into_iter.ensures.rest (c.into_iter.ensures.len ∙ elements.ok.0) in
    let walk = YieldsList-at {t = c.enumerate-index-items.result} c.into_iter-index-iterator.ensures.into_iter_gives (YieldsList-from_enumerate {s = c.enumerate-index-items.result} (YieldsList-at {t = c.into_iter.result} c.enumerate-index-items.ensures.source vec) c.enumerate-index-items.ensures.count) in
    let end = YieldsList-end walk c.loop-index.yielded _ c.loop-index.yielded_by _ c.next.new.self c.in-None.is c.next.ensures.steps in
    sym (all_read-enumerate 0 elements.items) ∙ all_read-pairs c.loop-index.yielded _ end.0 ∙ c.loop-index.invariant.2
