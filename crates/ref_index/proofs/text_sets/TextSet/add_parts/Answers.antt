use borrow.Author.Count.{below_more}
use Rattle.std.proofs.Common.{◌≡◌, inl, inr, ℕ, List, length, Some, slice_get, sym, ◌∙◌, arith}
use Rattle.std.proofs.lemmas.Iterator.Consumers.{YieldsList-end, YieldsList-turn}
use Rattle.std.proofs.lemmas.Iterator.Splits.{YieldsList-from_str_split}
use Rattle.std.proofs.lemmas.List.{length_push}
use Rattle.conf_doc.proofs.Edits.{same_Some}
use Rattle.key_split.specs.Key.{key_parts}
use Rattle.ref_index.specs.Texts.{Has}
use Rattle.ref_index.proofs.NamedEntries.{there_at}
use Rattle.ref_index.proofs.text_sets.TextSet.add_parts.Goals as goal

pub loop-part-preserved : goal.loop-part-preserved
loop-part-preserved c =
    let parts = key_parts c.args.key.now in
    let n = length c.loop-part.yielded in
    let turn =
    YieldsList-turn (YieldsList-from_str_split {s = c.into_iter-part-iterator.result} 124 c.args.key.now (omega arith) (cc) (cc) (cc)) c.loop-part.yielded _ c.loop-part.yielded_by _ _ c.in-Some.part
    c.in-Some.is c.next.ensures.steps in
    let there : slice_get parts n ≡ Some c.in-Some.part.now = there_at parts n c.in-Some.part.now turn.0 turn.1 in
    let more = length_push c.loop-part.yielded c.in-Some.part in
    let adds = c.in_ok-add.ensures in (
      λ s has. adds s (inl (c.loop-part.invariant.0 s has)),
      λ j below.
          below_more (λ j. (s : List ℕ) → slice_get parts j ≡ Some s → Has c.add.new.self s) n
          (λ j lt s at. adds s (inl (c.loop-part.invariant.1 j lt s at)))
          (λ s at. adds s (inr (same_Some c.in-Some.part.now s (sym there ∙ at))))
          j (omega (arith, below, more)),
    )

pub returns : goal.returns
returns c = λ s.
    let parts = key_parts c.args.key.now in
    let end =
    YieldsList-end (YieldsList-from_str_split {s = c.into_iter-part-iterator.result} 124 c.args.key.now (omega arith) (cc) (cc) (cc)) c.loop-part.yielded _ c.loop-part.yielded_by _ _
    c.in-None.is c.next.ensures.steps in
    λ either. elim either [
      | inl has ↦ c.loop-part.invariant.0 s has
      | inr part ↦ c.loop-part.invariant.1 part.0 (omega (arith, part.1, end.1)) s (there_at parts part.0 s part.1 (sym part.2))
    ]
