use borrow.Author.Count.{below_more}
use Rattle.std.proofs.Common.{◌≡◌, ℕ, List, length, map, Some, slice_get, Contains, sym, subst, ◌∙◌, arith}
use Rattle.std.proofs.lemmas.Iterator.Consumers.{YieldsList-end, YieldsList-turn}
use Rattle.std.proofs.lemmas.Iterator.Splits.{YieldsList-from_str_split}
use Rattle.std.proofs.lemmas.List.{length_push}
use Rattle.conf_doc.proofs.Edits.{same_Some}
use Rattle.key_split.specs.Key.{key_parts}
use Rattle.move_extend.proofs.TextSearches.{among}
use Rattle.move_extend.proofs.DistinctLists.{there_at}
use Rattle.move_extend.proofs.mentions.has_part.Goals as goal

pub loop-part-preserved : goal.loop-part-preserved
loop-part-preserved c =
    let parts = key_parts c.args.key.now in
    let n = length c.loop-part.yielded in
    let turn =
    YieldsList-turn (YieldsList-from_str_split {s = c.into_iter-part-iterator.result} 124 c.args.key.now (omega arith) (cc) (cc) (cc)) c.loop-part.yielded _ c.loop-part.yielded_by _ _ c.in-Some.part
    c.in-Some.is c.next.ensures.steps in
    let there : slice_get parts n ≡ Some c.in-Some.part.now = there_at parts n c.in-Some.part.now turn.0 turn.1 in
    let more = length_push c.loop-part.yielded c.in-Some.part in
    λ j below.
    below_more (λ j. (s : List ℕ) → slice_get parts j ≡ Some s → Contains (map (λ t. t.now) c.args.texts.now) s → ⊥) n c.loop-part.invariant
    (λ s at has.
    let same : s ≡ c.in-Some.part.now = same_Some s c.in-Some.part.now (sym at ∙ there) in
    let yes = c.is_among.ensures ∙ among (λ t. t.now) c.args.texts.now c.in-Some.part.now (subst (Contains (map (λ t. t.now) c.args.texts.now)) same has) in
    let no = c.if-is_among.false in
    absurd cc)
    j (omega (arith, below, more))

pub returns : goal.returns
returns c = λ s has part.
    let parts = key_parts c.args.key.now in
    let end =
    YieldsList-end (YieldsList-from_str_split {s = c.into_iter-part-iterator.result} 124 c.args.key.now (omega arith) (cc) (cc) (cc)) c.loop-part.yielded _ c.loop-part.yielded_by _ _
    c.in-None.is c.next.ensures.steps in
    absurd (c.loop-part.invariant part.0 (omega (arith, part.1, end.1)) s (there_at parts part.0 s part.1 (sym part.2)) has)
