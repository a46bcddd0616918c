use Rattle.std.proofs.Common.{rules, ◌≡◌, ◌<◌, ℕ, List, length, sym, ap, ◌∙◌, subst, arith}
use Rattle.std.specs.List.{All}
use Rattle.std.proofs.lemmas.List.Elements.{All-map}
use Rattle.std.proofs.lemmas.Iterator.Consumers.{YieldsList-turn, YieldsList-end}
use Rattle.std.proofs.lemmas.Iterator.Splits.{YieldsList-from_str_split}
use Rattle.std.specs.Str.Iter.{split_text, split_has_more, split_pattern}
use Rattle.yang_types.specs.Addresses.{AreJoined}
use Rattle.yang_types.specs.Parts.{IsPart, separator_of}
use Rattle.yang_types.proofs.PartJoins.{cut, joined_nil, joined_none, joined_cut, joined_from_cut}
use Rattle.yang_types.proofs.PartLemmas.{stand_apart, separator_ascii}
use Rattle.yang_types.proofs.addresses.count_parts.Goals.{then-count-most-via-then-count-most, then-count-most-via-else-count-most+then-not-is_part}
use Rattle.yang_types.proofs.addresses.count_parts.Goals as goal

pub returns-then-is_empty : goal.returns-then-is_empty
returns-then-is_empty c =
    let empty : length c.args.text.now ≡ 0 = search rules in
    let P : List ℕ → Type 0 = IsPart c.args.part in
    (omega arith, (joined_nil P (separator_of c.args.part) c.args.text.now empty, λ n h. joined_none P (separator_of c.args.part) (stand_apart c.args.part) n c.args.text.now empty h))

pub returns-then-count-most : goal.returns-then-count-most
returns-then-count-most c = λ n small h.
    let P : List ℕ → Type 0 = IsPart c.args.part in
    let full : 0 < length c.args.text.now = search rules in
    let parts = joined_cut P (separator_of c.args.part) (stand_apart c.args.part) n c.args.text.now full h in
    let turn = YieldsList-turn (YieldsList-from_str_split {s = c.into_iter-piece-iterator.result} (separator_of c.args.part) c.args.text.now (separator_ascii c.args.part) (ap split_text c.into_iter-piece-iterator.ensures.into_iter_gives ∙ c.split-piece-items.ensures.text) (ap split_has_more c.into_iter-piece-iterator.ensures.into_iter_gives ∙ c.split-piece-items.ensures.has_more) (ap split_pattern c.into_iter-piece-iterator.ensures.into_iter_gives ∙ (c.split-piece-items.ensures.pattern ∙ c.separator.ensures))) c.loop-piece.yielded _ c.loop-piece.yielded_by _ _ c.in-Some.piece c.in-Some.is c.next.ensures.steps in
    let here : P c.in-Some.piece.now = subst P (sym turn.1) (parts.1 (length c.loop-piece.yielded) c.in-Some.piece.now turn.0) in
    elim c.then-count-most.branch [
      | then-count-most-via-then-count-most w ↦ absurd (omega arith)
      | then-count-most-via-else-count-most+then-not-is_part w ↦ absurd (let e = w.is_part.ensures.1 here in cc)
    ]

pub returns : goal.returns
returns c =
    let P : List ℕ → Type 0 = IsPart c.args.part in
    let separator : ℕ = separator_of c.args.part in
    let full : 0 < length c.args.text.now = search rules in
    let all = YieldsList-end (YieldsList-from_str_split {s = c.into_iter-piece-iterator.result} (separator_of c.args.part) c.args.text.now (separator_ascii c.args.part) (ap split_text c.into_iter-piece-iterator.ensures.into_iter_gives ∙ c.split-piece-items.ensures.text) (ap split_has_more c.into_iter-piece-iterator.ensures.into_iter_gives ∙ c.split-piece-items.ensures.has_more) (ap split_pattern c.into_iter-piece-iterator.ensures.into_iter_gives ∙ (c.split-piece-items.ensures.pattern ∙ c.separator.ensures))) c.loop-piece.yielded _ c.loop-piece.yielded_by _ _ c.in-None.is c.next.ensures.steps in
    let count : c.loop-piece.count ≡ length (cut separator c.args.text.now) = c.loop-piece.invariant.1 ∙ all.1 in
    let each : All P (cut separator c.args.text.now) = rw (← all.0) (All-map P (λ x. x.now) c.loop-piece.yielded c.loop-piece.invariant.2) in
    let Q : ℕ → Type 0 = λ m. AreJoined P separator m c.args.text.now in (
      c.loop-piece.invariant.0,
      (
        subst Q (sym count) (joined_from_cut P separator c.args.text.now each),
        λ n h. (joined_cut P separator (stand_apart c.args.part) n c.args.text.now full h).0 ∙ sym count,
      ),
    )
