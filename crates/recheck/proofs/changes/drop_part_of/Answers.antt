use Rattle.std.proofs.Common.{◌≡◌, Some, None, sym, ◌∙◌, subst}
use Rattle.ref_index.specs.Referrers.{HasWant, want_for}
use Rattle.recheck.specs.Changes.{MayWant, MayWantPart}
use Rattle.recheck.proofs.VerdictDrops.{among_itself}
use Rattle.recheck.proofs.Pairs.{some_same}
use Rattle.recheck.proofs.ParallelWalks.{left_for, left_itself}
use Rattle.recheck.proofs.changes.drop_part_of.Goals as goal

pub returns-in-Some-clause-dropped : goal.returns-in-Some-clause-dropped
returns-in-Some-clause-dropped c = λ text p at has.
    let same : text ≡ c.in-Some.text.now = some_same text c.in-Some.text.now (sym at ∙ sym c.in-Some.ensures) in
    c.drop_part.ensures.dropped p
    (subst (λ s. HasWant c.args.index.now.models c.args.index.now.config (want_for c.args.table.now c.args.shape c.args.part s) p) same has)

pub returns-in_default-clause-among : goal.returns-in_default-clause-among
returns-in_default-clause-among c = among_itself c.args.verdicts.now.items

pub returns-in_default-clause-dropped : goal.returns-in_default-clause-dropped
returns-in_default-clause-dropped c = λ text p at has.
    let none : None ≡ Some text = c.in_default.ensures ∙ at in
    absurd cc

pub returns-in-Some-clause-left : goal.returns-in-Some-clause-left
returns-in-Some-clause-left c =
    let models = c.args.index.now.models in
    let config = c.args.index.now.config in
    left_for (MayWant models config c.args.table.now c.args.shape c.args.part c.in-Some.text.now)
    (MayWantPart models config c.args.table.now c.args.shape c.args.key.now c.args.part) (λ v is. (c.in-Some.text.now, sym c.in-Some.ensures, is))
    c.args.verdicts.now.items c.drop_part.new.verdicts.items c.drop_part.ensures.left

pub returns-in_default-clause-left : goal.returns-in_default-clause-left
returns-in_default-clause-left c = left_itself _ c.args.verdicts.now.items
