use Rattle.std.proofs.Common.{ℕ, sym, subst, inl, inr, arith}
use Rattle.std.proofs.lemmas.List.Elements.{All-contains}
use Rattle.ref_index.specs.Referrers.{HasWant, want_for}
use Rattle.ref_index.specs.declared.places.Place.{Place}
use Rattle.recheck.specs.Changes.{AreElsewhere, IsOnOne, MayWant}
use Rattle.recheck.proofs.ParallelWalks.{left_for, left_none}
use Rattle.recheck.proofs.changes.drop_part.Goals as goal

pub returns-in-Ok-clause-dropped : goal.returns-in-Ok-clause-dropped
returns-in-Ok-clause-dropped c = λ p has.
    let wants : HasWant c.args.index.now.models c.args.index.now.config (want_for c.args.table.now c.args.shape c.in-Ok.part c.args.text.now) p =
    subst (λ n. HasWant c.args.index.now.models c.args.index.now.config (want_for c.args.table.now c.args.shape n c.args.text.now) p) (sym c.in-Ok.ensures.1) has in
    All-contains (λ q. AreElsewhere q c.drop_places.new.verdicts.items) c.referrers.result.now p c.drop_places.ensures.dropped (c.referrers.ensures.all p wants)

pub returns-in-Ok-clause-left : goal.returns-in-Ok-clause-left
returns-in-Ok-clause-left c =
    let models = c.args.index.now.models in
    let config = c.args.index.now.config in
    let H : ℕ → Place → Type 0 = λ n p. HasWant models config (want_for c.args.table.now c.args.shape n c.args.text.now) p in
    left_for (IsOnOne c.referrers.result.now) (MayWant models config c.args.table.now c.args.shape c.args.part c.args.text.now)
    (λ v is. inl (is.0, subst (λ n. H n is.0) c.in-Ok.ensures.1 (All-contains (H c.in-Ok.part) c.referrers.result.now is.0 c.referrers.ensures.each is.1), is.2))
    c.args.verdicts.now.items c.drop_places.new.verdicts.items c.drop_places.ensures.left

pub returns-in-Err-clause-left : goal.returns-in-Err-clause-left
returns-in-Err-clause-left c =
    left_none (MayWant c.args.index.now.models c.args.index.now.config c.args.table.now c.args.shape c.args.part c.args.text.now) (λ v. inr (omega (arith, c.in-Err.ensures)))
    c.args.verdicts.now.items c.clear.new.self.items c.clear.ensures.items
