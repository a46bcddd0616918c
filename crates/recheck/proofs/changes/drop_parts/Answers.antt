use Rattle.std.proofs.Common.{◌≡◌, ◌<◌, ℕ, List, Some, length, slice_get, below_more, arith}
use Rattle.std.proofs.lemmas.Option.{slice_get_within}
use Rattle.key_split.specs.Key.{key_parts}
use Rattle.ref_index.specs.Referrers.{HasWant, want_for}
use Rattle.ref_index.specs.declared.places.Place.{Place}
use Rattle.recheck.specs.Changes.{AreElsewhere, MayWantPart}
use Rattle.recheck.proofs.VerdictDrops.{among_among, among_itself, still_elsewhere}
use Rattle.recheck.proofs.ParallelWalks.{left_itself, left_then}
use Rattle.recheck.specs.declared.verdicts.Verdict.{Verdict}
use Rattle.recheck.proofs.changes.drop_parts.Goals as goal

pub loop-i-init : goal.loop-i-init
loop-i-init c = record { among = among_itself c.args.verdicts.now.items; left = left_itself _ c.args.verdicts.now.items; dropped = λ k lt text p at has. absurd (omega (arith, lt)) }

pub loop-i-preserved : goal.loop-i-preserved
loop-i-preserved c =
    let old = c.loop-i.verdicts.items in
    let new = c.drop_part_of.new.verdicts.items in
    record {
      among = among_among c.args.verdicts.now.items old new c.loop-i.invariant.among c.drop_part_of.ensures.among;
      left =
          let D : ℕ → Verdict → Type 0 = λ part v. MayWantPart c.args.index.now.models c.args.index.now.config c.args.table.now c.args.shape c.args.key.now part v in
          left_then (λ v. (part : ℕ) × D part v) (D c.loop-i.i) (λ v. (part : ℕ) × D part v) (λ v is. is) (λ v is. (c.loop-i.i, is))
          c.args.verdicts.now.items old new c.loop-i.invariant.left c.drop_part_of.ensures.left;
      dropped =
          below_more
          (λ k. (text : List ℕ) (p : Place) → slice_get (key_parts c.args.key.now) k ≡ Some text
          → HasWant c.args.index.now.models c.args.index.now.config (want_for c.args.table.now c.args.shape k text) p → AreElsewhere p new)
          c.loop-i.i
          (λ k lt text p at has. still_elsewhere p old new c.drop_part_of.ensures.among (c.loop-i.invariant.dropped k lt text p at has))
          c.drop_part_of.ensures.dropped;
    }

pub returns-clause-dropped : goal.returns-clause-dropped
returns-clause-dropped c = λ part text p at has.
    let within : part < length (key_parts c.args.key.now) = slice_get_within (key_parts c.args.key.now) part text at in
    c.loop-i.invariant.dropped part (omega (arith, within, c.parts-i-end.ensures, c.loop-i-test.false)) text p at has
