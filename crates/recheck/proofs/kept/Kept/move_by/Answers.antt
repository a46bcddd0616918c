use Rattle.std.proofs.Common.{sym, subst, arith}
use Rattle.ref_index.specs.Referrers.{Indexed}
use Rattle.yang_model.specs.ModelSets.{ModelSet}
use Rattle.recheck.specs.Entries.{AreWithin, entries_of}
use Rattle.recheck.specs.Verdicts.{AreSound}
use Rattle.recheck.proofs.kept.Kept.move_by.Goals as goal

pub invariant_of-result : goal.invariant_of-result
invariant_of-result c =
    let new = c.drop_entry.new.verdicts.items in
    let old = c.args.self.verdicts.items in
    let config = c.args.self.index.config in
    let before = subst (λ m. AreSound m config old) c.requires.models c.args.self.sound in
    let ordered = subst (λ (m : ModelSet). AreWithin old (entries_of m config)) c.requires.models c.args.self.ordered in
    let P : Indexed → Type 0 = λ ix. AreSound ix.models ix.config new in
    let Q : Indexed → Type 0 = λ ix. AreWithin new (entries_of ix.models ix.config) in
    record {
      sound = subst P (sym c.in_ok-move_by.ensures.ok) (subst (λ m. AreSound m c.args.next.now new) (sym c.requires.models) (c.drop_entry.ensures.sound before));
      ordered = subst Q (sym c.in_ok-move_by.ensures.ok)
          (subst (λ (m : ModelSet). AreWithin new (entries_of m c.args.next.now)) (sym c.requires.models) (c.drop_entry.ensures.ordered before ordered));
      few = omega (arith, c.args.self.few, c.drop_entry.ensures.among.shorter);
      whole = λ yes. absurd cc;
    }
