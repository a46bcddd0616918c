use Rattle.std.proofs.Common.{sym, subst, arith}
use Rattle.conf_doc.specs.WellFormed.{IsConfig}
use Rattle.conf_check.specs.Validity.{IsValid}
use Rattle.ref_index.specs.Referrers.{Indexed}
use Rattle.yang_model.specs.ModelSets.{ModelSet}
use Rattle.recheck.specs.Changes.{IsOnGone}
use Rattle.recheck.specs.Entries.{AreWithin, entries_of}
use Rattle.recheck.specs.Verdicts.{AreSound}
use Rattle.recheck.proofs.SoleEntries.{gone_turned, still_sound}
use Rattle.recheck.proofs.VerdictOrder.{ordered_on}
use Rattle.recheck.proofs.kept.Kept.move_beside.Goals as goal

pub invariant_of-result : goal.invariant_of-result
invariant_of-result c =
    let models = c.args.models.now in
    let old = c.args.self.verdicts.items in
    let new = c.drop_if_gone.new.verdicts.items in
    let config = c.args.self.index.config in
    let next = c.args.next.now in
    let table = c.args.table.now in
    let key = c.args.key.now in
    let before = subst (λ m. AreSound m config old) c.requires.models c.args.self.sound in
    let ordered = subst (λ (m : ModelSet). AreWithin old (entries_of m config)) c.requires.models c.args.self.ordered in
    let sound : AreSound models next new =
    still_sound models config next table key old new c.requires.agree c.requires.valid before c.drop_if_gone.ensures.among c.drop_if_gone.ensures.there in
    let within : AreWithin new (entries_of models next) =
    ordered_on models (IsOnGone next table key) config next old new (subst (λ x. IsConfig x) c.config.ensures c.len.ensures.formed) c.len-2.ensures.formed
    c.drop_if_gone.ensures.left ordered sound in
    let P : Indexed → Type 0 = λ ix. AreSound ix.models ix.config new in
    let Q : Indexed → Type 0 = λ ix. AreWithin new (entries_of ix.models ix.config) in
    let V : Indexed → Type 0 = λ ix. IsValid ix.models ix.config in
    record {
      sound = subst P (sym c.in_ok-move_by.ensures.ok) (subst (λ m. AreSound m next new) (sym c.requires.models) sound);
      ordered = subst Q (sym c.in_ok-move_by.ensures.ok) (subst (λ (m : ModelSet). AreWithin new (entries_of m next)) (sym c.requires.models) within);
      few = omega (arith, c.args.self.few, c.drop_if_gone.ensures.among.shorter);
      whole = λ _. subst V (sym c.in_ok-move_by.ensures.ok) (subst (λ (m : ModelSet). IsValid m next) (sym c.requires.models) c.requires.valid);
    }

pub returns-clause-left : goal.returns-clause-left
returns-clause-left c =
    let old = c.args.self.verdicts.items in
    let config = c.args.self.index.config in
    gone_turned c.args.models.now config c.args.next.now c.args.table.now c.args.key.now old c.drop_if_gone.new.verdicts.items
    (subst (λ m. AreSound m config old) c.requires.models c.args.self.sound) c.drop_if_gone.ensures.left
