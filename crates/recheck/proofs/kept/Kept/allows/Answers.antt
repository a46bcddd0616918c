use Rattle.std.proofs.Common.{subst}
use Rattle.conf_doc.specs.WellFormed.{IsConfig}
use Rattle.conf_check.specs.Validity.{IsValid}
use Rattle.yang_model.specs.ModelSets.{ModelSet}
use Rattle.recheck.proofs.SoleEntries.{sole_valid}
use Rattle.recheck.proofs.VerdictDrops.{one_truth}
use Rattle.recheck.proofs.kept.Kept.allows.Goals as goal

pub returns : goal.returns
returns c =
    let models = c.args.models.now in
    let kept = c.args.self.now in
    let config = kept.index.config in
    sole_valid models config c.args.next.now c.args.table.now c.args.key.now (subst (λ x. IsConfig x) c.config.ensures c.len.ensures.formed) c.len-2.ensures.formed
    (one_truth models c.have_files.ensures c.musts_have_one_truth.ensures) c.requires.sole.agree c.requires.sole.alone
    (subst (λ (m : ModelSet). IsValid m config) c.requires.models (kept.whole c.requires.valid)) c.is_valid_at.result c.is_valid_at.ensures
