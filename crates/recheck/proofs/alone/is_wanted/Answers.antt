use Rattle.std.proofs.Common.{ℕ, None, Some, subst}
use Rattle.std.specs.Bool.{OnFalse}
use Rattle.yang_model.specs.Belongs.{Belongs}
use Rattle.yang_model.specs.ModelSets.{shapes_of}
use Rattle.recheck.specs.Changes.{IsPartUnwanted}
use Rattle.recheck.proofs.SoleEntries.{key_unwanted}
use Rattle.recheck.proofs.VerdictDrops.{not_wanted}
use Rattle.recheck.proofs.alone.is_wanted.Goals as goal

pub returns-in-Some : goal.returns-in-Some
returns-in-Some c =
    let models = c.args.models.now in
    let config = c.args.index.now.config in
    let table = c.args.table.now in
    let key = c.args.key.now in
    let shape = c.in-Some.shape in
    let b = c.is_some_part_wanted.result in
    key_unwanted models config table shape key b (subst (λ k. Belongs (shapes_of table models) k (Some shape)) c.new-view.ensures c.in-Some.ensures)
    (subst (λ m. OnFalse b ((part : ℕ) → IsPartUnwanted m config table shape key part)) c.requires
    (subst (λ k. OnFalse b ((part : ℕ) → IsPartUnwanted c.args.index.now.models config table shape k part)) c.new-view.ensures c.is_some_part_wanted.ensures))

pub returns-in-None : goal.returns-in-None
returns-in-None c =
    not_wanted c.args.models.now c.args.index.now.config c.args.table.now c.args.key.now
    (subst (λ k. Belongs (shapes_of c.args.table.now c.args.models.now) k None) c.new-view.ensures c.in-None.ensures)
