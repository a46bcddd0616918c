use Rattle.std.proofs.Common.{Some, subst}
use Rattle.yang_model.specs.Belongs.{Belongs}
use Rattle.yang_model.specs.ModelSets.{shapes_of}
use Rattle.recheck.specs.Losses.{IsWantOfPart}
use Rattle.recheck.proofs.Losers.{wants_key}
use Rattle.recheck.proofs.losses.referrer_of_key.Goals as goal

pub returns-in-Some-referrer_of_part-clause-wants : goal.returns-in-Some-referrer_of_part-clause-wants
returns-in-Some-referrer_of_part-clause-wants c =
    let models = c.args.models.now in
    let config = c.args.index.now.config in
    let table = c.args.table.now in
    let key = c.args.key.now in
    let shape = c.in-Some.shape in
    let part = c.loop-part.part in
    let p = c.in-Some-referrer_of_part.place.now in
    wants_key models config table key shape part p (subst (λ k. Belongs (shapes_of table models) k (Some shape)) c.new-view.ensures c.in-Some.ensures)
    (subst (λ m. IsWantOfPart m config table shape key part p) c.requires
    (subst (λ k. IsWantOfPart c.args.index.now.models config table shape k part p) c.new-view.ensures c.in-Some-referrer_of_part.ensures.wants))
