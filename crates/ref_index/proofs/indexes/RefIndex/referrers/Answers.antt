use Rattle.std.proofs.Common.{subst, sym}
use Rattle.ref_index.specs.Referrers.{AreReferrers, want_for}
use Rattle.ref_index.proofs.indexes.RefIndex.referrers.Goals as goal

pub returns : goal.returns
returns c =
    let want = want_for c.args.table.now c.args.shape c.args.part c.args.text.now in
    subst (λ ix. AreReferrers ix.models ix.config want c.places.result.now) c.self.view_is
    (subst (AreReferrers c.self.inside.models.value c.self.inside.config want) (sym c.places.ensures) (c.self.invariant want))
