use Rattle.std.proofs.Common.{ap, subst, sym, ◌∙◌}
use Rattle.ref_index.specs.Agreements.{AgreeBut}
use Rattle.ref_index.specs.PlaceMaps.{IsMapOf}
use Rattle.ref_index.proofs.indexes.RefIndex.move_by.Goals as goal

pub move_entry-requires : goal.move_entry-requires
move_entry-requires c = record {
  map = subst (λ ms. IsMapOf ms c.self.inside.config c.self.inside.places) (ap (λ ix. ix.models) c.self.view_is ∙ c.requires.models) c.self.invariant;
  agree = subst (λ d. AgreeBut d c.args.next.now c.args.table.now c.args.key.now) (sym (ap (λ ix. ix.config) c.self.view_is)) c.requires.agree;
}

pub invariant_of-self : goal.invariant_of-self
invariant_of-self c =
    subst (λ ms. IsMapOf ms c.self.inside.config c.move_entry.new.places) (sym (ap (λ ix. ix.models) c.self.view_is ∙ c.requires.models))
    c.in_err-move_entry.ensures.err

pub invariant_of-self-2 : goal.invariant_of-self-2
invariant_of-self-2 c =
    subst (λ ms. IsMapOf ms c.in_ok-config.config c.move_entry.new.places) (sym (ap (λ ix. ix.models) c.self.view_is ∙ c.requires.models))
    (subst (λ d. IsMapOf c.args.models.now d c.move_entry.new.places) (sym c.in_ok-config.ensures.copy) c.in_ok-move_entry.ensures.ok)
