use Rattle.std.proofs.Common.{ap, subst, sym, ◌∙◌}
use Rattle.ref_index.specs.PlaceMaps.{IsMapOf}
use Rattle.ref_index.proofs.indexes.RefIndex.move_to.Goals as goal

pub move_places-requires : goal.move_places-requires
move_places-requires c =
    subst (λ ms. IsMapOf ms c.self.inside.config c.self.inside.places) (ap (λ ix. ix.models) c.self.view_is ∙ c.requires) c.self.invariant

pub invariant_of-self : goal.invariant_of-self
invariant_of-self c =
    subst (λ ms. IsMapOf ms c.self.inside.config c.move_places.new.places) (sym (ap (λ ix. ix.models) c.self.view_is ∙ c.requires))
    c.in_err-move_places.ensures.err

pub invariant_of-self-2 : goal.invariant_of-self-2
invariant_of-self-2 c =
    subst (λ ms. IsMapOf ms c.in_ok-config.config c.move_places.new.places) (sym (ap (λ ix. ix.models) c.self.view_is ∙ c.requires))
    (subst (λ d. IsMapOf c.args.models.now d c.move_places.new.places) (sym c.in_ok-config.ensures.copy) c.in_ok-move_places.ensures.ok)
