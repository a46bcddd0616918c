use Rattle.std.proofs.Common.{ap, ◌∙◌, sym, option_map}
use Rattle.yang_model.specs.ModelSets.{field_type}
use Rattle.yang_model.proofs.Places.{place_within, find_at_place, find_no_place}
use Rattle.yang_model.proofs.shapes.IndexedShape.type_of.Goals as goal

pub at-requires : goal.at-requires
at-requires c = place_within (λ f. f.name) c.args.field.now c.self.inside.shape.fields c.in-Some.i (c.in-Some.ensures _ c.self.invariant)

pub returns-in-Some : goal.returns-in-Some
returns-in-Some c =
    sym (ap (option_map (λ f. f.ty)) (find_at_place (λ f. f.name) c.args.field.now c.self.inside.shape.fields c.in-Some.i c.at.result.now (c.in-Some.ensures _ c.self.invariant) c.at.ensures))
    ∙ ap (field_type c.args.field.now) c.self.view_is

pub returns-in-None : goal.returns-in-None
returns-in-None c =
    sym (ap (option_map (λ f. f.ty)) (find_no_place (λ f. f.name) c.args.field.now c.self.inside.shape.fields (c.in-None.ensures _ c.self.invariant)))
    ∙ ap (field_type c.args.field.now) c.self.view_is
