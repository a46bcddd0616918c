use Rattle.std.proofs.Common.{ap, ◌∙◌, sym, option_map}
use Rattle.std.specs.Str.{bytes_eq}
use Rattle.yang_model.specs.ModelSets.{table_named}
use Rattle.yang_model.specs.TableModels.{table_model}
use Rattle.yang_scope.proofs.Blocks.{find-map}
use Rattle.yang_model.proofs.Places.{place_within, find_at_place, find_no_place}
use Rattle.yang_model.proofs.models.Models.table.Goals as goal

pub at-requires : goal.at-requires
at-requires c = place_within (λ t. t.name) c.args.name.now c.self.inside.tables c.in-Some.i (c.in-Some.ensures _ c.self.invariant.0)

pub returns-in-Some : goal.returns-in-Some
returns-in-Some c =
    let tables = c.self.inside.tables in
    let name = c.args.name.now in
    sym (find-map table_model (λ t. bytes_eq name t.name) tables
    ∙ ap (option_map table_model) (find_at_place (λ t. t.name) name tables c.in-Some.i c.at.result.now (c.in-Some.ensures _ c.self.invariant.0) c.at.ensures))
    ∙ ap (table_named name) c.self.view_is

pub returns-in-None : goal.returns-in-None
returns-in-None c =
    let tables = c.self.inside.tables in
    let name = c.args.name.now in
    sym (find-map table_model (λ t. bytes_eq name t.name) tables
    ∙ ap (option_map table_model) (find_no_place (λ t. t.name) name tables (c.in-None.ensures _ c.self.invariant.0)))
    ∙ ap (table_named name) c.self.view_is
