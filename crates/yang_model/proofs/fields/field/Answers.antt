use Rattle.std.proofs.Common.{◌≡◌, List, codes, map, ap, sym, ◌∙◌}
use Rattle.yang_text.specs.Declarations.{Declaration, block}
use Rattle.yang_text.specs.Statements.{declaration}
use Rattle.yang_scope.proofs.Blocks.{block-is}
use Rattle.yang_faults.specs.Fields.{first_argument, is_mandatory}
use Rattle.yang_model.proofs.fields.field.Goals as goal

pub returns : goal.returns
returns c = λ readers is.
    let leaf = c.args.leaf.now in
    let whole : map declaration c.items-block.result.now ≡ block (declaration leaf) = c.items-block.ensures ∙ sym (block-is leaf) in
    let name = c.in_ok-name.ensures in
    let ty = c.in_ok-ty.ensures readers is in
    let mandatory = c.is_mandatory.ensures ∙ ap is_mandatory whole in
    let default = c.in_ok-default.ensures ∙ c.first_argument.ensures ∙ ap (λ (ds : List Declaration). first_argument (codes "default") ds) whole in
    λ i. record { name = name i; ty = ty i; list = c.args.list; mandatory = mandatory i; default = default i }
