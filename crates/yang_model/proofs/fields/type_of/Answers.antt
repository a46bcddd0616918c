use Rattle.std.proofs.Common.{sym, ap, ◌∙◌}
use Rattle.yang_model.specs.ShapeCodes.{ty_of, ty_back}
use Rattle.yang_model.proofs.fields.type_of.Goals as goal

pub returns : goal.returns
returns c = λ readers is. sym (ty_back c.in_ok-ty.ty) ∙ ap ty_of (c.in_ok-ty.ensures readers.tests.is_pattern is.tests.patterns)
