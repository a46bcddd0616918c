use Rattle.std.proofs.Common.{ap, ◌∙◌}
use Rattle.conf_doc.proofs.AtPlaces.{letter_read}
use Rattle.conf_doc.proofs.paths.Path.name_at.Goals as goal

pub returns-clause-named : goal.returns-clause-named
returns-clause-named c =
    let names = c.as_slice.ensures ∙ ap (λ names. names.items) c.as_ref.ensures in
    rw c.as_str.ensures.value (letter_read c.self.inside.names.value.items c.as_slice.result.now c.args.i c.index-as_slice-i.result c.self.invariant.named names (rw (← c.self.view_is) at c.requires) c.index-as_slice-i.is)
