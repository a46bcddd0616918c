use Rattle.std.proofs.Common.{map, string_bytes, sym, ap, ◌∙◌}
use Rattle.conf_doc.proofs.AtPlaces.{texts_alike}
use Rattle.conf_doc.proofs.paths.Path.same.Goals as goal

pub returns : goal.returns
returns c =
    let alike = texts_alike c.as_slice.result.now c.as_slice-2.result.now in
    let left = ap (map string_bytes) (c.as_slice.ensures ∙ ap (λ names. names.items) c.as_ref.ensures) ∙ c.self.view_is in
    let right = ap (map string_bytes) (c.as_slice-2.ensures ∙ ap (λ names. names.items) c.as_ref-2.ensures) ∙ c.other.view_is in
    (λ yes. sym left ∙ alike.0 (sym c.eq.ensures ∙ yes) ∙ right, λ e. c.eq.ensures ∙ alike.1 (left ∙ e ∙ sym right))
