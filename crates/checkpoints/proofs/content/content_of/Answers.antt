use Rattle.std.proofs.Common.{◌≡◌, Option, Some, sym, ap, ◌∙◌, subst}
use Rattle.std.specs.Prelude.{option_and_then}
use Rattle.conf_doc.specs.Document.{Document}
use Rattle.conf_doc.specs.Trees.{document}
use Rattle.checkpoints.specs.Formats.{config_of, content_of, members_in, number_in, with_number}
use Rattle.checkpoints.specs.Reads.{Finds}
use Rattle.checkpoints.specs.declared.content.Content.{Content}
use Rattle.checkpoints.proofs.Contents.{numbered_is}
use Rattle.checkpoints.proofs.content.content_of.Goals as goal

pub returns-in-Some-take_config-clause-content : goal.returns-in-Some-take_config-clause-content
returns-in-Some-take_config-clause-content c =
    let d = document c.args.tree in
    let n = c.in-Some.number in
    let number : number_in (members_in d) ≡ Some n = sym c.in_ok-number.ensures ∙ c.in-Some.is in
    let is : content_of d ≡ with_number n (config_of (document c.in-Some-take_config.config)) =
    numbered_is d n number ∙ ap (λ (o : Option Document). with_number n (option_and_then config_of o)) (sym c.in-Some-take_config.ensures) in
    subst (λ (o : Option Content). Finds o c.with_number.result) (sym is) c.with_number.ensures.content

pub returns-in-None-take_config-clause-content : goal.returns-in-None-take_config-clause-content
returns-in-None-take_config-clause-content c =
    let d = document c.args.tree in
    let n = c.in-Some.number in
    let number : number_in (members_in d) ≡ Some n = sym c.in_ok-number.ensures ∙ c.in-Some.is in
    numbered_is d n number ∙ ap (λ (o : Option Document). with_number n (option_and_then config_of o)) (sym c.in-None-take_config.ensures)
