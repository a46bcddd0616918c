use Rattle.std.proofs.Common.{sym, ap, ◌∙◌}
use Rattle.patch_core.specs.Operation.{operation_of}
use Rattle.scopes.proofs.Scoping.{as_named, nameless}
use Rattle.scopes.specs.Splitting.{is_under}
use Rattle.scopes.proofs.splitting.is_in_scope.Goals as goal

pub returns-in-Some : goal.returns-in-Some
returns-in-Some c =
    let op = operation_of c.args.op.now in
    c.is_under.ensures ∙ ap (λ name. is_under name op) (c.as_str-in-Some.ensures.value ∙ c.short_name.ensures)
    ∙ sym (as_named op c.args.first.now c.requires c.in-Some.scope c.in-Some.ensures.0 (sym c.as_str.ensures.text ∙ c.in-Some.ensures.1))

pub returns-in-None : goal.returns-in-None
returns-in-None c =
    sym (nameless (operation_of c.args.op.now) c.args.first.now c.requires (λ s there is. c.in-None.ensures s there (c.as_str.ensures.text ∙ is)))
