use Rattle.std.proofs.Common.{◌≡◌, None, ◌∙◌, sym, ap, inl, inr}
use Rattle.yang_scope.specs.Links.{link_behind}
use Rattle.yang_scope.specs.Meanings.{base_by, base_of, most_typedefs}
use Rattle.yang_scope.proofs.TypedefDistances.{base_behind}
use Rattle.yang_scope.proofs.names.Names.base_of.Goals as goal

pub returns-in-Ends : goal.returns-in-Ends
returns-in-Ends c =
    ap (base_by (λ m place. None)) (sym c.in-Ends.is ∙ c.link_behind.ensures ∙ ap (λ ls. link_behind ls c.type_meaning.result) c.items.ensures)
    ∙ ap (λ meaning. base_by (λ m place. None) (link_behind c.self.inside.links meaning)) c.type_meaning.ensures
    ∙ sym (base_behind c.self.inside.set most_typedefs c.self.inside.links _ c.self.invariant.0)
    ∙ ap (λ modules. base_of modules c.args.number c.args.name.now) c.self.view_is

pub returns-in-Goes : goal.returns-in-Goes
returns-in-Goes c =
    let none : None ≡ base_by (λ m place. None) c.link_behind.result =
    elim c.in-Goes.is [
      | inl h ↦ sym (ap (base_by (λ m place. None)) h.2)
      | inr h ↦ sym (ap (base_by (λ m place. None)) h)
    ] in
    none
    ∙ ap (base_by (λ m place. None)) (c.link_behind.ensures ∙ ap (λ ls. link_behind ls c.type_meaning.result) c.items.ensures)
    ∙ ap (λ meaning. base_by (λ m place. None) (link_behind c.self.inside.links meaning)) c.type_meaning.ensures
    ∙ sym (base_behind c.self.inside.set most_typedefs c.self.inside.links _ c.self.invariant.0)
    ∙ ap (λ modules. base_of modules c.args.number c.args.name.now) c.self.view_is
