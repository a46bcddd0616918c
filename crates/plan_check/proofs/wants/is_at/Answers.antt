use Rattle.std.proofs.Common.{◌≡◌, ◌∷◌, [], option_map, sym, ◌∙◌}
use Rattle.std.specs.Option.{option_to_list}
use Rattle.plan_check.specs.Touching.{names_at}
use Rattle.plan_check.proofs.wants.is_at.Goals as goal

pub returns-in-Some : goal.returns-in-Some
returns-in-Some c =
    let a = c.args.at.now in
    let names : names_at a ≡ a.table.now ∷ a.key.now ∷ c.in-Some.field.now ∷ [] = λ i. a.table.now ∷ a.key.now ∷ option_to_list (option_map (λ f. f.now) (c.in-Some.is i)) in
    (λ t. names ∙ sym (c.is_field_at.ensures.0 t), λ same. c.is_field_at.ensures.1 (sym same ∙ names))

pub returns-in-None : goal.returns-in-None
returns-in-None c =
    let a = c.args.at.now in
    let names : names_at a ≡ a.table.now ∷ a.key.now ∷ [] = λ i. a.table.now ∷ a.key.now ∷ option_to_list (option_map (λ f. f.now) (c.in-None.is i)) in
    (λ t. names ∙ sym (c.is_entry_at.ensures.0 t), λ same. c.is_entry_at.ensures.1 (sym same ∙ names))
