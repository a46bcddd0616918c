use Rattle.std.proofs.Common.{[], ◌∷◌, sym, subst}
use Rattle.conf_doc.specs.declared.configuration.Value.TheVariants.{List as Listed}
use Rattle.move_gen.specs.Giving.{Gives}
use Rattle.move_gen.specs.ItemsGiven.{IsOfItems, IsOfLists}
use Rattle.move_gen.proofs.items.give_of_values.Goals as goal

pub returns-in-List-List : goal.returns-in-List-List
returns-in-List-List c =
    let p = c.args.table.now ∷ c.args.key.now ∷ c.args.field.now ∷ [] in
    let r = c.give_of_lists.result in let out = c.args.out.now.items in let more = c.give_of_lists.new.out.items in
    let one = subst (λ old. Gives (IsOfItems old c.items-in-List-List.result.now p) r out more) c.items.ensures c.give_of_lists.ensures in
    let two = subst (λ new. Gives (IsOfItems c.in-List-List.old new p) r out more) c.items-in-List-List.ensures one in
    let before = subst (λ v. Gives (IsOfLists p v (Listed c.in-List-List.new)) r out more) (sym c.in-List-List.is-0) two in
    subst (λ v. Gives (IsOfLists p c.args.before.now v) r out more) (sym c.in-List-List.is-1) before
