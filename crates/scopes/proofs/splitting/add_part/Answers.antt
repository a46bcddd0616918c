use Rattle.std.proofs.Common.{◌≡◌, true, false, refl, ap, ◌∙◌, map, filter}
use Rattle.std.proofs.lemmas.List.{map-append}
use Rattle.patch_core.specs.Operation.{operation_of}
use Rattle.scopes.proofs.Parting.{no_part, one_part_more}
use Rattle.scopes.specs.Splitting.{below, is_under, part_of}
use Rattle.scopes.proofs.splitting.add_part.Goals as goal

pub returns-in_ok-push : goal.returns-in_ok-push
returns-in_ok-push c =
    let ops = map operation_of c.args.ops.now in
    let is = c.in_ok-ops.ensures ∙ ap (λ name. map below (filter (is_under name) ops)) (c.as_str.ensures.value ∙ c.short_name-name.ensures) in
    ap (map part_of) c.in_ok-push.ensures.items ∙ map-append part_of c.args.all.now.items _
    ∙ one_part_more c.args.scope ops (map part_of c.args.all.now.items) c.in_ok-ops.ops is
    (λ none. let no : false ≡ true = c.if-not-is_empty.ensures.1 none in absurd cc)

pub returns-else-not-is_empty : goal.returns-else-not-is_empty
returns-else-not-is_empty c =
    let ops = map operation_of c.args.ops.now in
    let is = c.in_ok-ops.ensures ∙ ap (λ name. map below (filter (is_under name) ops)) (c.as_str.ensures.value ∙ c.short_name-name.ensures) in
    no_part c.args.scope ops (map part_of c.args.all.now.items) c.in_ok-ops.ops is (c.if-not-is_empty.ensures.0 refl)
