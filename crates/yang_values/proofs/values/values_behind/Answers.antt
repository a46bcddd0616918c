use Rattle.std.proofs.Common.{List, IfOk, subst, ◌≡◌, ◌∙◌, [], ◌∷◌, map, reverse, Bor, sym, ap}
use Rattle.std.specs.List.{fold}
use Rattle.yang_text.specs.Statements.{declaration}
use Rattle.yang_text.specs.declared.statements.Statement.{Statement}
use Rattle.yang_types.specs.declared.types.Bounds.{Bounds}
use Rattle.yang_values.specs.Values.{most_steps, types_within, values_by, values_behind}
use Rattle.yang_values.proofs.Chains.{reverse-map}
use Rattle.yang_values.proofs.values.values_behind.Goals as goal

pub returns : goal.returns
returns c =
    let along : map (λ (s : Bor Statement). declaration s.now) c.as_slice.result.now ≡ reverse (types_within c.args.names.now most_steps c.args.meaning) =
    ap (map (λ (s : Bor Statement). declaration s.now)) (c.as_slice.ensures.value ∙ c.reverse.ensures.items)
    ∙ sym (reverse-map (λ (s : Bor Statement). declaration s.now) c.in_ok-statements.statements.items)
    ∙ ap reverse c.in_ok-statements.ensures in
    let same : fold (values_by c.args.base) c.in_ok-first.first (map (λ (s : Bor Statement). declaration s.now) c.as_slice.result.now) ≡ values_behind c.args.names.now c.args.meaning c.args.base =
    ap (fold (values_by c.args.base) c.in_ok-first.first) along
    ∙ ap (λ vs. fold (values_by c.args.base) vs (reverse (types_within c.args.names.now most_steps c.args.meaning))) (c.in_ok-first.ensures ∙ ap (λ b. b ∷ []) c.base_bounds.ensures) in
    subst (λ (vs : List Bounds). IfOk c.values_along.result (λ found. found ≡ vs)) same c.values_along.ensures
