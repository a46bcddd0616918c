use Rattle.std.proofs.Common.{◌≡◌, ◌++◌, ℕ, true, List, [], codes, map, ap, sym, ◌∙◌}
use Rattle.std.specs.List.{flat_map}
use Rattle.std.specs.Str.{bytes_eq}
use Rattle.yang_text.specs.Declarations.{Declaration, block}
use Rattle.yang_text.specs.Statements.{declaration}
use Rattle.yang_scope.proofs.Blocks.{block-is}
use Rattle.yang_must.specs.Spots.{leaf}
use Rattle.yang_faults.proofs.Choices.{taken}
use Rattle.yang_model.specs.Shapes.{must_at}
use Rattle.yang_model.specs.declared.shapes.MustRule.{MustRule}
use Rattle.yang_model.proofs.musts.push_leaf_musts.Goals as goal

pub returns-in_ok-push_musts : goal.returns-in_ok-push_musts
returns-in_ok-push_musts c = λ readers is.
    let s = c.args.statement.now in
    let x = c.args.container.now in
    let give : Declaration → List MustRule = must_at c.args.tree.now readers x.number s.argument (leaf x.statement c.args.table.now c.args.shape.now (declaration s)) in
    let word : bytes_eq s.keyword (codes "leaf") ≡ true = ap (λ (k : List ℕ). bytes_eq k (codes "leaf")) (sym c.as_str.ensures.text) ∙ sym c.if-eq.ensures in
    c.in_ok-push_musts.ensures readers is
    ∙ ap (λ (n : ℕ). c.args.musts.now ++ flat_map (must_at c.args.tree.now readers n s.argument (leaf x.statement c.args.table.now c.args.shape.now (declaration s))) (map declaration c.items-block.result.now)) c.number-number.ensures
    ∙ ap (λ (ds : List Declaration). c.args.musts.now ++ flat_map give ds) (c.items-block.ensures ∙ sym (block-is s))
    ∙ ap (λ (ms : List MustRule). c.args.musts.now ++ ms) (taken (bytes_eq s.keyword (codes "leaf")) (flat_map give (block (declaration s))) [] word)
