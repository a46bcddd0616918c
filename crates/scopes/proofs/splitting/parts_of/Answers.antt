use Rattle.std.proofs.Common.{◌≡◌, List, ◌++◌, map, ap, ◌∙◌, arith}
use Rattle.patch_core.specs.Operation.{operation_of}
use Rattle.scopes.proofs.Parting.{all_parts, first_part, first_scopes, parts_among, parts_more}
use Rattle.scopes.specs.Scopes.{most_asics}
use Rattle.scopes.specs.Splitting.{Part, part_if_any, part_of}
use Rattle.scopes.specs.declared.scope.Scope.TheVariants.{Localhost, Asic}
use Rattle.scopes.specs.declared.splitting.Scoped.{Scoped}
use Rattle.scopes.proofs.splitting.parts_of.Goals as goal

pub loop-number-init : goal.loop-number-init
loop-number-init c =
    let ops = map operation_of c.args.ops.now in
    c.in_ok-add_part.ensures ∙ ap (λ (all : List Scoped). map part_of all ++ part_if_any Localhost ops) c.new-all.ensures.items ∙ first_part ops

pub loop-number-preserved : goal.loop-number-preserved
loop-number-preserved c =
    let ops = map operation_of c.args.ops.now in
    c.in_ok-add_part-2.ensures ∙ ap (λ (all : List Part). all ++ part_if_any (Asic c.loop-number.number) ops) c.loop-number.invariant
    ∙ parts_more c.loop-number.number ops

pub returns : goal.returns
returns c =
    let ops = map operation_of c.args.ops.now in
    let last : c.loop-number.number ≡ most_asics = omega (arith, c.loop-number-test.false, c.loop-number.auto.number-end) in
    c.loop-number.invariant ∙ ap (λ n. parts_among (first_scopes n) ops) last ∙ all_parts ops
