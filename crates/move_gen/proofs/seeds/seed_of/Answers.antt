use Rattle.std.proofs.Common.{◌+◌, sym, ◌∙◌, subst, true≢false, arith}
use Rattle.conf_doc.specs.Pairs.{IsRising}
use Rattle.move_core.specs.Contexts.{rulebook}
use Rattle.move_core.specs.Generated.{IsSeed}
use Rattle.move_gen.specs.Choosing.{IsSeedOfFirst}
use Rattle.move_gen.proofs.SeedEntries.{seed_ends, seed_with, seed_without, whole_seed}
use Rattle.move_gen.proofs.Walks.{letters_at}
use Rattle.move_gen.proofs.seeds.seed_of.Goals.{then-has_no_want+in_ok-seed, else-has_no_want}
use Rattle.move_gen.proofs.seeds.seed_of.Goals as goal

pub returns-then-has_free_fields : goal.returns-then-has_free_fields
returns-then-has_free_fields c =
    let book = rulebook c.args.ctx.now in let goal = c.args.goal.now in let t = c.args.table.now in let k = c.args.key.now in let e = c.args.entry.now in
    let is = c.in_ok-whole.ensures.copy in
    subst (IsSeed book goal t k e) (sym is)
    (whole_seed book goal t k e (subst (λ x. IsRising x) is c.in_ok-whole.ensures.formed.shaped.rising) (c.has_free_fields.ensures c.if-has_free_fields.true))

pub with-requires : goal.with-requires
with-requires c = letters_at c.args.entry.now c.loop-i.i c.name_at-field.result.now c.len-i-end.ensures.formed.shaped.named c.name_at-field.ensures

pub loop-i-preserved : goal.loop-i-preserved
loop-i-preserved c =
    let book = rulebook c.args.ctx.now in let goal = c.args.goal.now in let t = c.args.table.now in let k = c.args.key.now in let e = c.args.entry.now in
    let rising = c.len-i-end.ensures.formed.shaped.rising in let n = c.name_at-field.result.now in let a = c.part_at-value.result.now in
    elim c.if-has_no_want.branch [
      | then-has_no_want+in_ok-seed w ↦
          subst (IsSeedOfFirst book goal t k e (c.loop-i.i + 1)) (sym (w.seed-is ∙ w.in_ok-seed.ensures.changed))
          (seed_with book goal t k e rising c.loop-i.i n a c.name_at-field.ensures c.part_at-value.ensures.part c.loop-i.seed c.loop-i.invariant (c.has_no_want.ensures.0 w.if-has_no_want.true))
      | else-has_no_want w ↦
          subst (IsSeedOfFirst book goal t k e (c.loop-i.i + 1)) (sym w.seed-is)
          (seed_without book goal t k e rising c.loop-i.i n a c.name_at-field.ensures c.part_at-value.ensures.part c.loop-i.seed c.loop-i.invariant
          (λ free. true≢false (sym (c.has_no_want.ensures.1 free) ∙ w.if-has_no_want.false)))
    ]

pub returns : goal.returns
returns c =
    let end = c.loop-i-test.false in let all = c.len-i-end.ensures.len in
    seed_ends (rulebook c.args.ctx.now) c.args.goal.now c.args.table.now c.args.key.now c.args.entry.now c.len-i-end.ensures.formed.shaped.rising c.loop-i.i
    (omega (arith, end, all)) c.loop-i.seed c.loop-i.invariant
