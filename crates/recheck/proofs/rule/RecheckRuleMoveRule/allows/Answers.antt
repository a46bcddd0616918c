use Rattle.std.proofs.Common.{◌≡◌, Option, IfSome, refl, sym, subst, arith}
use Rattle.recheck.specs.declared.kept.Kept.{Kept}
use Rattle.recheck.proofs.EntryValidity.{first_rule}
use Rattle.recheck.specs.Counts.{AreCounted, AreStillKept, IsRaised}
use Rattle.recheck.proofs.EntryCounts.{at_most, rechecked_counts, refused_counts, told_counts}
use Rattle.recheck.proofs.LookedEntries.{same_kept}
use Rattle.recheck.proofs.rule.RecheckRuleMoveRule.allows.Goals as goal

pub recheck-requires : goal.recheck-requires
recheck-requires c =
    let P : Option Kept → Type 0 = λ o. IfSome o (λ k. k.index.models ≡ c.args.ctx.now.models) in
    subst P (sym c.take-kept.ensures.value) c.requires

pub returns-in-Ok-clause-allows : goal.returns-in-Ok-clause-allows
returns-in-Ok-clause-allows c = first_rule c.args.ctx.now _ c.args.next.now _ c.in-Ok.valid c.in-Ok.ensures.valid

pub returns-in-Err-clause-allows : goal.returns-in-Err-clause-allows
returns-in-Err-clause-allows c = first_rule c.args.ctx.now _ c.args.next.now _ c.is_valid.result c.is_valid.ensures

-- ---- the counts

pub returns-then-is_told_invalid-clause-counts : goal.returns-then-is_told_invalid-clause-counts
returns-then-is_told_invalid-clause-counts c =
    told_counts c.args.ctx.now.models c.args.self.now.kept _ c.args.next.now c.args.mv.now c.args.self.now.checked c.saturating_add-self.result refl
    (c.is_told_invalid.ensures.told c.if-is_told_invalid.true) (omega (arith, c.saturating_add-self.ensures))

pub returns-in-Ok-clause-counts : goal.returns-in-Ok-clause-counts
returns-in-Ok-clause-counts c =
    let models = c.args.ctx.now.models in
    let next = c.args.next.now in
    let P : Option Kept → Type 0 =
    λ o. IsRaised c.args.self.now.checked c.recheck.new.checked (λ count. AreCounted models o next c.args.mv.now c.in-Ok.kept count c.in-Ok.valid) in
    rechecked_counts models c.args.self.now.kept _ next c.args.mv.now c.in-Ok.kept c.in-Ok.valid c.args.self.now.checked c.recheck.new.checked refl
    (subst P c.take-kept.ensures.value c.in-Ok.ensures.counts)

pub returns-in-Err-clause-counts : goal.returns-in-Err-clause-counts
returns-in-Err-clause-counts c =
    refused_counts c.args.ctx.now.models c.args.self.now.kept c.take-kept.new.self c.args.next.now c.args.mv.now c.is_valid.result c.args.self.now.checked
    c.saturating_add-self-in-Err.result c.count_entries.result c.take-kept.ensures.after (omega arith) c.count_entries.ensures c.saturating_add-self-in-Err.ensures

pub returns-then-is_told_invalid-clause-most : goal.returns-then-is_told_invalid-clause-most
returns-then-is_told_invalid-clause-most c =
    at_most c.args.ctx.now.models c.args.self.now.kept _ c.args.next.now c.args.mv.now _ _ _ (returns-then-is_told_invalid-clause-counts c)

pub returns-in-Ok-clause-most : goal.returns-in-Ok-clause-most
returns-in-Ok-clause-most c = at_most c.args.ctx.now.models c.args.self.now.kept _ c.args.next.now c.args.mv.now _ _ _ (returns-in-Ok-clause-counts c)

pub returns-in-Err-clause-most : goal.returns-in-Err-clause-most
returns-in-Err-clause-most c = at_most c.args.ctx.now.models c.args.self.now.kept _ c.args.next.now c.args.mv.now _ _ _ (returns-in-Err-clause-counts c)

-- ---- the verdicts

pub returns-then-is_told_invalid-clause-still : goal.returns-then-is_told_invalid-clause-still
returns-then-is_told_invalid-clause-still c = same_kept c.args.ctx.now.models c.args.self.now.kept c.args.next.now

pub returns-in-Ok-clause-still : goal.returns-in-Ok-clause-still
returns-in-Ok-clause-still c =
    let P : Option Kept → Type 0 = λ o. AreStillKept c.args.ctx.now.models o c.args.next.now c.in-Ok.kept.verdicts.items in
    subst P c.take-kept.ensures.value c.in-Ok.ensures.still

pub returns-in-Err-clause-still : goal.returns-in-Err-clause-still
returns-in-Err-clause-still c =
    let P : Option Kept → Type 0 = λ o. IfSome o (λ k. AreStillKept c.args.ctx.now.models c.args.self.now.kept c.args.next.now k.verdicts.items) in
    subst P (sym c.take-kept.ensures.after) tt
