use Rattle.std.proofs.Common.{Contains, rules, arith}
use Rattle.std.proofs.lemmas.Fn.{All-from_retain}
use Rattle.std.proofs.lemmas.List.Elements.{All-contains_itself}
use Rattle.recheck.specs.Turned.{Reads}
use Rattle.recheck.proofs.VerdictDrops.{among_itself}
use Rattle.recheck.proofs.Lists.{all_kept}
use Rattle.recheck.proofs.ParallelWalks.{left_itself, left_retained}
use Rattle.recheck.proofs.VerdictWalks.{when_false}
use Rattle.recheck.proofs.musts.drop_readers.Goals as goal

pub returns-clause-among : goal.returns-clause-among
returns-clause-among c =
    let old = c.args.verdicts.now.items in
    let is = c.retain.ensures.filtered in
    record { each = all_kept (Contains old) is.0 old c.retain.new.self.items is.4 (All-contains_itself old); shorter = omega (arith, c.retain.ensures.bound) }

pub returns-clause-dropped : goal.returns-clause-dropped
returns-clause-dropped c = All-from_retain _ (λ v. ¬ Reads c.args.models.now c.args.table.now v) _ (λ x b f' k. search rules) _ _ c.retain.ensures.filtered

pub returns-then-not-one_may_read-clause-among : goal.returns-then-not-one_may_read-clause-among
returns-then-not-one_may_read-clause-among c = among_itself c.args.verdicts.now.items

pub returns-clause-left : goal.returns-clause-left
returns-clause-left c =
    left_retained _ (Reads c.args.models.now c.args.table.now) _ (λ x b f' k. search (rules, when_false)) _ _ c.retain.ensures.filtered

pub returns-then-not-one_may_read-clause-left : goal.returns-then-not-one_may_read-clause-left
returns-then-not-one_may_read-clause-left c = left_itself _ c.args.verdicts.now.items
