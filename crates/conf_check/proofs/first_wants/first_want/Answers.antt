use Rattle.std.proofs.Common.{◌≤◌, length, sym, subst, arith}
use Rattle.conf_check.proofs.Places.{named_at}
use Rattle.conf_check.proofs.WantPlaces.{UpTo, none_past_keys, behind_table, behind_key, none_past_entry, first_in_configuration, none_at_all}
use Rattle.conf_check.proofs.first_wants.first_want.Goals as goal

pub loop-at-preserved-then-at-len : goal.loop-at-preserved-then-at-len
loop-at-preserved-then-at-len c =
    let named = named_at c.args.config.now c.loop-at.at.table c.part_at.result.now c.part_at.ensures.part in
    let past : length c.part_at.result.now ≤ c.loop-at.at.key = omega (arith, c.len-in-loop-at.ensures.len, c.if-at-len.true) in
    let up = subst (UpTo c.args.models.now c.args.config.now c.args.from) (sym c.start_of_entry-at.ensures) (
      none_past_keys c.args.models.now c.args.config.now c.args.from c.loop-at.at c.loop-at.invariant.none c.loop-at.invariant.behind
          (named.0, c.part_at.result.now) named.1 past,
      behind_table c.args.models.now c.args.config.now c.args.from c.loop-at.at c.loop-at.invariant.none c.loop-at.invariant.behind,
    ) in
    record { none = up.0; behind = up.1 }

pub returns-in-Some-clause-first : goal.returns-in-Some-clause-first
returns-in-Some-clause-first c =
    first_in_configuration c.args.models.now c.args.config.now c.args.from c.loop-at.at c.loop-at.invariant.none c.loop-at.invariant.behind
    c.in-Some.found c.in-Some.ensures.first

pub loop-at-preserved : goal.loop-at-preserved
loop-at-preserved c =
    let up = subst (UpTo c.args.models.now c.args.config.now c.args.from) (sym c.start_of_entry-at-else-at-len.ensures) (
      none_past_entry c.args.models.now c.args.config.now c.args.from c.loop-at.at c.loop-at.invariant.none c.loop-at.invariant.behind
          c.in_default.ensures.first,
      behind_key c.args.models.now c.args.config.now c.args.from c.loop-at.at c.loop-at.invariant.none c.loop-at.invariant.behind,
    ) in
    record { none = up.0; behind = up.1 }

pub returns-clause-first : goal.returns-clause-first
returns-clause-first c =
    let past : length c.args.config.now ≤ c.loop-at.at.table = omega (arith, c.len.ensures.len, c.loop-at-test.false) in
    none_at_all c.args.models.now c.args.config.now c.args.from c.loop-at.at c.loop-at.invariant.none c.loop-at.invariant.behind past
