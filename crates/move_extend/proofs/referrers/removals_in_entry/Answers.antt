use Rattle.std.proofs.Common.{◌≡◌, [], sym, subst}
use Rattle.conf_check.specs.Wants.{IsNamed, want_of}
use Rattle.move_extend.proofs.EntryWants.{IsEntryWalk, entry_begins, entry_ends, entry_goes_on, walk_wants}
use Rattle.move_extend.proofs.Names.{names_are_path}
use Rattle.move_extend.proofs.referrers.removals_in_entry.Goals as goal

pub loop-at-init : goal.loop-at-init
loop-at-init c =
    let change = c.args.change.now in
    let same : c.entry_wants-at-items.result ≡ c.into_iter-at-iterator.result = cc in (
      tt,
      tt,
      subst (λ s. IsEntryWalk change c.args.gone.now.table.now c.args.table.now c.args.key.now [] s c.new-found.result) same
          (subst (λ found. IsEntryWalk change c.args.gone.now.table.now c.args.table.now c.args.key.now [] c.entry_wants-at-items.result found) (sym c.new-found.ensures)
          (entry_begins change c.args.gone.now.table.now c.args.table.now c.args.key.now [] c.entry_wants-at-items.result
          c.entry_wants-at-items.ensures.models c.entry_wants-at-items.ensures.config c.entry_wants-at-items.ensures.ahead)),
    )

pub find_removal-requires-clause-path : goal.find_removal-requires-clause-path
find_removal-requires-clause-path c =
    let first = c.in-Some.ensures.steps.gives in
    names_are_path c.args.change.now.cur.now first.place c.in-Some.at c.len-tables.ensures.formed
    (subst (λ d. IsNamed d first.place c.in-Some.at) c.loop-at.invariant.2.of first.named)

pub find_removal-requires-clause-only : goal.find_removal-requires-clause-only
find_removal-requires-clause-only c = λ broken.
    let steps = c.in-Some.ensures.steps in
    c.requires steps.gives.place (want_of c.in-Some.at.want)
    (walk_wants c.args.change.now c.args.gone.now.table.now c.args.table.now c.args.key.now [] c.loop-at.at-iterator c.next.new.self c.in-Some.at
    c.loop-at.found c.loop-at.invariant.2 steps)
    broken

pub loop-at-preserved : goal.loop-at-preserved
loop-at-preserved c = (
  tt,
  tt,
  entry_goes_on c.args.change.now c.args.gone.now.table.now c.args.table.now c.args.key.now [] c.loop-at.at-iterator c.next.new.self c.in-Some.at
      c.loop-at.found c.find_removal.new.found c.loop-at.invariant.2 c.in-Some.ensures.steps c.in_ok-find_removal.ensures,
)

pub returns : goal.returns
returns c =
    entry_ends c.args.change.now c.args.gone.now.table.now c.args.table.now c.args.key.now [] c.loop-at.at-iterator c.next.new.self c.loop-at.found
    c.loop-at.invariant.2 c.in-None.ensures.steps
