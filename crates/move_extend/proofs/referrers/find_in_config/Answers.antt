use Rattle.std.proofs.Common.{[], ◌∙◌, subst, sym, arith}
use Rattle.conf_doc.proofs.Edits.{find_at}
use Rattle.move_core.specs.Appends.{Appends}
use Rattle.move_extend.specs.Found.{GivenByOne, Finds}
use Rattle.move_extend.specs.Mentions.{GivesOfTable}
use Rattle.move_extend.specs.Referrers.{GivesRemovals}
use Rattle.move_extend.proofs.DistinctEntries.{fresh_table}
use Rattle.move_extend.proofs.DistinctLists.{GivenBefore, appends_found, finds_as, loop_begins, loop_ends, loop_more}
use Rattle.move_extend.proofs.GoneKeys.{of_tables}
use Rattle.move_extend.proofs.Texts.{pair_at}
use Rattle.move_extend.proofs.referrers.find_in_config.Goals as goal

pub loop-i-init : goal.loop-i-init
loop-i-init c =
    let P = GivesOfTable c.args.change.now c.args.gone.now.table.now in
    subst (λ found. Finds (GivenBefore P c.args.change.now.cur.now 0) [] found) (sym c.new-found.ensures.items) (loop_begins P c.args.change.now.cur.now [])

pub find_in_table-requires-clause-table : goal.find_in_table-requires-clause-table
find_in_table-requires-clause-table c =
    find_at c.args.change.now.cur.now c.name_at.result.now c.loop-i.i c.part_at.ensures.formed.shaped.rising c.name_at.ensures ∙ c.part_at.ensures.part

pub find_in_table-requires-clause-fresh : goal.find_in_table-requires-clause-fresh
find_in_table-requires-clause-fresh c =
    let cur = c.args.change.now.cur.now in
    fresh_table c.args.change.now c.args.gone.now.table.now c.loop-i.found.items c.loop-i.i c.name_at.result.now c.part_at.result.now
    c.part_at.ensures.formed.shaped.rising
    (pair_at cur c.loop-i.i c.name_at.result.now c.part_at.result.now c.name_at.ensures c.part_at.ensures.part) c.loop-i.invariant

pub loop-i-preserved : goal.loop-i-preserved
loop-i-preserved c =
    let cur = c.args.change.now.cur.now in
    loop_more (GivesOfTable c.args.change.now c.args.gone.now.table.now) cur c.loop-i.i (c.name_at.result.now, c.part_at.result.now)
    (pair_at cur c.loop-i.i c.name_at.result.now c.part_at.result.now c.name_at.ensures c.part_at.ensures.part)
    [] c.loop-i.found.items c.find_in_table.new.found.items c.loop-i.invariant c.in_ok-find_in_table.ensures

pub returns : goal.returns
returns c =
    let change = c.args.change.now in
    let t = c.args.gone.now.table.now in
    let P = GivesOfTable change t in
    let Gives = GivesRemovals change.models.now change.cur.now change.next.now t in
    subst (Appends Gives []) (sym c.from_vec.ensures)
    (appends_found Gives c.loop-i.found.items
    (finds_as (GivenByOne P change.cur.now) Gives [] c.loop-i.found.items (of_tables change t)
    (loop_ends P change.cur.now c.loop-i.i [] c.loop-i.found.items (omega arith) c.loop-i.invariant)))
