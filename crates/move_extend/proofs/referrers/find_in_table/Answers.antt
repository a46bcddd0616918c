use Rattle.std.proofs.Common.{option_and_then, map, refl, sym, ap, ◌∙◌, arith, true≢false}
use Rattle.conf_doc.proofs.Edits.{find_at}
use Rattle.conf_doc.proofs.Lists.{length-map}
use Rattle.conf_doc.specs.Pairs.{find}
use Rattle.move_extend.specs.Mentions.{GivesOfEntry, GivesOfTable}
use Rattle.move_extend.proofs.DistinctEntries.{fresh_entry}
use Rattle.move_extend.proofs.DistinctLists.{finds_none, loop_begins, loop_ends, loop_more}
use Rattle.move_extend.proofs.Leafrefs.{table_unreferred}
use Rattle.move_extend.proofs.referrers.find_in_table.Goals as goal

pub returns-then-not-table_refers : goal.returns-then-not-table_refers
returns-then-not-table_refers c =
    let t = c.args.gone.now.table.now in
    finds_none (GivesOfTable c.args.change.now t (c.args.table.now, c.args.entries.now)) c.args.found.now.items c.args.found.now.items refl
    (table_unreferred c.args.change.now t c.args.table.now c.args.entries.now
    (λ may. true≢false (sym (c.table_refers.ensures may) ∙ c.if-not-table_refers.true)))

pub loop-i-init : goal.loop-i-init
loop-i-init c =
    loop_begins (GivesOfEntry c.args.change.now c.args.gone.now.table.now c.args.table.now) (map (λ e. e.0) c.args.entries.now) c.args.found.now.items

pub find_in_mentioning-requires-clause-entry : goal.find_in_mentioning-requires-clause-entry
find_in_mentioning-requires-clause-entry c =
    ap (option_and_then (find c.name_at-key.result.now)) c.requires.table
    ∙ find_at c.args.entries.now c.name_at-key.result.now c.loop-i.i c.part_at-fields.ensures.formed.shaped.rising c.name_at-key.ensures ∙ c.part_at-fields.ensures.part

pub find_in_mentioning-requires-clause-fresh : goal.find_in_mentioning-requires-clause-fresh
find_in_mentioning-requires-clause-fresh c =
    fresh_entry c.args.change.now c.args.gone.now.table.now c.args.table.now c.args.entries.now c.args.found.now.items c.loop-i.found.items c.loop-i.i
    c.name_at-key.result.now c.part_at-fields.ensures.formed.shaped.rising c.name_at-key.ensures c.requires.fresh c.loop-i.invariant

pub loop-i-preserved : goal.loop-i-preserved
loop-i-preserved c =
    loop_more (GivesOfEntry c.args.change.now c.args.gone.now.table.now c.args.table.now) (map (λ e. e.0) c.args.entries.now) c.loop-i.i c.name_at-key.result.now
    c.name_at-key.ensures c.args.found.now.items c.loop-i.found.items c.find_in_mentioning.new.found.items c.loop-i.invariant c.in_ok-find_in_mentioning.ensures

pub returns : goal.returns
returns c =
    loop_ends (GivesOfEntry c.args.change.now c.args.gone.now.table.now c.args.table.now) (map (λ e. e.0) c.args.entries.now) c.loop-i.i
    c.args.found.now.items c.loop-i.found.items (rw (length-map (λ e. e.0) c.args.entries.now) (omega arith)) c.loop-i.invariant
