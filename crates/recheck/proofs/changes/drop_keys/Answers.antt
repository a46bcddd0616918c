use Rattle.std.proofs.Common.{◌≡◌, Some, map, option_map, slice_get, subst, inr, arith}
use Rattle.conf_doc.specs.WellFormed.{IsConfig}
use Rattle.conf_doc.specs.declared.configuration.Config.{Config}
use Rattle.recheck.proofs.VerdictDrops.{among_among, keys_end, keys_more, keys_start, name_same, name_unread, still_unread, table_same}
use Rattle.recheck.specs.Turned.{IsTurned, MayTouch, Reads}
use Rattle.recheck.proofs.RemainingVerdicts.{entry_turns, some_of, table_differs}
use Rattle.recheck.proofs.ParallelWalks.{left_for, left_itself, left_then}
use Rattle.recheck.proofs.changes.drop_keys.Goals as goal

pub returns-then-is_table-clause-handled : goal.returns-then-is_table-clause-handled
returns-then-is_table-clause-handled c =
    table_same c.args.models.now c.args.index.now.config c.args.next.now (subst (λ x. IsConfig x) c.config-2.ensures c.part_at-entries.ensures.formed)
    c.args.table c.name_at-name.result.now c.part_at-entries.result.now
    (subst (λ (x : Config). slice_get (map (λ p. p.0) x) c.args.table ≡ Some c.name_at-name.result.now) c.config.ensures c.name_at-name.ensures)
    (subst (λ (x : Config). slice_get (map (λ p. p.1) x) c.args.table ≡ Some c.part_at-entries.result.now) c.config-2.ensures c.part_at-entries.ensures.part)
    c.table-others.result (some_of c.table-others.result _ c.table-others.ensures.table) c.args.verdicts.now.items (c.is_table.ensures.0 c.if-is_table.true)

pub returns-then-is_table-clause-table : goal.returns-then-is_table-clause-table
returns-then-is_table-clause-table c =
    name_same c.args.models.now c.args.index.now.config c.args.next.now (subst (λ x. IsConfig x) c.config-2.ensures c.part_at-entries.ensures.formed)
    c.args.table c.name_at-name.result.now c.part_at-entries.result.now
    (subst (λ (x : Config). slice_get (map (λ p. p.0) x) c.args.table ≡ Some c.name_at-name.result.now) c.config.ensures c.name_at-name.ensures)
    (subst (λ (x : Config). slice_get (map (λ p. p.1) x) c.args.table ≡ Some c.part_at-entries.result.now) c.config-2.ensures c.part_at-entries.ensures.part)
    c.table-others.result (some_of c.table-others.result _ c.table-others.ensures.table) c.args.verdicts.now.items (c.is_table.ensures.0 c.if-is_table.true)

pub loop-i-init : goal.loop-i-init
loop-i-init c = record {
  among = c.drop_readers.ensures.among;
  left =
      left_for (Reads c.args.models.now c.name_at-name.result.now) (IsTurned c.args.models.now c.args.index.now.config c.args.next.now)
      (λ v is. inr (record {
        table = c.name_at-name.result.now;
        differs = table_differs c.args.models.now c.args.index.now.config c.args.next.now (subst (λ x. IsConfig x) c.config-2.ensures c.part_at-entries.ensures.formed)
            c.args.table c.name_at-name.result.now c.part_at-entries.result.now
            (subst (λ (x : Config). slice_get (map (λ p. p.0) x) c.args.table ≡ Some c.name_at-name.result.now) c.config.ensures c.name_at-name.ensures)
            (subst (λ (x : Config). slice_get (map (λ p. p.1) x) c.args.table ≡ Some c.part_at-entries.result.now) c.config-2.ensures c.part_at-entries.ensures.part)
            c.table-others.result c.table-others.ensures.table _ c.if-is_table.false c.is_table.ensures.1;
        reads = is;
      }))
      c.args.verdicts.now.items c.drop_readers.new.verdicts.items c.drop_readers.ensures.left;
  unread = c.drop_readers.ensures.dropped;
  handled = keys_start c.args.models.now c.args.index.now.config c.args.next.now c.drop_readers.new.verdicts.items c.args.table;
}

pub loop-i-preserved : goal.loop-i-preserved
loop-i-preserved c =
    let old = c.loop-i.verdicts.items in
    let new = c.drop_unless_same.new.verdicts.items in
    record {
      among = among_among c.args.verdicts.now.items old new c.loop-i.invariant.among c.drop_unless_same.ensures.among;
      left =
          let D = IsTurned c.args.models.now c.args.index.now.config c.args.next.now in
          left_then D (λ v. (¬ (option_map (λ e. e.now) c.entry_in-other.result ≡ Some c.part_at-entry.result.now))
          × MayTouch c.args.models.now c.args.index.now.config c.name_at-name.result.now c.name_at-key.result.now v) D (λ v is. is)
          (entry_turns c.args.models.now c.args.index.now.config c.args.next.now (subst (λ x. IsConfig x) c.config-2.ensures c.part_at-entries.ensures.formed)
          c.args.table c.name_at-name.result.now c.part_at-entries.result.now
          (subst (λ (x : Config). slice_get (map (λ p. p.0) x) c.args.table ≡ Some c.name_at-name.result.now) c.config.ensures c.name_at-name.ensures)
          (subst (λ (x : Config). slice_get (map (λ p. p.1) x) c.args.table ≡ Some c.part_at-entries.result.now) c.config-2.ensures c.part_at-entries.ensures.part)
          c.table-others.result c.table-others.ensures.table c.loop-i.i c.name_at-key.result.now c.part_at-entry.result.now c.name_at-key.ensures
          c.part_at-entry.ensures.part c.entry_in-other.result c.entry_in-other.ensures)
          c.args.verdicts.now.items old new c.loop-i.invariant.left c.drop_unless_same.ensures.left;
      unread = still_unread c.args.models.now c.name_at-name.result.now old new c.drop_unless_same.ensures.among c.loop-i.invariant.unread;
      handled =
          keys_more c.args.models.now c.args.index.now.config c.args.next.now (subst (λ x. IsConfig x) c.config-2.ensures c.part_at-entries.ensures.formed)
          c.args.table c.name_at-name.result.now c.part_at-entries.result.now
          (subst (λ (x : Config). slice_get (map (λ p. p.0) x) c.args.table ≡ Some c.name_at-name.result.now) c.config.ensures c.name_at-name.ensures)
          (subst (λ (x : Config). slice_get (map (λ p. p.1) x) c.args.table ≡ Some c.part_at-entries.result.now) c.config-2.ensures c.part_at-entries.ensures.part)
          c.table-others.result (some_of c.table-others.result _ c.table-others.ensures.table) old new c.loop-i.i c.name_at-key.result.now c.part_at-entry.result.now c.entry_in-other.result
          c.loop-i.invariant.handled c.drop_unless_same.ensures.among c.name_at-key.ensures c.part_at-entry.ensures.part (some_of c.entry_in-other.result _ c.entry_in-other.ensures)
          c.drop_unless_same.ensures.handled;
    }

pub returns-clause-table : goal.returns-clause-table
returns-clause-table c =
    name_unread c.args.models.now c.args.index.now.config c.args.next.now (subst (λ x. IsConfig x) c.config-2.ensures c.part_at-entries.ensures.formed)
    c.args.table c.name_at-name.result.now c.part_at-entries.result.now
    (subst (λ (x : Config). slice_get (map (λ p. p.0) x) c.args.table ≡ Some c.name_at-name.result.now) c.config.ensures c.name_at-name.ensures)
    (subst (λ (x : Config). slice_get (map (λ p. p.1) x) c.args.table ≡ Some c.part_at-entries.result.now) c.config-2.ensures c.part_at-entries.ensures.part)
    c.loop-i.verdicts.items c.loop-i.invariant.unread

pub returns-clause-handled : goal.returns-clause-handled
returns-clause-handled c =
    keys_end c.args.models.now c.args.index.now.config c.args.next.now c.loop-i.verdicts.items c.args.table c.loop-i.i c.part_at-entries.result.now
    (subst (λ (x : Config). slice_get (map (λ p. p.1) x) c.args.table ≡ Some c.part_at-entries.result.now) c.config-2.ensures c.part_at-entries.ensures.part)
    (omega (arith, c.len-i-end.ensures.len, c.loop-i-test.false)) c.loop-i.invariant.handled

pub returns-then-is_table-clause-left : goal.returns-then-is_table-clause-left
returns-then-is_table-clause-left c = left_itself _ c.args.verdicts.now.items
