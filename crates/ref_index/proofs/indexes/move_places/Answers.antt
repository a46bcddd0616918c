use Rattle.std.proofs.Common.{subst, sym}
use Rattle.ref_index.specs.EntryNames.{AreDifferences}
use Rattle.ref_index.proofs.indexes.move_places.Goals as goal

pub move_named-requires : goal.move_named-requires
move_named-requires c = record {
  map = c.requires;
  apart = subst (AreDifferences c.args.models.now c.args.config.now c.args.next.now) (sym c.as_slice.ensures.value) (c.in_ok-apart.ensures c.args.models.now);
}
