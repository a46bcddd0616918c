use Rattle.std.specs.Vec.Iter.{into_iter_items}
use Rattle.conf_store.proofs.StepNameWalks.{NamesWalk}
use Rattle.conf_store.proofs.folder_files.keep_steps.Given as goal

abbrev pub invariant-loop-name : goal.invariant-loop-name
invariant-loop-name l = NamesWalk l.fn.names (into_iter_items l.name-iterator) l.steps
