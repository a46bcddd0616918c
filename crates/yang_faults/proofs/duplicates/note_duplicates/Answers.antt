use Rattle.std.proofs.Common.{[]}
use Rattle.yang_faults.proofs.duplicates.note_duplicates.Goals as goal

pub returns : goal.returns
returns c = (c.in_ok-note_all_given.ensures [] c.new-set.ensures).0
