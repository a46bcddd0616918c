use Rattle.yang_pattern.proofs.Scanning.{scanned_nothing}
use Rattle.yang_pattern.proofs.faults.Scan.new.Goals as goal

pub returns : goal.returns
returns c = scanned_nothing c.new.result c.new.ensures
