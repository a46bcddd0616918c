use Rattle.plan_search.specs.Hashes.{entry_hash}
use Rattle.plan_search.proofs.hashed.hash_entry.Goals as goal

pub returns : goal.returns
unfolding entry_hash
returns c = cc
