use Rattle.patch_core.proofs.RoundTrip.{pointer-tokens, tokens-pointer}
use Rattle.patch_core.proofs.laws.tokens_of_pointer.Goals as goal

pub returns : goal.returns
returns c = record { there = tokens-pointer; back = pointer-tokens }
