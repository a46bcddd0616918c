use Rattle.std.proofs.Common.{◌≡◌, take}
use Rattle.scopes.proofs.splitting.copy_tokens.Given as goal

-- these are copied
abbrev pub invariant-loop-token : goal.invariant-loop-token
invariant-loop-token l = l.copies ≡ take l.token-index l.tokens
