-- Lines joined one behind the other.
use Rattle.std.proofs.Common.{◌≡◌, ℕ, List, [], ◌++◌, append_assoc}
use Rattle.std.proofs.lemmas.List.{append-nil}

-- four lines put one behind the other are the four joined
pub lines_joined : (a b c d f : List ℕ)
    → (((((((([] ++ a) ++ f) ++ b) ++ f) ++ c) ++ f) ++ d) ++ f)
    ≡ ((a ++ f) ++ ((b ++ f) ++ ((c ++ f) ++ ((d ++ f) ++ []))))
lines_joined a b c d f = simp (append_assoc, append-nil)
