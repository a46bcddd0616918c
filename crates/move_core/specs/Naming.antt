-- Whether a name is one of some texts that are lent.
use Rattle.std.specs.Prelude.{ℕ, List, Bool, nat_eq}
use denote.Bor.{Bor}
use Rattle.std.specs.Cmp.Lexicographic.{pointwise}
use Rattle.std.specs.List.{list_any}

-- one of the texts is the name
abbrev pub is_one_of : List (Bor (List ℕ)) → List ℕ → Bool
is_one_of names name = list_any (λ n. pointwise nat_eq name n.now) names
