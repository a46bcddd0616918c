-- Generated moves, each with what is told of it.
use Rattle.std.proofs.Common.{◌≡◌, List, get_or, subst, All, Contains}
use Rattle.std.proofs.lemmas.List.Elements.{Contains-get_or, All-contains}
use Rattle.move_core.specs.declared.moves.Generated.{Generated}
use Rattle.move_lists.specs.Firsts.{generated_of}
use Rattle.move_lists.specs.declared.firsts.First.{First}
use Rattle.move_lists.proofs.Members.{member_map}

-- what is true of the moves, and what is told of each
pub both_told : (P : Generated → Type 0) (Q : First → Type 0) (gs : List Generated) (fs : List First) → All P gs → All Q fs → generated_of fs ≡ gs
    → All (λ f. P f.generated × Q f) fs
both_told P Q gs fs each told same = λ k d lt. by (get_or fs k d) (Contains-get_or fs k d lt)
  where
    by : (f : First) → Contains fs f → P f.generated × Q f
    by f there = (
      All-contains P gs f.generated each (subst (λ l. Contains l f.generated) same (member_map (λ x. x.generated) fs f there)),
      All-contains Q fs f told there,
    )
