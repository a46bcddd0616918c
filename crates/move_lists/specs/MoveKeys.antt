-- Moves as keys of a map: keys are equal where the moves are the same.
use Rattle.std.proofs.Common.{◌≡◌, ℕ, true, List, [], ◌∷◌, ap, subst}
use Rattle.std.specs.Bool.{Decides}
use Rattle.std.specs.Cmp.{Equal-is, IsEquivalence, IsPartialEquivalence, IsTotalOrder, eq_by_cmp_equiv, on_total, partial_equiv_from_equiv}
use Rattle.std.specs.Hash as fed
use Rattle.std.specs.Hash.{same_Alike}
use Rattle.std.specs.Ordering.{eq_by_cmp}
use Rattle.move_core.specs.ListedOrder.{move_cmp}
use Rattle.move_core.specs.ListedOrderLaws.{listed_same, listed_total}
use Rattle.move_core.specs.Moves.{Place, place}
use Rattle.move_core.specs.declared.moves.Move.{Move}
use Rattle.move_core.specs.declared.moves.Ranked.{Ranked}

-- the second name, or where there is one only, that one
abbrev pub second_or_first : Place → List ℕ
second_or_first [] = []
second_or_first (t ∷ []) = t
second_or_first (t ∷ k ∷ names) = k

-- what a hasher gets of a move
abbrev pub hashed_name : Move → List ℕ
hashed_name m = second_or_first (place m)

-- the move with the least rank
abbrev unranked : Move → Ranked
unranked m = record { tier = 0; depth = 0; class = 0; mv = m }

-- the order of moves is a total one
pub move_total : IsTotalOrder move_cmp
move_total = on_total unranked listed_total

-- equal keys are the same
pub keys_equiv : IsEquivalence (eq_by_cmp move_cmp)
keys_equiv = eq_by_cmp_equiv move_total

-- where they are compared, that is an equivalence
pub keys_per : IsPartialEquivalence (eq_by_cmp move_cmp)
keys_per = partial_equiv_from_equiv keys_equiv

-- moves are told apart by the comparison
pub keys_decide : (m n : Move) → Decides (eq_by_cmp move_cmp m n) (m ≡ n)
keys_decide m n = (
  λ h. ap (λ r. r.mv) (listed_same (unranked m) (unranked n) ((Equal-is (move_cmp m n)).0 h)),
  λ e. subst (λ x. eq_by_cmp move_cmp m x ≡ true) e (keys_equiv.refl m),
)

-- the same moves are hashed alike
pub keys_alike : (m n : Move) → eq_by_cmp move_cmp m n ≡ true
    → fed.str (hashed_name m) ≡ fed.str (hashed_name n)
keys_alike = (same_Alike (λ m. fed.str (hashed_name m)) keys_decide).fed
