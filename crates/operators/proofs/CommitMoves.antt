-- The moves of the first commits.
use Rattle.std.proofs.Common.{◌≡◌, ◌+◌, ℕ, zero, suc, List, [], ◌∷◌, ◌++◌, ap, ◌∙◌, arith, take, Some}
use Rattle.std.specs.Prelude.{slice_get}
use Rattle.move_core.specs.declared.moves.Move.{Move}
use Rattle.sessions.specs.Runs.{moves_of}
use Rattle.sessions.specs.declared.commits.Commit.{Commit}

move_more : (ks : List Commit) (i : ℕ) (k : Commit) → slice_get ks i ≡ Some k
    → moves_of (take i ks) ++ k.mv ∷ [] ≡ moves_of (take (suc i) ks)
move_more [] zero k at = absurd cc
move_more [] (suc i) k at = absurd cc
move_more (j ∷ ks) zero k at = let same : k ≡ j = cc in ap (λ (x : Commit). x.mv ∷ []) same
move_more (j ∷ ks) (suc i) k at = ap (λ (ms : List Move). j.mv ∷ ms) (move_more ks i k at)

-- one more
pub move_next : (ks : List Commit) (i : ℕ) (k : Commit) (m : Move) (ms : List Move) → slice_get ks i ≡ Some k
    → m ≡ k.mv → ms ≡ moves_of (take i ks)
    → ms ++ m ∷ [] ≡ moves_of (take (i + 1) ks)
move_next ks i k m ms at is so_far =
    let up : suc i ≡ i + 1 = omega arith in
    (λ t. so_far t ++ is t ∷ []) ∙ move_more ks i k at ∙ ap (λ (n : ℕ). moves_of (take n ks)) up
