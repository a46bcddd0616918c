use Rattle.std.proofs.Common.{◌≡◌, ℕ, zero, suc, List, [], ◌∷◌, drop, Some, sym, ap, ◌∙◌}
use Rattle.std.specs.Prelude.{slice_get}
use Rattle.move_core.specs.declared.moves.Move.{Move}
use Rattle.sessions.specs.Worlds.{Session}
use Rattle.sessions.proofs.session.LiveSession.next_move.Goals as goal

-- the item at an index is the first behind those before it
first_left : (ms : List Move) (i : ℕ) (m : Move) → slice_get ms i ≡ Some m → (rest : List Move) × (drop i ms ≡ m ∷ rest)
first_left [] i m there = absurd cc
first_left (n ∷ ms) zero m there = (ms, cc)
first_left (n ∷ ms) (suc i) m there = first_left ms i m there

pub returns-then-self-len-clause-some : goal.returns-then-self-len-clause-some
returns-then-self-len-clause-some c =
    let left = first_left c.self.inside.plan c.self.inside.committed c.at.result.now c.at.ensures in
    (left.0, ap (λ (s : Session). s.rest) (sym c.self.view_is) ∙ left.1)
