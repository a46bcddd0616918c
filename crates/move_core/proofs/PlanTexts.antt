-- The text of a plan, one line more at a time.
use Rattle.std.proofs.Common.{◌≡◌, ℕ, suc, ◌+◌, ◌<◌, List, [], ◌∷◌, ◌++◌, length, take, sym, ap, ◌∙◌, arith, append_assoc}
use Rattle.std.proofs.lemmas.List.{append-nil, length-take-le}
use Rattle.move_core.specs.Operations.{plan_line, plan_lines}
use Rattle.move_core.specs.declared.moves.Move.{Move}

lines_more : (i : ℕ) (ms : List Move) (m : Move) → plan_lines i (ms ++ m ∷ []) ≡ plan_lines i ms ++ plan_line (length ms + i) m
lines_more i [] m =
    let same : i ≡ 0 + i = omega arith in
    append-nil (plan_line i m) ∙ ap (λ n. plan_line n m) same
lines_more i (n ∷ ms) m =
    let same : length ms + suc i ≡ suc (length ms) + i = omega arith in
    ap (λ text. plan_line i n ++ text) (lines_more (suc i) ms m ∙ ap (λ k. plan_lines (suc i) ms ++ plan_line k m) same)
    ∙ sym (append_assoc (plan_line i n) (plan_lines (suc i) ms) (plan_line (suc (length ms) + i) m))

-- the line of the next move behind those of the moves before it
pub written_more : (count : List ℕ) (ms : List Move) (i : ℕ) (m : Move) (old new : List ℕ) → i < length ms → take (i + 1) ms ≡ take i ms ++ m ∷ [] → old ≡ count ++ plan_lines 1 (take i ms) → new ≡ old ++ plan_line (i + 1) m → new ≡ count ++ plan_lines 1 (take (i + 1) ms)
written_more count ms i m old new within more before after =
    let long : length (take i ms) ≡ i = length-take-le i ms (omega arith) in
    after
    ∙ ap (λ text. text ++ plan_line (i + 1) m) before
    ∙ append_assoc count (plan_lines 1 (take i ms)) (plan_line (i + 1) m)
    ∙ ap (λ n. count ++ (plan_lines 1 (take i ms) ++ plan_line (n + 1) m)) (sym long)
    ∙ ap (λ text. count ++ text) (sym (lines_more 1 (take i ms) m))
    ∙ ap (λ ns. count ++ plan_lines 1 ns) (sym more)
