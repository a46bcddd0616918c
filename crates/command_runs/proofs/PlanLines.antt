-- The text of a plan line by line: where two outputs begin with whole plans, these are one, and so is what is
-- behind them.
use Rattle.std.proofs.Common.{◌≡◌, ◌<◌, ◌≤◌, ◌^◌, ℕ, suc, List, [], ◌∷◌, ◌++◌, length, append-nil, append_assoc, refl, sym, ap, ◌∙◌, arith}
use Rattle.std.specs.Prelude.{codes, decimal}
use Rattle.std.proofs.lemmas.List.{append_cancel_left}
use Rattle.std.proofs.lemmas.Fmt.{decimal_injective}
use Rattle.conf_doc.specs.Texts.{compact}
use Rattle.patch_core.specs.Writing.{operation_document}
use Rattle.move_core.specs.Operations.{count_line, number_text, op, plan_line, plan_lines, plan_text}
use Rattle.move_core.specs.declared.moves.Move.{Move}
use Rattle.writing_commands.proofs.CompactLines.{compact_is_one_line}
use Rattle.writing_commands.proofs.Lines.{IsOneLine, decimal_is_one_line, first_lines, one_line-append}
use Rattle.command_runs.specs.Works.{FitTheirPlaces}
use Rattle.command_runs.proofs.CompactTexts.{compacts_split}
use Rattle.command_runs.proofs.MoveOperations.{ReadsTokens, move_is_told}

-- a line without its end
abbrev line : ℕ → Move → List ℕ
line i m = number_text i ++ compact (operation_document (op m))

line_is_one : (i : ℕ) (m : Move) → IsOneLine (line i m)
line_is_one i m =
    one_line-append (number_text i) (compact (operation_document (op m)))
    (one_line-append (decimal i) (codes " ") (decimal_is_one_line i) (omega arith, tt))
    (compact_is_one_line (operation_document (op m)))

one_more : (i : ℕ) (m : Move) (rest x : List ℕ) → (plan_line i m ++ rest) ++ x ≡ line i m ++ 10 ∷ (rest ++ x)
one_more i m rest x =
    append_assoc (plan_line i m) rest x ∙ append_assoc (line i m) (10 ∷ []) (rest ++ x)

-- a line isn't nothing
no_line : (a rest : List ℕ) → a ++ 10 ∷ rest ≡ [] → ⊥
no_line [] rest e = absurd cc
no_line (c ∷ a) rest e = absurd cc

-- whole lines of one plan aren't more than those of another that goes on with them
as_many : (i : ℕ) (ms ns : List Move) (y : List ℕ) → plan_lines i ms ≡ plan_lines i ns ++ y → length ns ≤ length ms
as_many i ms [] y e = omega arith
as_many i [] (n ∷ ns) y e =
    absurd (no_line (line i n) (plan_lines (suc i) ns ++ y) (sym (one_more i n (plan_lines (suc i) ns) y) ∙ sym e))
as_many i (m ∷ ms) (n ∷ ns) y e =
    let both = first_lines (line i m) (line i n) (plan_lines (suc i) ms ++ []) (plan_lines (suc i) ns ++ y)
    (line_is_one i m) (line_is_one i n)
    (sym (one_more i m (plan_lines (suc i) ms) []) ∙ append-nil (plan_lines i (m ∷ ms))
    ∙ e ∙ one_more i n (plan_lines (suc i) ns) y) in
    let fewer = as_many (suc i) ms ns y (sym (append-nil (plan_lines (suc i) ms)) ∙ both.1) in
    omega (arith, fewer)

-- as many lines of two plans are of the same moves
lines_split : ReadsTokens → (i : ℕ) (ms ns : List Move) (x y : List ℕ) → FitTheirPlaces ms → FitTheirPlaces ns
    → length ms ≡ length ns → plan_lines i ms ++ x ≡ plan_lines i ns ++ y → (ms ≡ ns) × (x ≡ y)
lines_split reads i [] [] x y fit fits long e = (refl, e)
lines_split reads i [] (n ∷ ns) x y fit fits long e = absurd (omega (arith, long))
lines_split reads i (m ∷ ms) [] x y fit fits long e = absurd (omega (arith, long))
lines_split reads i (m ∷ ms) (n ∷ ns) x y fit fits long e =
    let both = first_lines (line i m) (line i n) (plan_lines (suc i) ms ++ x) (plan_lines (suc i) ns ++ y)
    (line_is_one i m) (line_is_one i n)
    (sym (one_more i m (plan_lines (suc i) ms) x) ∙ e ∙ one_more i n (plan_lines (suc i) ns) y) in
    let texts = append_cancel_left (number_text i) (compact (operation_document (op m)))
    (compact (operation_document (op n))) both.0 in
    let documents = compacts_split (operation_document (op m)) (operation_document (op n)) [] []
    (append-nil _ ∙ texts ∙ sym (append-nil _)) in
    let more = lines_split reads (suc i) ms ns x y fit.1 fits.1 (omega (arith, long)) both.1 in (
      ap (λ (w : Move). w ∷ ms) (move_is_told reads m n fit.0 fits.0 documents.0) ∙ ap (λ (ws : List Move). n ∷ ws)
          more.0,
      more.1,
    )

-- ---- the first line

-- it without its end
abbrev pub count : ℕ → List ℕ
count n = codes "plan " ++ decimal n

pub count_is_one : (n : ℕ) → IsOneLine (count n)
count_is_one n = one_line-append (codes "plan ") (decimal n)
    (omega arith, (omega arith, (omega arith, (omega arith, (omega arith, tt))))) (decimal_is_one_line n)

pub counted : (ms : List Move) (x : List ℕ) → plan_text ms ++ x ≡ count (length ms) ++ 10 ∷ (plan_lines 1 ms ++ x)
counted ms x = append_assoc (count_line (length ms)) (plan_lines 1 ms) x ∙ append_assoc (count (length ms)) (10 ∷ [])
    (plan_lines 1 ms ++ x)

heads_split : (ms ns : List Move) (x y : List ℕ) → plan_text ms ++ x ≡ plan_text ns ++ y
    → (decimal (length ms) ≡ decimal (length ns)) × (plan_lines 1 ms ++ x ≡ plan_lines 1 ns ++ y)
heads_split ms ns x y e =
    let both = first_lines (count (length ms)) (count (length ns)) (plan_lines 1 ms ++ x) (plan_lines 1 ns ++ y)
    (count_is_one (length ms)) (count_is_one (length ns))
    (sym (counted ms x) ∙ e ∙ counted ns y) in
    (append_cancel_left (codes "plan ") (decimal (length ms)) (decimal (length ns)) both.0, both.1)

-- ---- whole plans

-- where two outputs are one, so are the plans at their heads
pub plans_split : ReadsTokens → (ms ns : List Move) (x y : List ℕ) → FitTheirPlaces ms → FitTheirPlaces ns
    → length ms < 2 ^ 64 → length ns < 2 ^ 64 → plan_text ms ++ x ≡ plan_text ns ++ y → (ms ≡ ns) × (x ≡ y)
plans_split reads ms ns x y fit fits few fewer e =
    let h = heads_split ms ns x y e in
    lines_split reads 1 ms ns x y fit fits (decimal_injective (length ms) (length ns) few fewer h.0) h.1

-- lines of as many moves have nothing behind them
nothing_behind : (i : ℕ) (ms ns : List Move) (y : List ℕ) → length ms ≡ length ns
    → plan_lines i ms ≡ plan_lines i ns ++ y → y ≡ []
nothing_behind i [] [] y long e = sym e
nothing_behind i [] (n ∷ ns) y long e = absurd (omega (arith, long))
nothing_behind i (m ∷ ms) [] y long e = absurd (omega (arith, long))
nothing_behind i (m ∷ ms) (n ∷ ns) y long e =
    let both = first_lines (line i m) (line i n) (plan_lines (suc i) ms ++ []) (plan_lines (suc i) ns ++ y)
    (line_is_one i m) (line_is_one i n)
    (sym (one_more i m (plan_lines (suc i) ms) []) ∙ append-nil (plan_lines i (m ∷ ms))
    ∙ e ∙ one_more i n (plan_lines (suc i) ns) y) in
    nothing_behind (suc i) ms ns y (omega (arith, long)) (sym (append-nil (plan_lines (suc i) ms)) ∙ both.1)

-- a front of the text of a plan that isn't all of it has no whole plan
pub front_has_no_plan : (ms ns : List Move) (y : List ℕ) → length ms < 2 ^ 64 → plan_text ms ≡ plan_text ns ++ y
    → y ≡ []
front_has_no_plan ms ns y few e =
    let h = heads_split ms ns [] y (append-nil (plan_text ms) ∙ e) in
    let lines : plan_lines 1 ms ≡ plan_lines 1 ns ++ y = sym (append-nil (plan_lines 1 ms)) ∙ h.1 in
    let fewer = as_many 1 ms ns y lines in
    nothing_behind 1 ms ns y (decimal_injective (length ms) (length ns) few (omega (arith, few, fewer)) h.0) lines
