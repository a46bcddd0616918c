-- Bytes are the text of one plan, or have one first fault.
use Rattle.std.proofs.Common.{◌≡◌, ◌⊎◌, ◌<◌, ◌≤◌, ◌+◌, ◌^◌, ℕ, suc, List, [], ◌∷◌, ◌++◌, length, codes, decimal, inl, inr, refl, sym, ap, ◌∙◌, subst, arith, append_assoc}
use Rattle.std.specs.Prelude.{All}
use Rattle.std.proofs.lemmas.Bool.{cases_lt}
use Rattle.std.proofs.lemmas.Fmt.{decimal_injective}
use Rattle.std.proofs.lemmas.List.{append-nil, append_cancel_left}
use Rattle.std.proofs.lemmas.List.Elements.{All-head, All-tail}
use Rattle.conf_doc.specs.Texts.{line_feed}
use Rattle.move_core.specs.Operations.{count_line, number_text, plan_line, plan_lines, plan_text}
use Rattle.move_core.specs.declared.moves.Move.{Move}
use Rattle.plan_texts.specs.Lines.{count_words}
use Rattle.plan_texts.specs.Moves.{move_text}
use Rattle.plan_texts.specs.PlanTexts.{BeginsWith, Begins, HasMore, HasNoCount, HasOther, IsFirstFault, IsMove, IsPlanText, LacksMove, count_end, done_line}
use Rattle.plan_texts.proofs.LineLemmas.{same_line}
use Rattle.plan_texts.proofs.OneMove.{ReadsBack, one_move_is}
use Rattle.plan_texts.proofs.PlanLines.{no_feed_count, no_feed_step}

-- ---- the lines of moves

-- a text begins with one line of a number
line_split : (i : ℕ) (m n : Move) (x y : List ℕ) → i < 2 ^ 32 → plan_line i m ++ x ≡ plan_line i n ++ y → (move_text m ≡ move_text n) × (x ≡ y)
line_split i m n x y small e =
    let both = same_line (number_text i ++ move_text m) (number_text i ++ move_text n) x y (no_feed_step i small m) (no_feed_step i small n)
    (sym (append_assoc (number_text i ++ move_text m) line_feed x) ∙ e ∙ append_assoc (number_text i ++ move_text n) line_feed y) in
    (append_cancel_left (number_text i) (move_text m) (move_text n) both.0, both.1)

-- the same with more lines behind it
lines_step : (i : ℕ) (m n : Move) (ms ns : List Move) (x y : List ℕ) → i < 2 ^ 32 → plan_lines i (m ∷ ms) ++ x ≡ plan_lines i (n ∷ ns) ++ y
    → (move_text m ≡ move_text n) × (plan_lines (suc i) ms ++ x ≡ plan_lines (suc i) ns ++ y)
lines_step i m n ms ns x y small e =
    line_split i m n (plan_lines (suc i) ms ++ x) (plan_lines (suc i) ns ++ y) small
    (sym (append_assoc (plan_line i m) (plan_lines (suc i) ms) x) ∙ e ∙ append_assoc (plan_line i n) (plan_lines (suc i) ns) y)

module _ (laws : ReadsBack) where
  -- as many lines are of the same moves
  lines_same : (i : ℕ) (ms ns : List Move) (x y : List ℕ) → i + length ns ≤ 2 ^ 32 → All IsMove ms → All IsMove ns → length ms ≡ length ns
      → plan_lines i ms ++ x ≡ plan_lines i ns ++ y → (ms ≡ ns) × (x ≡ y)
  lines_same i [] [] x y small is are long e = (refl, e)
  lines_same i [] (n ∷ ns) x y small is are long e = absurd (omega (arith, long))
  lines_same i (m ∷ ms) [] x y small is are long e = absurd (omega (arith, long))
  lines_same i (m ∷ ms) (n ∷ ns) x y small is are long e =
      let both = lines_step i m n ms ns x y (omega (arith, small)) e in
      let first = one_move_is laws m n (All-head IsMove m ms is) (All-head IsMove n ns are) both.0 in
      let more = lines_same (suc i) ms ns x y (omega (arith, small)) (All-tail IsMove m ms is) (All-tail IsMove n ns are) (omega (arith, long)) both.1 in
      (ap (λ (w : Move). w ∷ ms) first ∙ ap (λ (ws : List Move). n ∷ ws) more.0, more.1)

-- behind fewer lines the text goes on with the line of a move
lines_fewer : (i : ℕ) (ms ns : List Move) (x y : List ℕ) → i + length ns ≤ 2 ^ 32 → All IsMove ns → length ms < length ns
    → plan_lines i ms ++ x ≡ plan_lines i ns ++ y → (m : Move) × IsMove m × BeginsWith (plan_line (length ms + i) m) x
lines_fewer i [] [] x y small are less e = absurd (omega (arith, less))
lines_fewer i [] (n ∷ ns) x y small are less e =
    let number : i ≡ 0 + i = omega arith in
    (n, All-head IsMove n ns are, subst (λ k. BeginsWith (plan_line k n) x) number (plan_lines (suc i) ns ++ y, e ∙ append_assoc (plan_line i n) (plan_lines (suc i) ns) y))
lines_fewer i (m ∷ ms) [] x y small are less e = absurd (omega (arith, less))
lines_fewer i (m ∷ ms) (n ∷ ns) x y small are less e =
    let both = lines_step i m n ms ns x y (omega (arith, small)) e in
    let more = lines_fewer (suc i) ms ns x y (omega (arith, small)) (All-tail IsMove n ns are) (omega (arith, less)) both.1 in
    let number : length ms + suc i ≡ suc (length ms) + i = omega arith in
    (more.0, more.1, subst (λ k. BeginsWith (plan_line k more.0) x) number more.2)

-- ---- the first line

counts_same : (n k : ℕ) (a b : List ℕ) → n < count_end → k < count_end → count_line n ++ a ≡ count_line k ++ b → (n ≡ k) × (a ≡ b)
counts_same n k a b few fewer e =
    let both = same_line (count_words n) (count_words k) a b (no_feed_count n few) (no_feed_count k fewer)
    (sym (append_assoc (count_words n) line_feed a) ∙ e ∙ append_assoc (count_words k) line_feed b) in
    (decimal_injective n k (omega (arith, few)) (omega (arith, fewer)) (append_cancel_left (codes "plan ") (decimal n) (decimal k) both.0), both.1)

module _ (text : List ℕ) where
  begins_same : (n k : ℕ) (ms ns : List Move) (x y : List ℕ) → Begins text n ms x → Begins text k ns y → (n ≡ k) × (plan_lines 1 ms ++ x ≡ plan_lines 1 ns ++ y)
  begins_same n k ms ns x y one two =
      counts_same n k (plan_lines 1 ms ++ x) (plan_lines 1 ns ++ y) one.count two.count
      (sym (append_assoc (count_line n) (plan_lines 1 ms) x) ∙ sym one.written ∙ two.written ∙ append_assoc (count_line k) (plan_lines 1 ns) y)

  -- a plan, with what stands behind its moves
  whole : (ms : List Move) → IsPlanText text ms → (y : List ℕ) × Begins text (length ms) ms y × ((y ≡ []) ⊎ (y ≡ done_line))
  whole ms is = by is.written
    where
      by : (text ≡ plan_text ms) ⊎ (text ≡ plan_text ms ++ done_line) → (y : List ℕ) × Begins text (length ms) ms y × ((y ≡ []) ⊎ (y ≡ done_line))
      by (inl all) = ([], record { count = is.count; moves = is.moves; written = all ∙ sym (append-nil (plan_text ms)) }, inl refl)
      by (inr done) = (done_line, record { count = is.count; moves = is.moves; written = done }, inr refl)

  -- ---- faults

  -- a first line that tells a count tells it
  counted : (line n : ℕ) (ms : List Move) (x : List ℕ) → HasNoCount text line → Begins text n ms x → ⊥
  counted line n ms x lacks is = lacks.none n is.count (plan_lines 1 ms ++ x, is.written ∙ append_assoc (count_line n) (plan_lines 1 ms) x)

  -- no line of a move is missing before others
  not_fewer : (line : ℕ) (l : LacksMove text line) (n : ℕ) (ns : List Move) (y : List ℕ) → Begins text n ns y → n < count_end → length ns ≤ n → length l.moves < length ns → ⊥
  not_fewer line l n ns y is few long less =
      let both = begins_same l.count n l.moves ns l.rest y l.begins is in
      let more = lines_fewer 1 l.moves ns l.rest y (omega (arith, few, long)) is.moves less both.1 in
      l.none more.0 more.1 more.2

  -- nor where all are there
  not_lacking : (line : ℕ) (l : LacksMove text line) (ns : List Move) (y : List ℕ) → Begins text (length ns) ns y → ⊥
  not_lacking line l ns y is =
      let both = begins_same l.count (length ns) l.moves ns l.rest y l.begins is in
      not_fewer line l (length ns) ns y is is.count (omega arith) (omega (arith, both.0, l.more))

  one_lacking : (line other : ℕ) → LacksMove text line → LacksMove text other → line ≡ other
  one_lacking line other l k = elim (cases_lt (length l.moves) (length k.moves)) [
    | inl less ↦ absurd (not_fewer line l k.count k.moves k.rest k.begins k.begins.count (omega (arith, k.more)) less)
    | inr most ↦ elim (cases_lt (length k.moves) (length l.moves)) [
      | inl less ↦ absurd (not_fewer other k l.count l.moves l.rest l.begins l.begins.count (omega (arith, l.more)) less)
      | inr least ↦ let numbers = l.next in let others = k.next in omega (arith, most, least, numbers, others)
    ]
  ]

  module _ (laws : ReadsBack) where
    -- all that stands behind the moves of a plan is one
    rests_same : (ms ns : List Move) (x y : List ℕ) → Begins text (length ms) ms x → Begins text (length ns) ns y → (ms ≡ ns) × (x ≡ y)
    rests_same ms ns x y one two =
        let both = begins_same (length ms) (length ns) ms ns x y one two in
        let few = two.count in
        lines_same laws 1 ms ns x y (omega (arith, few)) one.moves two.moves both.0 both.1

    pub one_plan : (ms ns : List Move) → IsPlanText text ms → IsPlanText text ns → ms ≡ ns
    one_plan ms ns one two =
        let first = whole ms one in
        let second = whole ns two in
        (rests_same ms ns first.0 second.0 first.1 second.1).0

    -- an end that a plan may have is none of the others
    not_other : (ms : List Move) (line : ℕ) → IsPlanText text ms → HasOther text line → ⊥
    not_other ms line is has =
        let all = whole ms is in
        let rest = (rests_same ms has.moves all.0 has.rest all.1 has.begins).1 in
        elim all.2 [
          | inl none ↦ has.some (sym rest ∙ none)
          | inr done ↦ has.other ([], sym rest ∙ done ∙ sym (append-nil done_line))
        ]

    not_more : (ms : List Move) (line : ℕ) → IsPlanText text ms → HasMore text line → ⊥
    not_more ms line is has =
        let all = whole ms is in
        let rest = (rests_same ms has.moves all.0 (done_line ++ has.rest) all.1 has.begins).1 in
        elim all.2 [
          | inl none ↦ let never : done_line ++ has.rest ≡ [] = sym rest ∙ none in absurd cc
          | inr done ↦ has.some (append_cancel_left done_line has.rest [] (sym rest ∙ done ∙ sym (append-nil done_line)))
        ]

    other_not_more : (line other : ℕ) → HasOther text line → HasMore text other → ⊥
    other_not_more line other one two =
        one.other (two.rest, (rests_same one.moves two.moves one.rest (done_line ++ two.rest) one.begins two.begins).1)

    one_other : (line other : ℕ) → HasOther text line → HasOther text other → line ≡ other
    one_other line other one two =
        let same = (rests_same one.moves two.moves one.rest two.rest one.begins two.begins).0 in
        one.next ∙ ap (λ (ms : List Move). length ms + 2) same ∙ sym two.next

    one_more : (line other : ℕ) → HasMore text line → HasMore text other → line ≡ other
    one_more line other one two =
        let same = (rests_same one.moves two.moves (done_line ++ one.rest) (done_line ++ two.rest) one.begins two.begins).0 in
        one.next ∙ ap (λ (ms : List Move). length ms + 3) same ∙ sym two.next

    pub no_fault : (ms : List Move) (line : ℕ) → IsPlanText text ms → ¬ IsFirstFault text line
    no_fault ms line is (inl none) = let all = whole ms is in counted line (length ms) ms all.0 none all.1
    no_fault ms line is (inr (inl lacks)) = let all = whole ms is in not_lacking line lacks ms all.0 all.1
    no_fault ms line is (inr (inr (inl other))) = not_other ms line is other
    no_fault ms line is (inr (inr (inr more))) = not_more ms line is more

    pub one_fault : (line other : ℕ) → IsFirstFault text line → IsFirstFault text other → line ≡ other
    one_fault line other (inl a) (inl b) = a.first ∙ sym b.first
    one_fault line other (inl a) (inr (inl b)) = absurd (counted line b.count b.moves b.rest a b.begins)
    one_fault line other (inl a) (inr (inr (inl b))) = absurd (counted line (length b.moves) b.moves b.rest a b.begins)
    one_fault line other (inl a) (inr (inr (inr b))) = absurd (counted line (length b.moves) b.moves (done_line ++ b.rest) a b.begins)
    one_fault line other (inr (inl a)) (inl b) = absurd (counted other a.count a.moves a.rest b a.begins)
    one_fault line other (inr (inl a)) (inr (inl b)) = one_lacking line other a b
    one_fault line other (inr (inl a)) (inr (inr (inl b))) = absurd (not_lacking line a b.moves b.rest b.begins)
    one_fault line other (inr (inl a)) (inr (inr (inr b))) = absurd (not_lacking line a b.moves (done_line ++ b.rest) b.begins)
    one_fault line other (inr (inr (inl a))) (inl b) = absurd (counted other (length a.moves) a.moves a.rest b a.begins)
    one_fault line other (inr (inr (inl a))) (inr (inl b)) = absurd (not_lacking other b a.moves a.rest a.begins)
    one_fault line other (inr (inr (inl a))) (inr (inr (inl b))) = one_other line other a b
    one_fault line other (inr (inr (inl a))) (inr (inr (inr b))) = absurd (other_not_more line other a b)
    one_fault line other (inr (inr (inr a))) (inl b) = absurd (counted other (length a.moves) a.moves (done_line ++ a.rest) b a.begins)
    one_fault line other (inr (inr (inr a))) (inr (inl b)) = absurd (not_lacking other b a.moves (done_line ++ a.rest) a.begins)
    one_fault line other (inr (inr (inr a))) (inr (inr (inl b))) = absurd (other_not_more other line b a)
    one_fault line other (inr (inr (inr a))) (inr (inr (inr b))) = one_more line other a b
