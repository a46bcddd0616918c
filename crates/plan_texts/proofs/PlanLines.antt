-- The lines of a plan, one after another.
use Rattle.std.proofs.Common.{◌≡◌, ◌≢◌, ℕ, zero, suc, ◌+◌, ◌<◌, ◌^◌, List, [], ◌∷◌, ◌++◌, length, decimal, codes, inl, inr, refl, sym, ap, ◌∙◌, subst, arith, append_assoc}
use Rattle.std.specs.Prelude.{All}
use Rattle.std.proofs.lemmas.Fmt.{decimal_by_steps}
use Rattle.std.proofs.lemmas.List.{append-nil}
use Rattle.std.proofs.lemmas.List.Elements.{All-append}
use Rattle.host_core.specs.Characters.{line_feed as feed}
use Rattle.conf_doc.specs.Texts.{line_feed}
use Rattle.move_core.specs.Operations.{count_line, number_text, op, plan_line, plan_lines, plan_text}
use Rattle.move_core.specs.declared.moves.Move.{Move}
use Rattle.patch_core.specs.Writing.{operation_document}
use Rattle.plan_texts.specs.Ends.{IsEnd}
use Rattle.plan_texts.specs.declared.ends.End.TheVariants.{Good, Other, More}
use Rattle.plan_texts.specs.Lines.{HasNoFeed, count_words}
use Rattle.plan_texts.specs.Moves.{move_text}
use Rattle.plan_texts.specs.PlanTexts.{BeginsWith, Begins, HasNoCount, IsFirstFault, IsMove, IsPlanText, count_end}
use Rattle.plan_texts.proofs.Feeds.{no_feed}
use Rattle.plan_texts.proofs.LineLemmas.{has_feed, no_feed-append, same_line}

-- ---- no line feed within a line

no_feed_decimal : (n : ℕ) → n < 2 ^ 64 → HasNoFeed (decimal n)
no_feed_decimal = decimal_by_steps (λ n ds. HasNoFeed ds) (λ n small. ((λ e. omega arith), tt)) (λ n ds large before. no_feed-append ds _ before ((λ e. omega arith), tt))

pub no_feed_count : (n : ℕ) → n < 2 ^ 32 → HasNoFeed (count_words n)
no_feed_count n small = no_feed-append (codes "plan ") (decimal n) ((λ e. omega arith), ((λ e. omega arith), ((λ e. omega arith), ((λ e. omega arith), ((λ e. omega arith), tt))))) (no_feed_decimal n (omega arith))

pub no_feed_step : (number : ℕ) → number < 2 ^ 32 → (m : Move) → HasNoFeed (number_text number ++ move_text m)
no_feed_step number small m =
    no_feed-append (number_text number) (move_text m)
    (no_feed-append (decimal number) (codes " ") (no_feed_decimal number (omega arith)) ((λ e. omega arith), tt)) (no_feed (operation_document (op m)))

-- ---- a first line

module _ (line : List ℕ) (whole : HasNoFeed line) where
  -- a text without a line feed has no such line
  none_without : (text : List ℕ) → HasNoFeed text → ¬ BeginsWith (line ++ line_feed) text
  none_without text none begins =
      has_feed line begins.0 (subst HasNoFeed (begins.1 ∙ append_assoc line line_feed begins.0) none)

  -- the first line of a text is the one that it begins with
  first_is : (text first rest : List ℕ) → HasNoFeed first → text ≡ first ++ feed ∷ rest → BeginsWith (line ++ line_feed) text → first ≡ line
  first_is text first rest one is begins =
      let both = sym is ∙ begins.1 ∙ append_assoc line line_feed begins.0 in
      (same_line first line rest begins.0 one whole both).0

-- no first line, no count
pub no_line : (text : List ℕ) → HasNoFeed text → HasNoCount text 1
no_line text none = record { first = refl; none = λ n small. none_without (count_words n) (no_feed_count n small) text none }

-- a first line that tells none
pub no_count_line : (text line rest : List ℕ) → HasNoFeed line → text ≡ line ++ feed ∷ rest → ((n : ℕ) → n < 2 ^ 32 → line ≢ count_words n) → HasNoCount text 1
no_count_line text line rest one is none = record {
  first = refl;
  none = λ n small begins. none n small (first_is (count_words n) (no_feed_count n small) text line rest one is begins);
}

-- a first line that tells the count
pub count_is : (text line rest : List ℕ) (n : ℕ) → text ≡ line ++ feed ∷ rest → line ≡ count_words n → text ≡ count_line n ++ rest
count_is text line rest n is same = is ∙ ap (λ l. l ++ feed ∷ rest) same ∙ sym (append_assoc (count_words n) line_feed rest)

-- ---- the lines of steps

lines_more : (i : ℕ) (ms : List Move) (m : Move) → plan_lines i (ms ++ m ∷ []) ≡ plan_lines i ms ++ plan_line (length ms + i) m
lines_more i [] m =
    let same : i ≡ 0 + i = omega arith in
    append-nil (plan_line i m) ∙ ap (λ n. plan_line n m) same
lines_more i (n ∷ ms) m =
    let same : length ms + suc i ≡ suc (length ms) + i = omega arith in
    ap (λ text. plan_line i n ++ text) (lines_more (suc i) ms m ∙ ap (λ k. plan_lines (suc i) ms ++ plan_line k m) same)
    ∙ sym (append_assoc (plan_line i n) (plan_lines (suc i) ms) (plan_line (suc (length ms) + i) m))

one_move : (m : Move) → IsMove m → All IsMove (m ∷ [])
one_move m is zero d lt = is
one_move m is (suc k) d lt = absurd (omega arith)

-- one more is a move too
pub moves_more : (ms new : List Move) (m : Move) → new ≡ ms ++ m ∷ [] → All IsMove ms → IsMove m → All IsMove new
moves_more ms new m more all is = subst (All IsMove) (sym more) (All-append IsMove ms (m ∷ []) all (one_move m is))

module _ (steps rest : List ℕ) (ms : List Move) (begins : steps ≡ plan_lines 1 ms ++ rest) where
  -- the line of one more
  pub steps_more : (line after : List ℕ) (m : Move) (number : ℕ) (new : List Move) → rest ≡ line ++ feed ∷ after → line ≡ number_text (number + 1) ++ move_text m → length ms ≡ number → new ≡ ms ++ m ∷ [] → steps ≡ plan_lines 1 new ++ after
  steps_more line after m number new is step count more =
      begins ∙ ap (λ t. plan_lines 1 ms ++ t) (is ∙ ap (λ l. l ++ feed ∷ after) step ∙ sym (append_assoc (number_text (number + 1) ++ move_text m) line_feed after))
      ∙ sym (append_assoc (plan_lines 1 ms) (plan_line (number + 1) m) after)
      ∙ ap (λ n. (plan_lines 1 ms ++ plan_line (n + 1) m) ++ after) (sym count)
      ∙ ap (λ t. t ++ after) (sym (lines_more 1 ms m))
      ∙ ap (λ ns. plan_lines 1 ns ++ after) (sym more)

  module _ (text : List ℕ) (count : ℕ) (is : text ≡ count_line count ++ steps) (small : count < count_end) (moves : All IsMove ms) where
    begun : Begins text count ms rest
    begun = record {
      count = small;
      moves = moves;
      written = is ∙ ap (λ t. count_line count ++ t) begins ∙ sym (append_assoc (count_line count) (plan_lines 1 ms) rest);
    }

    module _ (number : ℕ) (counted : length ms ≡ number) (below : number < count) where
      lacks : ((m : Move) → IsMove m → ¬ BeginsWith (plan_line (number + 1) m) rest) → IsFirstFault text (number + 2)
      lacks none = inr (inl record {
        count = count;
        moves = ms;
        rest = rest;
        begins = begun;
        more = omega arith;
        next = omega arith;
        none = λ m move. subst (λ k. ¬ BeginsWith (plan_line (k + 1) m) rest) (sym counted) (none m move);
      })

      -- the next line is missing
      pub missing : HasNoFeed rest → IsFirstFault text (number + 2)
      missing none = lacks (λ m move. none_without (number_text (number + 1) ++ move_text m) (no_feed_step (number + 1) (omega arith) m) rest none)

      -- the next line is no step
      pub no_step : (line after : List ℕ) → HasNoFeed line → rest ≡ line ++ feed ∷ after → ((m : Move) → IsMove m → line ≢ number_text (number + 1) ++ move_text m) → IsFirstFault text (number + 2)
      no_step line after one split none = lacks (λ m move starts.
          none m move (first_is (number_text (number + 1) ++ move_text m) (no_feed_step (number + 1) (omega arith) m) rest line after one split starts))

    module _ (all : length ms ≡ count) where
      counted_so : Begins text (length ms) ms rest
      counted_so = subst (λ n. Begins text n ms rest) (sym all) begun

      -- neither the end nor `done`
      pub other_end : IsEnd rest Other → IsFirstFault text (count + 2)
      other_end end = inr (inr (inl record { moves = ms; rest = rest; begins = counted_so; next = omega arith; some = end.0; other = end.1 }))

      -- something after `done`
      pub more_end : IsEnd rest More → IsFirstFault text (count + 3)
      more_end end = inr (inr (inr record {
        moves = ms;
        rest = end.0;
        begins = subst (Begins text (length ms) ms) end.2 counted_so;
        next = omega arith;
        some = end.1;
      }))

      -- the end
      pub good_end : IsEnd rest Good → IsPlanText text ms
      good_end end = record {
        count = subst (λ n. n < count_end) (sym all) small;
        moves = moves;
        written = elim end [
          | inl empty ↦ inl (counted_so.written ∙ ap (λ t. plan_text ms ++ t) empty ∙ append-nil (plan_text ms))
          | inr done ↦ inr (counted_so.written ∙ ap (λ t. plan_text ms ++ t) done)
        ];
      }
