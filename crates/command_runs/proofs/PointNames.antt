-- What is printed of checkpoints begins with no step of a plan and with no reply: their names have no space
-- and rise, so
-- that a line `plan N` or `commits N` has at most names behind it that come later.
use Rattle.std.proofs.Common.{◌≡◌, ◌≢◌, ℕ, List, [], ◌∷◌, ◌++◌, Bool, true, false, ◌&&◌, T, map, refl, sym, ap, ◌∙◌, subst, arith, length, append_assoc, Option, Some, None, is_lt}
use Rattle.std.specs.Prelude.{codes, decimal}
use Rattle.std.specs.List.{list_all}
use Rattle.std.specs.FinMap as finmap
use Rattle.std.specs.FinMap.{entries, keys}
use Rattle.std.specs.FinMap.Entries.{below_all, is_sorted}
use Rattle.std.specs.Cmp.Lexicographic.{slice_cmp}
use Rattle.std.specs.Fmt.{digits}
use Rattle.std.specs.Ordering.{nat_cmp, ordering_then}
use Rattle.std.specs.declared.cmp.Ordering.{Ordering}
use Rattle.std.specs.declared.cmp.Ordering.TheVariants.{Less, Equal, Greater}
use Rattle.host_core.specs.Names.{name_cmp}
use Rattle.host_core.specs.State.{Files}
use Rattle.checkpoints.specs.Names.{is_name_character}
use Rattle.checkpoints.specs.Numbers.{numbered_points, with_its_number}
use Rattle.checkpoints.specs.Points.{Held, points}
use Rattle.gcu_output.specs.Lines.{last_line, space}
use Rattle.gcu_output.specs.declared.outcomes.Outcome.TheVariants.{Done}
use Rattle.command_answers.specs.PointLines.{named_number, number_or_broken, point_lines}
use Rattle.move_core.specs.Operations.{plan_lines, plan_text}
use Rattle.move_core.specs.declared.moves.Move.{Move}
use Rattle.writing_commands.proofs.Lines.{IsOneLine, decimal_is_one_line, first_lines, one_line-append}
use Rattle.operators.specs.Replies.{said}
use Rattle.command_runs.specs.Works.{HaveNames, Told, moves_told, told_text}
use Rattle.command_runs.proofs.Acknowledgements.{not_empty}
use Rattle.command_runs.proofs.CompactTexts.{heads}
use Rattle.command_runs.proofs.GoodNames.{AreGood, Lacks, characters, characters_are_one_line, first_words, name_lacks, no_space, points_good}
use Rattle.command_runs.proofs.LastLines.{last_line_has_no_told, last_line_is_quiet}
use Rattle.command_runs.proofs.OtherTexts.{reply_behind}
use Rattle.command_runs.proofs.OperatorTexts.{commits_is, commits_plain, said_is_line}
use Rattle.command_runs.proofs.PlanLines.{count, count_is_one, counted}
use Rattle.command_runs.proofs.PlanHeads.{quiet_has_none}
use Rattle.command_runs.proofs.SessionLines.{decimal_is_low, low_more, no_broken, no_low_reply}
use Rattle.command_runs.proofs.WorkOutputs.{HasNoSteps}

-- ---- names rise

first_part : (a b : Bool) → T (a && b) → T a
first_part true b p = tt
first_part false b p = p

less_of : (r : Ordering) → T (is_lt r) → r ≡ Less
less_of Less p = refl
less_of Equal p = absurd p
less_of Greater p = absurd p

-- the second name comes later than the first
second_later : (es : List (List ℕ × Held)) (n k : List ℕ) (ks : List (List ℕ)) → T (is_sorted name_cmp es)
    → map (λ e. e.0) es ≡ n ∷ k ∷ ks → name_cmp n k ≡ Less
second_later [] n k ks sorted e = absurd cc
second_later (a ∷ []) n k ks sorted e = absurd cc
second_later (a ∷ b ∷ es) n k ks sorted e =
    let first : a.0 ≡ n = cc in
    let second : b.0 ≡ k = cc in
    let less = less_of (name_cmp a.0 b.0) (first_part (is_lt (name_cmp a.0 b.0)) (below_all name_cmp a.0 es)
    (first_part (below_all name_cmp a.0 (b ∷ es)) (is_sorted name_cmp (b ∷ es))
    sorted)) in
    subst (λ (m : List ℕ). name_cmp m k ≡ Less) first (subst (λ (m : List ℕ). name_cmp a.0 m ≡ Less) second less)

-- ---- a first line

number_is_one_line : (o : Option ℕ) → IsOneLine (number_or_broken o)
number_is_one_line None = (omega arith, (omega arith, (omega arith, (omega arith, (omega arith, (omega arith, tt))))))
number_is_one_line (Some n) = decimal_is_one_line n

-- a line without its end
abbrev pub line : List ℕ × Option ℕ → List ℕ
line p = p.0 ++ 32 ∷ number_or_broken p.1

line_is_one : (p : List ℕ × Option ℕ) → list_all is_name_character p.0 ≡ true → IsOneLine (line p)
line_is_one p good =
    one_line-append p.0 (32 ∷ number_or_broken p.1) (characters_are_one_line p.0 good)
    (omega arith, number_is_one_line p.1)

first_point : (p : List ℕ × Option ℕ) (ps : List (List ℕ × Option ℕ)) (behind : List ℕ)
    → point_lines (p ∷ ps) ++ behind ≡ line p ++ 10 ∷ (point_lines ps ++ behind)
first_point p ps behind =
    append_assoc (named_number p ++ 10 ∷ []) (point_lines ps) behind
    ∙ append_assoc (named_number p) (10 ∷ []) (point_lines ps ++ behind)
    ∙ ap (λ t. t ++ 10 ∷ (point_lines ps ++ behind)) (append_assoc p.0 space (number_or_broken p.1))

-- the name, and what stands behind it
first_name : (p : List ℕ × Option ℕ) (ps : List (List ℕ × Option ℕ)) (behind : List ℕ)
    → point_lines (p ∷ ps) ++ behind ≡ p.0 ++ 32 ∷ (number_or_broken p.1 ++ 10 ∷ (point_lines ps ++ behind))
first_name p ps behind =
    first_point p ps behind ∙ append_assoc p.0 (32 ∷ number_or_broken p.1) (10 ∷ (point_lines ps ++ behind))

-- where a plan stands at the head, the first checkpoint has the name `plan`
heads_plan : (p : List ℕ × Option ℕ) (ps : List (List ℕ × Option ℕ)) (behind : List ℕ) (ms : List Move) (x : List ℕ)
    → list_all is_name_character p.0 ≡ true
    → point_lines (p ∷ ps) ++ behind ≡ plan_text ms ++ x
    → (p.0 ≡ codes "plan") × (point_lines ps ++ behind ≡ plan_lines 1 ms ++ x)
heads_plan p ps behind ms x good e =
    let both = first_lines (line p) (count (length ms)) (point_lines ps ++ behind) (plan_lines 1 ms ++ x)
    (line_is_one p good) (count_is_one (length ms))
    (sym (first_point p ps behind) ∙ e ∙ counted ms x) in
    let plain : Lacks 32 (codes "plan") = (omega arith, (omega arith, (omega arith, (omega arith, tt)))) in (
      first_words p.0 (codes "plan") (number_or_broken p.1) (decimal (length ms)) (name_lacks 32 no_space p.0 good)
          plain both.0,
      both.1,
    )

-- where it is how many are committed, it has the name `commits`
heads_commits : (p : List ℕ × Option ℕ) (ps : List (List ℕ × Option ℕ)) (behind x : List ℕ)
    → list_all is_name_character p.0 ≡ true
    → point_lines (p ∷ ps) ++ behind ≡ told_text [] ++ x → (p.0 ≡ codes "commits") × (point_lines ps ++ behind ≡ x)
heads_commits p ps behind x good e =
    let same : line p ++ 10 ∷ (point_lines ps ++ behind) ≡ (codes "commits" ++ 32 ∷ decimal 0) ++ 10 ∷ x =
    sym (first_point p ps behind) ∙ e ∙ commits_is 0 x ∙ sym (append_assoc (codes "commits") (32 ∷ decimal 0) (10 ∷ x))
    in
    let whole : IsOneLine (codes "commits" ++ 32 ∷ decimal 0) = (
      omega arith,
      (
        omega arith,
        (
          omega arith,
          (
            omega arith,
            (
              omega arith,
              (
                omega arith,
                (omega arith, (omega arith, decimal_is_one_line 0)),
              ),
            ),
          ),
        ),
      ),
    ) in
    let both = first_lines (line p) (codes "commits" ++ 32 ∷ decimal 0) (point_lines ps ++ behind) x
    (line_is_one p good) whole same in (
      first_words p.0 (codes "commits") (number_or_broken p.1) (decimal 0) (name_lacks 32 no_space p.0 good)
          commits_plain both.0,
      both.1,
    )

-- ---- what stands behind it

-- a text that begins neither with the number 1 nor as an acknowledgement
data IsLate : List ℕ → Type 0 where
  late : (c : ℕ) (text : List ℕ) → c ≢ 49 → c ≢ 97 → IsLate (c ∷ text)

no_step : (text more : List ℕ) → IsLate text → text ≡ 49 ∷ more → ⊥
no_step [] more is e = not_empty 49 more e
no_step (c ∷ text) more (late _ _ n m) e = n (heads c 49 text more e)

no_ack : (text more : List ℕ) → IsLate text → text ≡ 97 ∷ more → ⊥
no_ack [] more is e = not_empty 97 more e
no_ack (c ∷ text) more (late _ _ n m) e = m (heads c 97 text more e)

-- no such name comes later than this one
record IsAhead (name : List ℕ) : Type 0 where
  empty : name_cmp name [] ≡ Less → ⊥
  one : (k : List ℕ) → name_cmp name (49 ∷ k) ≡ Less → ⊥
  a : (k : List ℕ) → name_cmp name (97 ∷ k) ≡ Less → ⊥

plan_ahead : IsAhead (codes "plan")
plan_ahead = record {
  empty = λ e. cc;
  one = λ k e. let h : ordering_then (nat_cmp 112 49) (slice_cmp nat_cmp (codes "lan") k) ≡ Less = e in cc;
  a = λ k e. let h : ordering_then (nat_cmp 112 97) (slice_cmp nat_cmp (codes "lan") k) ≡ Less = e in cc;
}

commits_ahead : IsAhead (codes "commits")
commits_ahead = record {
  empty = λ e. cc;
  one = λ k e. let h : ordering_then (nat_cmp 99 49) (slice_cmp nat_cmp (codes "ommits") k) ≡ Less = e in cc;
  a = λ k e. let h : ordering_then (nat_cmp 99 97) (slice_cmp nat_cmp (codes "ommits") k) ≡ Less = e in cc;
}

module _ (name : List ℕ) (ahead : IsAhead name) where
  -- a name that comes later
  late_name : (k more : List ℕ) → name_cmp name k ≡ Less → IsLate (k ++ more)
  late_name [] more e = absurd (ahead.empty e)
  late_name (c ∷ k) more e =
      late c (k ++ more)
      (λ is. ahead.one k (subst (λ d. name_cmp name (d ∷ k) ≡ Less) is e))
      (λ is. ahead.a k (subst (λ d. name_cmp name (d ∷ k) ≡ Less) is e))

  late_lines : (files : Files) (ks : List (List ℕ))
      → ((k : List ℕ) (more : List (List ℕ)) → ks ≡ k ∷ more → name_cmp name k ≡ Less)
      → IsLate (point_lines (map (with_its_number files) ks) ++ last_line Done)
  late_lines files [] later = late 100 _ (omega arith) (omega arith)
  late_lines files (k ∷ ks) later =
      subst IsLate
      (sym (first_point (with_its_number files k) (map (with_its_number files) ks) (last_line Done)
      ∙ append_assoc k _ _))
      (late_name k _ (later k ks refl))

step_first : (m : Move) (ms : List Move) (x : List ℕ) → (more : List ℕ) × (plan_lines 1 (m ∷ ms) ++ x ≡ 49 ∷ more)
unfolding digits
step_first m ms x = (_, refl)

-- what stands behind the name is no reply
number_no_reply : (p : List ℕ × Option ℕ) (ps : List (List ℕ × Option ℕ)) (behind : List ℕ)
    → list_all is_name_character p.0 ≡ true
    → (t : Told) (ts : List Told) → HaveNames (t ∷ ts) → (x : List ℕ)
    → point_lines (p ∷ ps) ++ behind ≡ told_text (t ∷ ts) ++ x → ⊥
number_no_reply p ps behind good t ts named x e =
    no_reply_there p.1 _ (point_lines ps ++ behind)
    (reply_behind p.0 (name_lacks 32 no_space p.0 good) t ts (length (moves_told (t ∷ ts)))
    named.0 (number_or_broken p.1 ++ 10 ∷ (point_lines ps ++ behind)) x
    (sym (first_name p ps behind) ∙ e))
  where
    no_reply_there : (o : Option ℕ) (more rest : List ℕ) → said t.1 ++ 10 ∷ more ≡ number_or_broken o ++ 10 ∷ rest → ⊥
    no_reply_there None more rest same =
        let both = first_lines (said t.1) (codes "broken") more rest (said_is_line t.1) (number_is_one_line None)
        same in no_broken t.1 both.0
    no_reply_there (Some n) more rest same =
        no_low_reply t.1 (10 ∷ more) (decimal n ++ 10 ∷ rest) (low_more (decimal n) (10 ∷ rest) (decimal_is_low n)) same

-- the checkpoints with a last line behind them
pub points_have_no_steps : (files : Files) → HasNoSteps (point_lines (numbered_points files) ++ last_line Done)
points_have_no_steps files = by (keys (points files)) refl (points_good files)
  where
    by : (ns : List (List ℕ)) → keys (points files) ≡ ns → AreGood (keys (points files))
        → HasNoSteps (point_lines (map (with_its_number files) ns) ++ last_line Done)
    by [] is all =
        let none = quiet_has_none (last_line Done) (last_line_is_quiet Done) in
        let untold = last_line_has_no_told Done in
        record {
          none = λ m ms. none (m ∷ ms);
          quiet = λ rest e. absurd (none [] (rest, e));
          untold = λ t ts named. untold (t ∷ ts) _ named;
          still = λ rest e. absurd (untold [] 0 tt (rest, e));
        }
    by (n ∷ ns) is all =
        let good = characters n (subst AreGood is all).0 in
        let p = with_its_number files n in
        let ps = map (with_its_number files) ns in
        let behind = point_lines ps ++ last_line Done in
        let after : (name : List ℕ) → IsAhead name → n ≡ name → IsLate behind =
        λ name ahead named. late_lines name ahead files ns (λ k ks e.
        subst (λ (m : List ℕ). name_cmp m k ≡ Less) named
        (second_later (entries (points files)) n k ks (finmap.entries_sorted (points files))
        (is ∙ ap (λ (ms : List (List ℕ)). n ∷ ms) e))) in
        record {
          none = λ m ms (x, e).
              let h = heads_plan p ps (last_line Done) (m ∷ ms) x good e in
              let step = step_first m ms x in
              no_step behind step.0 (after (codes "plan") plan_ahead h.0) (h.1 ∙ step.1);
          quiet = λ rest e (more, is_ack).
              let h = heads_plan p ps (last_line Done) [] rest good e in
              no_ack behind _ (after (codes "plan") plan_ahead h.0) (h.1 ∙ is_ack);
          untold = λ t ts named (x, e). number_no_reply p ps (last_line Done) good t ts named x e;
          still = λ rest e (more, is_ack).
              let h = heads_commits p ps (last_line Done) rest good e in
              no_ack behind _ (after (codes "commits") commits_ahead h.0) (h.1 ∙ is_ack);
        }
