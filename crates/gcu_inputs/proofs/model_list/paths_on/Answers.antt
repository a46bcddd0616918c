-- The paths on lines, line after line.
use Rattle.std.proofs.Common.{◌≡◌, ◌<◌, ◌==◌, ◌∷◌, ◌++◌, ◌+◌, ℕ, List, [], true, false, Ok, subst, ◌≤◌, ap, ◌∙◌, sym, Bor, length, take, drop, get_or, arith}
use Rattle.std.proofs.lemmas.List.{map-append, append-nil, length-append, length-map, take_all}
use Rattle.gcu_inputs.specs.ModelList.{Named, named_from, paths_within}
use Rattle.gcu_inputs.proofs.ModelPaths.{texts, paths, one_more, go_on, named_on-empty, named_on-path, too_many, within}
use Rattle.gcu_inputs.proofs.model_list.paths_on.Goals as goal

abbrev some_line : Bor (List ℕ)
some_line = record { ref_ptr = (0, 0); now = [] }

-- with a line that is empty
with_empty : (xs : List (Bor (List ℕ))) (i : ℕ) → i < length xs
    → (length (get_or xs i some_line).now == 0) ≡ true
    → named_from 1 (texts (take (i + 1) xs)) ≡ named_from 1 (texts (take i xs))
with_empty xs i inside empty =
    one_more xs i some_line inside
    ∙ ap (λ n. named_from 1 (texts (take i xs)) ++ n) (named_on-empty (i + 1) (get_or xs i some_line).now empty)
    ∙ append-nil (named_from 1 (texts (take i xs)))

-- with a line that has a path
with_path : (xs : List (Bor (List ℕ))) (i : ℕ) → i < length xs
    → (length (get_or xs i some_line).now == 0) ≡ false
    → named_from 1 (texts (take (i + 1) xs))
    ≡ named_from 1 (texts (take i xs)) ++ (i + 1, (get_or xs i some_line).now) ∷ []
with_path xs i inside full =
    one_more xs i some_line inside
    ∙ ap (λ n. named_from 1 (texts (take i xs)) ++ n) (named_on-path (i + 1) (get_or xs i some_line).now full)

pub loop-i-preserved-then-is_empty : goal.loop-i-preserved-then-is_empty
loop-i-preserved-then-is_empty c =
    let same = with_empty c.args.lines.now c.loop-i.i c.loop-i-test.true
    (sym c.is_empty.ensures ∙ c.if-is_empty.true) in
    (c.loop-i.invariant.0 ∙ ap paths (sym same), c.loop-i.invariant.1)

pub returns-then-len-eq-MOST_FILES : goal.returns-then-len-eq-MOST_FILES
returns-then-len-eq-MOST_FILES c =
    let xs = c.args.lines.now in
    let i = c.loop-i.i in
    let front = named_from 1 (texts (take i xs)) in
    let line = (get_or xs i some_line).now in
    let rest = named_from (1 + length (texts (take (i + 1) xs))) (texts (drop (i + 1) xs)) in
    let full : length front ≡ 256 =
    sym (length-map front (λ (n : Named). n.1)) ∙ ap length (sym c.loop-i.invariant.0) ∙ sym c.len.ensures
    ∙ c.if-len-eq-MOST_FILES.true in
    let whole = go_on xs (i + 1)
    ∙ ap (λ named. named ++ rest) (with_path xs i c.loop-i-test.true (sym c.is_empty.ensures ∙ c.if-is_empty.false)) in
    record { paths = ap paths_within whole ∙ too_many front (i + 1, line) rest full; few = tt }

pub loop-i-preserved : goal.loop-i-preserved
loop-i-preserved c =
    let xs = c.args.lines.now in
    let i = c.loop-i.i in
    let front = named_from 1 (texts (take i xs)) in
    let line = (get_or xs i some_line).now in
    let more = with_path xs i c.loop-i-test.true (sym c.is_empty.ensures ∙ c.if-is_empty.false) in
    let pushed = c.in_ok-push.ensures.ok in
    let e = c.len.ensures in let n = c.if-len-eq-MOST_FILES.false in
    let few = c.loop-i.invariant.1 in
    let longer = length-append c.loop-i.paths (c.in_ok-new.field-0 ∷ []) in (
      pushed
          ∙ ap (λ ps. ps ++ c.in_ok-new.field-0 ∷ []) c.loop-i.invariant.0
          ∙ ap (λ p. paths front ++ p ∷ []) c.in_ok-new.ensures
          ∙ sym (map-append (λ (n : Named). n.1) front ((i + 1, line) ∷ []))
          ∙ ap paths (sym more),
      subst (λ ps. length ps ≤ 256) (sym pushed) (omega (arith, longer, e, n, few)),
    )

pub returns : goal.returns
returns c =
    let xs = c.args.lines.now in
    let all = ap (λ ts. named_from 1 (texts ts)) (take_all c.loop-i.i xs c.loop-i-test.false) in
    let few = c.loop-i.invariant.1 in
    let same = c.loop-i.invariant.0 ∙ ap paths all in
    record {
      paths =
          within (named_from 1 (texts xs))
          (subst (λ n. n ≤ 256) (ap length same ∙ length-map (named_from 1 (texts xs)) (λ (n : Named). n.1)) few)
          ∙ ap Ok (sym same);
      few = few;
    }
