use Rattle.std.proofs.Common.{◌≡◌, ◌∷◌, [], length, suc, sym, ap, ◌∙◌, arith, length-append, subst}
use Rattle.std.proofs.lemmas.Bool.{eqb-false}
use Rattle.gcu_words.proofs.ScriptLemmas.{behind, next_lines, next_number, no_feed_behind, no_form, one_more, one_too_many}
use Rattle.gcu_words.specs.Scripts.{lines_from, pieces_of, script}
use Rattle.gcu_words.proofs.scripts.read_lines.Goals as goal

-- the last line has no line feed
pub returns-in_default-clause-script : goal.returns-in_default-clause-script
returns-in_default-clause-script c =
    next_number c.args.bytes.now c.loop-number.number
    (no_feed_behind c.args.bytes.now c.loop-number.lines (suc c.loop-number.number) c.loop-number.rest.now c.loop-number.invariant.so_far
    (eqb-false _ _ (sym c.is_empty.ensures ∙ c.if-is_empty.false)) c.in_default.ensures)

-- the line is of no form
pub returns-in-None-clause-script : goal.returns-in-None-clause-script
returns-in-None-clause-script c =
    let n = c.loop-number.number in let inside = c.loop-number-test.true in
    next_number c.args.bytes.now n
    (no_form n c.loop-number.rest.now c.in-Some.bytes.now c.in-Some.after.now (omega arith) c.in-Some.ensures.0 c.in-Some.ensures.1
    c.args.bytes.now c.loop-number.lines c.loop-number.invariant.so_far (sym c.in_ok-line.ensures ∙ c.in-None.is))

-- it is read
pub loop-number-preserved : goal.loop-number-preserved
loop-number-preserved c =
    let n = c.loop-number.number in let inside = c.loop-number-test.true in
    let l = c.in-Some-2.line in
    let pushed = c.in_ok-push-in-Some-2.ensures.ok in
    let count = c.loop-number.invariant.count in
    let longer = length-append c.loop-number.lines (l ∷ []) in
    let more = ap length pushed in record {
      so_far =
          next_lines c.args.bytes.now c.push.new.self n c.in-Some.after.now
          (subst (λ ls. script c.args.bytes.now ≡ behind ls (lines_from (suc (suc n)) (pieces_of c.in-Some.after.now))) (sym pushed)
          (one_more n c.loop-number.rest.now c.in-Some.bytes.now c.in-Some.after.now (omega arith) c.in-Some.ensures.0 c.in-Some.ensures.1
          c.args.bytes.now c.loop-number.lines l c.loop-number.invariant.so_far (sym c.in_ok-line.ensures ∙ c.in-Some-2.is)));
      count = omega (arith, more, longer, count);
    }

-- it is the 257th
pub returns-clause-script : goal.returns-clause-script
returns-clause-script c =
    let n = c.loop-number.number in let out = c.loop-number-test.false in let most = c.loop-number.auto.number-end in
    one_too_many c.args.bytes.now c.loop-number.lines (suc n) c.loop-number.rest.now (omega arith) c.loop-number.invariant.so_far
    (eqb-false _ _ (sym c.is_empty-2.ensures ∙ c.if-is_empty-2.false))
