use Rattle.std.proofs.Common.{◌++◌, List, ℕ, Option, Result, Ok, Err, IfOk, sym, ap, ◌∙◌, codes}
use Rattle.plan_texts.proofs.CountLemmas.{Counts, Found, no_count, one_count}
use Rattle.plan_texts.proofs.counts.count_in.Goals as goal

-- what is said of the count holds where it is returned
so : (line : List ℕ) (m : ℕ) → ((o : Option ℕ) → Found line m o → Counts line o) → {E : Type 0} (r : Result (Option ℕ) E) → IfOk r (Found line m) → IfOk r (Counts line)
so line m one (Ok o) found = one o found
so line m one (Err e) found = tt

pub returns-in-Ok : goal.returns-in-Ok
returns-in-Ok c =
    let cut = c.in-Some.ensures.cases in
    let is = cut.1.1 ∙ ap (λ (rest : List ℕ). codes "plan " ++ rest) (sym cut.2) in
    let one = one_count c.args.text.now c.in-Some.digits.now c.parse.result is c.parse.ensures.value.0 c.in-Ok.count c.in-Ok.is in
    so c.args.text.now c.in-Ok.count one c.count_if_so.result c.count_if_so.ensures

pub returns-in-Err : goal.returns-in-Err
returns-in-Err c =
    let cut = c.in-Some.ensures.cases in
    let is = cut.1.1 ∙ ap (λ (rest : List ℕ). codes "plan " ++ rest) (sym cut.2) in
    no_count c.args.text.now c.in-Some.digits.now c.parse.result is c.parse.ensures.value.0 c.in-Err.field-0 c.in-Err.is
