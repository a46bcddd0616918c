use Rattle.std.proofs.Common.{◌≡◌, ◌+◌, ◌-◌, IfOk, refl, sym, subst, arith}
use Rattle.move_lists.specs.Ranking.{IsInPart}
use Rattle.move_lists.proofs.listing.list_part.Goals as goal

pub returns-in-1-clause-kinds : goal.returns-in-1-clause-kinds
returns-in-1-clause-kinds g c = c.requires.kinds

pub returns-in-1-clause-rules : goal.returns-in-1-clause-rules
returns-in-1-clause-rules g c = refl

pub returns-in-1-clause-listed : goal.returns-in-1-clause-listed
returns-in-1-clause-listed g c = subst (λ n. IfOk c.list_alone.result (λ ms. IsInPart c.args.question.now n ms.items)) (sym c.in-1.is) (c.list_alone.ensures c.args.question.now c.requires.firsts)

pub overflow_sub-part : goal.overflow_sub-part
overflow_sub-part g c = omega arith

pub list_extended-requires-clause-kinds : goal.list_extended-requires-clause-kinds
list_extended-requires-clause-kinds g c = c.requires.kinds

pub list_extended-requires-clause-asked : goal.list_extended-requires-clause-asked
list_extended-requires-clause-asked g c = c.requires.asked

pub list_extended-requires-clause-firsts : goal.list_extended-requires-clause-firsts
list_extended-requires-clause-firsts g c = c.requires.firsts

pub list_extended-requires-clause-some : goal.list_extended-requires-clause-some
list_extended-requires-clause-some g c = omega arith

pub list_extended-requires-clause-few : goal.list_extended-requires-clause-few
list_extended-requires-clause-few g c = omega arith

pub returns-in-2-to-4-clause-kinds : goal.returns-in-2-to-4-clause-kinds
returns-in-2-to-4-clause-kinds g c = c.list_extended.ensures.kinds

pub returns-in-2-to-4-clause-rules : goal.returns-in-2-to-4-clause-rules
returns-in-2-to-4-clause-rules g c = c.list_extended.ensures.rules

pub returns-in-2-to-4-clause-listed : goal.returns-in-2-to-4-clause-listed
returns-in-2-to-4-clause-listed g c =
    let low = c.requires.low in
    let same : 1 + (c.args.part - 1) ≡ c.args.part = omega (arith, low) in
    subst (λ n. IfOk c.list_extended.result (λ ms. IsInPart c.args.question.now n ms.items)) same c.list_extended.ensures.listed

pub list_far_extended-requires-clause-kinds : goal.list_far_extended-requires-clause-kinds
list_far_extended-requires-clause-kinds g c = c.requires.kinds

pub list_far_extended-requires-clause-asked : goal.list_far_extended-requires-clause-asked
list_far_extended-requires-clause-asked g c = c.requires.asked

pub list_far_extended-requires-clause-firsts : goal.list_far_extended-requires-clause-firsts
list_far_extended-requires-clause-firsts g c = c.requires.firsts

pub returns-in-5-clause-kinds : goal.returns-in-5-clause-kinds
returns-in-5-clause-kinds g c = c.list_far_extended.ensures.kinds

pub returns-in-5-clause-rules : goal.returns-in-5-clause-rules
returns-in-5-clause-rules g c = c.list_far_extended.ensures.rules

pub returns-in-5-clause-listed : goal.returns-in-5-clause-listed
returns-in-5-clause-listed g c = subst (λ n. IfOk c.list_far_extended.result (λ ms. IsInPart c.args.question.now n ms.items)) (sym c.in-5.is) c.list_far_extended.ensures.listed

pub list_restoring-requires-clause-kinds : goal.list_restoring-requires-clause-kinds
list_restoring-requires-clause-kinds g c = c.requires.kinds

pub list_restoring-requires-clause-asked : goal.list_restoring-requires-clause-asked
list_restoring-requires-clause-asked g c = c.requires.asked

pub list_restoring-requires-clause-firsts : goal.list_restoring-requires-clause-firsts
list_restoring-requires-clause-firsts g c = c.requires.firsts

pub returns-in-6-clause-kinds : goal.returns-in-6-clause-kinds
returns-in-6-clause-kinds g c = c.list_restoring.ensures.kinds

pub returns-in-6-clause-rules : goal.returns-in-6-clause-rules
returns-in-6-clause-rules g c = c.list_restoring.ensures.rules

pub returns-in-6-clause-listed : goal.returns-in-6-clause-listed
returns-in-6-clause-listed g c = subst (λ n. IfOk c.list_restoring.result (λ ms. IsInPart c.args.question.now n ms.items)) (sym c.in-6.is) c.list_restoring.ensures.listed

pub list_others-requires-clause-kinds : goal.list_others-requires-clause-kinds
list_others-requires-clause-kinds g c = c.requires.kinds

pub list_others-requires-clause-asked : goal.list_others-requires-clause-asked
list_others-requires-clause-asked g c = c.requires.asked

pub list_others-requires-clause-firsts : goal.list_others-requires-clause-firsts
list_others-requires-clause-firsts g c = c.requires.firsts

pub returns-in_default-clause-kinds : goal.returns-in_default-clause-kinds
returns-in_default-clause-kinds g c = c.list_others.ensures.kinds

pub returns-in_default-clause-rules : goal.returns-in_default-clause-rules
returns-in_default-clause-rules g c = c.list_others.ensures.rules

pub returns-in_default-clause-listed : goal.returns-in_default-clause-listed
returns-in_default-clause-listed g c =
    let same : 7 ≡ c.args.part = omega arith in
    subst (λ n. IfOk c.list_others.result (λ ms. IsInPart c.args.question.now n ms.items)) same c.list_others.ensures.listed
