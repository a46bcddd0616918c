use Rattle.std.proofs.Common.{◌≡◌, ◌+◌, ◌-◌, ◌<◌, ◌∷◌, ℕ, List, Bool, not, true, false, length, drop, get_or, refl, sym, ap, ◌∙◌, subst, arith, drop_of_length-le}
use Rattle.move_core.specs.RulesFile.{names_differ}
use Rattle.move_core.specs.declared.errors.RulesWhy.TheVariants.{Services}
use Rattle.move_core.specs.declared.settings.ServiceTie.{ServiceTie}
use Rattle.move_core.proofs.Listing.{drop_step, or_fails-true, or_fails-false}
use Rattle.move_core.proofs.ServiceNames.{Seen, seen_none, seen_more, seen_twice}
use Rattle.move_core.proofs.rules_file.distinct.Goals as goal

-- the service before an index, and those from it on
left_of : (ties : List ServiceTie) (i : ℕ) (tie : ServiceTie) → 0 < i → i - 1 < length ties → tie ≡ get_or ties (i - 1) tie → drop (i - 1) ties ≡ tie ∷ drop i ties
left_of ties i tie some within is =
    let next : (i - 1) + 1 ≡ i = omega arith in
    drop_step ties (i - 1) tie within is ∙ ap (λ n. tie ∷ drop n ties) next

not_true : (b : Bool) → true ≡ not b → b ≡ false
not_true true h = h
not_true false h = refl

not_false : (b : Bool) → false ≡ not b → b ≡ true
not_false true h = refl
not_false false h = h

pub loop-i-init : goal.loop-i-init
loop-i-init c = (omega arith, rw (drop_of_length-le c.items-ties.result.now {i = length c.items-ties.result.now} (omega arith)) (seen_none c.new-names.result c.new-names.ensures.empty))

pub loop-i-preserved : goal.loop-i-preserved
loop-i-preserved c =
    let ties = c.items-ties.result.now in
    let tie = c.index-ties-i.result in
    let left = left_of ties c.loop-i.i tie c.loop-i-test.true (omega arith) c.index-ties-i.is in
    let own : c.as_str.result.now ≡ tie.name = c.as_str.ensures.text ∙ ap (λ t. t.name) (sym c.index-ties-i.is) in
    let absent = not_true _ (sym c.in-Ok-true.field-0-test ∙ c.in-Ok-true.ensures.added) in
    let seen = seen_more c.loop-i.names c.insert.new.self tie (drop c.loop-i.i ties) c.as_str.result c.loop-i.invariant.1 own absent (λ q. c.in-Ok-true.ensures.updates.0 q) in
    (omega arith, subst (λ rest. Seen c.insert.new.self rest) (sym left) seen)

pub returns-in-Ok-false : goal.returns-in-Ok-false
returns-in-Ok-false c =
    let ties = c.items-ties.result.now in
    let tie = c.index-ties-i.result in
    let left = left_of ties c.loop-i.i tie c.loop-i-test.true (omega arith) c.index-ties-i.is in
    let own : c.as_str.result.now ≡ tie.name = c.as_str.ensures.text ∙ ap (λ t. t.name) (sym c.index-ties-i.is) in
    let there = not_false _ (sym c.in-Ok-false.field-0-test ∙ c.in-Ok-false.ensures.added) in
    let twice = seen_twice c.loop-i.names ties (c.loop-i.i - 1) tie (drop c.loop-i.i ties) c.as_str.result c.loop-i.invariant.1 own there left in
    or_fails-false Services names_differ c.args.services (ap names_differ (sym c.items-ties.ensures) ∙ twice)

pub returns : goal.returns
returns c =
    let none : c.loop-i.i ≡ 0 = omega arith in
    let all : names_differ c.items-ties.result.now ≡ true = subst (λ i. names_differ (drop i c.items-ties.result.now) ≡ true) none c.loop-i.invariant.1.differ in
    or_fails-true Services names_differ c.args.services (ap names_differ (sym c.items-ties.ensures) ∙ all)
