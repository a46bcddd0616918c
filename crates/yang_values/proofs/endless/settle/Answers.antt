use Rattle.std.proofs.Common.{rules, ◌≡◌, ◌∙◌, ◌+◌, ◌-◌, false, List, map, refl, sym, ap, subst, arith}
use Rattle.yang_scope.specs.Paths.{Placed}
use Rattle.yang_values.specs.Endless.{known_of, place_of, AreClosed, AreRight}
use Rattle.yang_values.specs.Values.{most_steps}
use Rattle.yang_values.specs.declared.endless.Taste.{Taste}
use Rattle.yang_values.proofs.KnownTypes.{settled}
use Rattle.yang_values.proofs.endless.settle.Goals as goal

pub loop-steps-init : goal.loop-steps-init
loop-steps-init c = record { places = refl; right = λ is_pattern decides. c.requires.right is_pattern }

pub next_round-requires : goal.next_round-requires
next_round-requires c = record {
  closed = subst (AreClosed c.args.names.now) (sym (ap (map place_of) c.as_slice.ensures.value ∙ c.loop-steps.invariant.places)) c.requires.closed;
}

pub returns-then-not-round-clause-right : goal.returns-then-not-round-clause-right
returns-then-not-round-clause-right c = λ is_pattern decides.
    let modules = c.args.names.now in
    let s = c.args.text.now in
    let n = c.loop-steps.steps in
    let known : List (Placed × Taste) = map known_of c.loop-steps.known.items in
    let quiet : c.in_ok-round.round.changed ≡ false = search rules in
    let slice : map known_of c.as_slice.result.now ≡ known = ap (map known_of) c.as_slice.ensures.value in
    let same : map known_of c.in_ok-round.round.known.items ≡ known = c.in_ok-round.ensures.same quiet ∙ slice in
    let within : n + (most_steps - n) ≡ most_steps = omega (arith, c.loop-steps-test.true) in
    subst (λ m. AreRight is_pattern modules s m known) within
    (settled is_pattern modules s known
    (λ most right.
    subst (AreRight is_pattern modules s (most + 1)) same
    (c.in_ok-round.ensures.right is_pattern decides most (subst (AreRight is_pattern modules s most) (sym slice) right)))
    n (most_steps - n) (c.loop-steps.invariant.right is_pattern decides))

pub loop-steps-preserved : goal.loop-steps-preserved
loop-steps-preserved c = record {
  places = c.in_ok-round.ensures.places ∙ ap (map place_of) c.as_slice.ensures.value ∙ c.loop-steps.invariant.places;
  right = λ is_pattern decides.
      let slice = ap (map known_of) c.as_slice.ensures.value in
      c.in_ok-round.ensures.right is_pattern decides c.loop-steps.steps
      (subst (AreRight is_pattern c.args.names.now c.args.text.now c.loop-steps.steps) (sym slice) (c.loop-steps.invariant.right is_pattern decides));
}

pub returns-clause-right : goal.returns-clause-right
returns-clause-right c = λ is_pattern decides.
    let all : c.loop-steps.steps ≡ most_steps = omega arith in
    subst (λ m. AreRight is_pattern c.args.names.now c.args.text.now m (map known_of c.loop-steps.known.items)) all
    (c.loop-steps.invariant.right is_pattern decides)
