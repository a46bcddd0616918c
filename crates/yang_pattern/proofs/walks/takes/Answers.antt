use Rattle.std.proofs.Common.{chars, ◌≡◌, ◌↔◌, IsUtf8, sym, subst, rules}
use Rattle.std.specs.Str.Iter.{chars_rest}
use Rattle.std.proofs.lemmas.Str.{IsUtf8-past_char, chars_past_char}
use Rattle.yang_pattern.specs.PlaceSets.{contains}
use Rattle.yang_pattern.specs.Machine.{machine_of, From, Takes}
use Rattle.yang_pattern.specs.Symbols.{reads_token}
use Rattle.yang_pattern.proofs.LetterSteps.{chars_none}
use Rattle.yang_pattern.proofs.walks.takes.Goals as goal

pub loop-c-preserved : goal.loop-c-preserved
loop-c-preserved c =
    let held = c.loop-c.invariant in
    let parts = c.in-Some.ensures.steps.0 in
    let whole = rw (chars_past_char (chars_rest c.loop-c.c-iterator) (chars_rest c.next.new.self) c.in-Some.c held.0 parts) at held.1 in
    let step = c.step-reached.ensures (chars (chars_rest c.next.new.self)) in (
      IsUtf8-past_char (chars_rest c.loop-c.c-iterator) (chars_rest c.next.new.self) c.in-Some.c held.0 parts,
      (λ h. whole.0 (step.0 h), λ t. step.1 (whole.1 t)),
    )

pub loop-c-init : goal.loop-c-init
loop-c-init c =
    let text = c.args.text.now in
    let m = machine_of (reads_token c.args.tokens.now) c.args.fragment.now in
    let all : chars_rest c.into_iter-c-iterator.result ≡ text = first_of (cc, search rules) in
    subst (λ bs. IsUtf8 bs × (Takes m (chars bs) ↔ Takes m (chars text))) (sym all) (c.utf8.text, (λ h. h, λ h. h))

pub returns : goal.returns
returns c =
    let m = machine_of (reads_token c.args.tokens.now) c.args.fragment.now in
    let reached = c.loop-c.reached in
    subst (λ cs. From m (contains reached.next) reached.ended cs ↔ Takes m (chars c.args.text.now)) (chars_none (chars_rest c.loop-c.c-iterator) c.in-None.ensures.steps.0.0) c.loop-c.invariant.1
