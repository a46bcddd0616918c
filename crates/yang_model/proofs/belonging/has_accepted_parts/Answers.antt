use Rattle.std.proofs.Common.{add-one, sym, ◌∙◌, refl, arith}
use Rattle.std.proofs.lemmas.Bool.{false≢true}
use Rattle.key_split.specs.Key.{key_parts}
use Rattle.yang_model.specs.Belongs.{AcceptsPart}
use Rattle.yang_model.proofs.Fitting.{IsSomeAnd-at, AllZip-more, AllZip-whole, length-all_zip}
use Rattle.yang_model.proofs.belonging.has_accepted_parts.Goals as goal

pub returns-then-parts-keys : goal.returns-then-parts-keys
returns-then-parts-keys c =
    (λ e. absurd (false≢true e), λ all. absurd (c.if-parts-keys.true (c.parts.ensures ∙ length-all_zip AcceptsPart _ _ all)))

pub returns-then-not-is_accepted : goal.returns-then-not-is_accepted
returns-then-not-is_accepted c = (
  λ e. absurd (false≢true e),
  λ all. c.if-not-is_accepted.ensures.1
      (IsSomeAnd-at AcceptsPart c.loop-i.i c.args.keys.now (key_parts c.args.key.now) c.index-keys-i.result c.part.result c.loop-i-test.true c.index-keys-i.is c.part.ensures all),
)

pub loop-i-preserved : goal.loop-i-preserved
loop-i-preserved c =
    rw add-one
    (AllZip-more AcceptsPart c.loop-i.i c.args.keys.now (key_parts c.args.key.now) c.index-keys-i.result c.part.result c.loop-i-test.true c.index-keys-i.is c.part.ensures
    c.loop-i.invariant (c.if-not-is_accepted.ensures.0 refl))

pub returns : goal.returns
returns c = (
  λ e. AllZip-whole AcceptsPart c.loop-i.i c.args.keys.now (key_parts c.args.key.now) (omega arith) (sym c.parts.ensures ∙ c.if-parts-keys.false) c.loop-i.invariant,
  λ all. refl,
)
