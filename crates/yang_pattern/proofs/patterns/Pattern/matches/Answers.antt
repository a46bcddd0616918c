use Rattle.std.proofs.Common.{subst, chars, IsTrue, ◌↔◌, ℕ, List}
use Rattle.yang_pattern.specs.declared.symbols.Token.{Token}
use Rattle.yang_pattern.specs.Symbols.{reads_token}
use Rattle.yang_pattern.specs.Machine.{machine_of, Takes}
use Rattle.yang_pattern.specs.Pattern.{Branches, Matches}
use Rattle.yang_pattern.specs.Language.{SpellsWithin}
use Rattle.yang_pattern.proofs.PatternUniqueness.{same_pattern}
use Rattle.yang_pattern.proofs.patterns.Pattern.matches.Goals as goal

pub returns-clause-language : goal.returns-clause-language
returns-clause-language c =
    let (bs, w, language) = c.self.invariant in
    let pattern = chars c.args.self.now in
    let u = chars c.args.text.now in
    let spelled : SpellsWithin pattern bs = subst (λ (t : List ℕ). SpellsWithin (chars t) bs) c.self.view_is w in
    let taken = subst (λ (ts : List Token). IsTrue c.takes.result ↔ Takes (machine_of (reads_token ts) c.self.inside.whole) u) c.deref.ensures.value c.takes.ensures in (
      λ yes. (bs, spelled, (language u).0 (taken.0 yes)),
      λ (a, v, matched). taken.1 ((language u).1 (subst (λ (x : Branches). Matches x u) (same_pattern pattern a bs v spelled) matched)),
    )

pub returns-clause-once : goal.returns-clause-once
returns-clause-once c = λ a b w v. same_pattern (chars c.args.self.now) a b w v
