use Rattle.std.proofs.Common.{◌≡◌, subst, sym, List, ℕ, Some, None, chars, ◌↔◌, string_bytes}
use Rattle.std.proofs.lemmas.Result.{err_from_is_err_and}
use Rattle.yang_pattern.specs.declared.letters.Letter.{Letter}
use Rattle.yang_pattern.specs.declared.symbols.Token.{Token}
use Rattle.yang_pattern.specs.declared.fragments.Fragment.{Fragment}
use Rattle.yang_pattern.specs.declared.tokens.Mode.TheVariants.{Outside}
use Rattle.yang_pattern.specs.Symbols.{reads_token}
use Rattle.yang_pattern.specs.Machine.{machine_of, Takes}
use Rattle.yang_pattern.specs.Lexing.{lex}
use Rattle.yang_pattern.specs.Parts.{IsPatternPart}
use Rattle.yang_pattern.specs.Pattern.{Branches, Matches}
use Rattle.yang_pattern.specs.Reading.{run, start}
use Rattle.yang_pattern.specs.Language.{SpellsWithin}
use Rattle.yang_pattern.proofs.LetterSteps.{IfNoPattern-weaker}
use Rattle.yang_pattern.proofs.PatternUniqueness.{no_letters, no_tokens, no_pattern, found_large, found_whole}
use Rattle.yang_pattern.proofs.patterns.Pattern.read_whole.Goals as goal

pub returns-in_err-letters-clause-bad : goal.returns-in_err-letters-clause-bad
returns-in_err-letters-clause-bad c =
    let p = err_from_is_err_and c.from_residual.result c.from_residual.ensures.1 in
    rw (p.1, p.2) (IfNoPattern-weaker c.in_err-letters.field-0.0 (λ none. no_letters c.args.text.now none) c.in_err-letters.ensures.bad)

pub returns-in_err-tokens-clause-bad : goal.returns-in_err-tokens-clause-bad
returns-in_err-tokens-clause-bad c =
    let ls = c.in_ok-letters.letters.items in
    let p = err_from_is_err_and c.from_residual-in_err-tokens.result c.from_residual-in_err-tokens.ensures.1 in
    rw (p.1, p.2)
    (IfNoPattern-weaker c.in_err-tokens.field-0.0
    (λ none. no_tokens c.args.text.now ls c.in_ok-letters.ensures.ok (subst (λ (x : List Letter). lex Outside x ≡ None) c.deref.ensures.value none))
    c.in_err-tokens.ensures.bad)

pub returns-in_err-part-clause-bad : goal.returns-in_err-part-clause-bad
returns-in_err-part-clause-bad c =
    let text = c.args.text.now in
    let ls = c.in_ok-letters.letters.items in
    let ts = c.in_ok-tokens.tokens.items in
    let lexed : lex Outside ls ≡ Some ts = subst (λ (x : List Letter). lex Outside x ≡ Some ts) c.deref.ensures.value c.in_ok-tokens.ensures.ok in
    let p = err_from_is_err_and c.from_residual-in_err-part.result c.from_residual-in_err-part.ensures.1 in
    rw (p.1, p.2)
    (IfNoPattern-weaker c.in_err-part.field-0.0
    (λ none. no_pattern text ls ts c.in_ok-letters.ensures.ok lexed (subst (λ (x : List Token). run x start ≡ None) c.deref-2.ensures.value none))
    c.in_err-part.ensures.bad)

pub returns-in-None-clause-bad : goal.returns-in-None-clause-bad
returns-in-None-clause-bad c =
    let text = c.args.text.now in
    let ls = c.in_ok-letters.letters.items in
    let ts = c.in_ok-tokens.tokens.items in
    let part = c.in_ok-part.part in
    let lexed : lex Outside ls ≡ Some ts = subst (λ (x : List Letter). lex Outside x ≡ Some ts) c.deref.ensures.value c.in_ok-tokens.ensures.ok in
    let (bs, read, is) = subst (λ (x : List Token). (bs : Branches) × (run x start ≡ Some bs) × IsPatternPart (reads_token x) part bs) c.deref-2.ensures.value c.in_ok-part.ensures.ok in
    found_large text ls ts c.in_ok-letters.ensures.ok lexed part bs read is c.in-None.is

pub invariant_of-result : goal.invariant_of-result
invariant_of-result c =
    let text = c.args.text.now in
    let ls = c.in_ok-letters.letters.items in
    let ts = c.in_ok-tokens.tokens.items in
    let part = c.in_ok-part.part in
    let lexed : lex Outside ls ≡ Some ts = subst (λ (x : List Letter). lex Outside x ≡ Some ts) c.deref.ensures.value c.in_ok-tokens.ensures.ok in
    let (bs, read, is) = subst (λ (x : List Token). (bs : Branches) × (run x start ≡ Some bs) × IsPatternPart (reads_token x) part bs) c.deref-2.ensures.value c.in_ok-part.ensures.ok in
    let whole = found_whole text ls ts c.in_ok-letters.ensures.ok lexed part bs read is c.in-Some.whole c.in-Some.is in
    let copied : string_bytes c.in_ok-from_str-in-Some.field-0 ≡ text = c.in_ok-from_str-in-Some.ensures.ok in
    rw copied (subst (λ (f : Fragment). (bs : Branches) × SpellsWithin (chars text) bs × ((u : List ℕ) → Takes (machine_of (reads_token ts) f) u ↔ Matches bs u)) (sym c.in-Some.whole-is) whole)

pub returns-clause-ok : goal.returns-clause-ok
returns-clause-ok c =
    let text = c.args.text.now in
    let ls = c.in_ok-letters.letters.items in
    let ts = c.in_ok-tokens.tokens.items in
    let part = c.in_ok-part.part in
    let lexed : lex Outside ls ≡ Some ts = subst (λ (x : List Letter). lex Outside x ≡ Some ts) c.deref.ensures.value c.in_ok-tokens.ensures.ok in
    let (bs, read, is) = subst (λ (x : List Token). (bs : Branches) × (run x start ≡ Some bs) × IsPatternPart (reads_token x) part bs) c.deref-2.ensures.value c.in_ok-part.ensures.ok in
    let whole = found_whole text ls ts c.in_ok-letters.ensures.ok lexed part bs read is c.in-Some.whole c.in-Some.is in
    (whole.0, whole.1)
