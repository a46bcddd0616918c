use Rattle.std.proofs.Common.{◌≡◌, ◌∙◌, sym, ap, ◌+◌, length, drop, slice_range, get_or, arith}
use Rattle.std.proofs.lemmas.List.{drop_more, drop_all, take_rest}
use Rattle.yang_text.specs.Building.{build, progress}
use Rattle.yang_text.specs.declared.lexing.Kind.TheVariants.{Word}
use Rattle.yang_text.specs.declared.lexing.Token.{Token}
use Rattle.yang_text.proofs.Builds.{build_more, build_end, start_le}
use Rattle.yang_text.proofs.building.read_signs.Goals as goal

pub loop-i-preserved : goal.loop-i-preserved
loop-i-preserved c =
    let ts = c.args.tokens.now in
    let i = c.loop-i.i in
    let d : Token = record { kind = Word; line = 0; start = 0; end = 0 } in
    let start = c.loop-i.start in
    record {
      start = omega (arith, start_le (get_or ts i d).kind start i c.loop-i.invariant.start, c.next_start-start.ensures);
      rest = ap (λ s. build c.args.text.now (progress c.read.new.self (slice_range ts s (i + 1))) (drop (i + 1) ts)) c.next_start-start.ensures
          ∙ build_more c.args.text.now ts start i d c.loop-i.reader c.read.new.self _ c.loop-i.invariant.start c.loop-i-test.true (drop_more ts i d c.loop-i-test.true) c.in_ok-read.ensures.ok c.loop-i.invariant.rest;
    }

pub returns-clause-ok : goal.returns-clause-ok
returns-clause-ok c =
    let ts = c.args.tokens.now in
    let ends : c.loop-i.i ≡ length ts = omega arith in
    ap (λ us. progress c.loop-i.reader us) (sym (take_rest ts c.loop-i.start) ∙ ap (λ n. slice_range ts c.loop-i.start n) (sym ends))
    ∙ sym (build_end c.args.text.now _ (drop c.loop-i.i ts) (drop_all c.loop-i.i ts (omega arith)))
    ∙ c.loop-i.invariant.rest
