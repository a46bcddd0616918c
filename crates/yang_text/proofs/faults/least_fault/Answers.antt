use Rattle.std.proofs.Common.{◌∙◌, sym, ap, ◌+◌, drop, get_or, arith, option_to_list}
use Rattle.std.specs.Prelude.{fold}
use Rattle.std.proofs.lemmas.List.{drop_more, drop_all}
use Rattle.yang_text.specs.declared.lexing.Kind.TheVariants.{Word}
use Rattle.yang_text.specs.declared.lexing.Token.{Token}
use Rattle.yang_text.specs.Faults.{lower_of, fault_at}
use Rattle.yang_text.proofs.FaultSteps.{least_step, least_end, depth_grows}
use Rattle.yang_text.proofs.faults.least_fault.Goals as goal

pub loop-token-preserved : goal.loop-token-preserved
loop-token-preserved c =
    let ts = c.args.tokens.now in
    let i = c.loop-token.token-index in
    let d : Token = record { kind = Word; line = 0; start = 0; end = 0 } in
    record {
      depth = omega (arith, depth_grows c.loop-token.depth c.class_of-class.result, c.depth_after-depth.ensures, c.loop-token.invariant.depth);
      rest = least_step c.args.bytes.now c.loop-token.phase c.phase_after-phase.result c.loop-token.depth c.depth_after-depth.result (get_or ts i d) (drop i ts) (drop (i + 1) ts) c.class_of-class.result c.loop-token.best c.lower_why-best.result _
          (drop_more ts i d c.loop-token-test.true) c.class_of-class.ensures c.phase_after-phase.ensures c.depth_after-depth.ensures (c.lower_why-best.ensures ∙ ap (λ w. fold lower_of c.loop-token.best (option_to_list (fault_at (get_or ts i d).line w))) c.refusal.ensures) c.loop-token.invariant.rest;
    }

pub returns : goal.returns
returns c = sym (least_end c.args.bytes.now c.loop-token.phase c.loop-token.depth _ c.loop-token.best (drop_all c.loop-token.token-index c.args.tokens.now c.loop-token-test.false)) ∙ c.loop-token.invariant.rest
