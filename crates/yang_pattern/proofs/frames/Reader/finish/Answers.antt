use Rattle.std.proofs.Common.{arith, sym, ◌∙◌, vec_len}
use Rattle.std.proofs.lemmas.Bool.{false≢true, eq-eqb}
use Rattle.yang_pattern.proofs.FrameLemmas.{finish_open}
use Rattle.yang_pattern.proofs.frames.Reader.finish.Goals as goal

pub returns : goal.returns
returns c = λ r s is.
    finish_open r c.args.self.outer.items s.outer s.current
    (λ e. false≢true (sym c.if-is_empty.false ∙ (c.is_empty.ensures ∙ eq-eqb (vec_len c.args.self.outer) 0 (omega (arith, e)))))
    is.outer
