use Rattle.std.proofs.Common.{◌≡◌, ap, subst, ◌∙◌, length, arith}
use Rattle.std.proofs.lemmas.Bool.{eq-eqb, eqb-true}
use Rattle.conf_doc.specs.Runs.{IsRun}
use Rattle.conf_doc.proofs.Segments.{run_of_same, whole_run}
use Rattle.conf_doc.proofs.entries.Entries.same.Goals as goal

pub returns : goal.returns
returns c =
    let one : c.len-len.result ≡ length c.args.self.now = c.len-len.ensures.len ∙ ap length c.self.view_is in
    let two : c.len.result ≡ length c.args.other.now = c.len.ensures.len ∙ ap length c.other.view_is in
    let as_long = c.if-len.false in
    let run = c.count_same.ensures in (
      λ yes.
          let is : c.count_same.result ≡ c.len-len.result = eqb-true _ _ yes in
          whole_run c.args.self.now c.args.other.now (omega (arith, one, two, as_long)) (subst (IsRun c.args.self.now 0 c.args.other.now 0) (is ∙ one) run),
      λ same.
          let whole : c.count_same.result ≡ length c.args.self.now = run_of_same c.args.self.now c.args.other.now c.count_same.result same run in
          eq-eqb _ _ (omega (arith, whole, one)),
    )
