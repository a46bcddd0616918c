use Rattle.std.proofs.Common.{sym, ◌∙◌, arith}
use Rattle.plan_texts.proofs.PathLemmas.{is_a_path}
use Rattle.plan_texts.proofs.places.is_path.Goals as goal

pub returns : goal.returns
returns c =
    let same = is_a_path c.args.names.now (omega arith) c.if-count-gt-MOST_NAMES.false in
    (λ yes. same.0 (sym c.have_letters.ensures ∙ yes), λ is. c.have_letters.ensures ∙ same.1 is)
