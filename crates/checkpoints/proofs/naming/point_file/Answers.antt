use Rattle.std.proofs.Common.{◌≤◌, length, sym, ◌∙◌, subst}
use Rattle.host_core.specs.Names.{longest_plain_name}
use Rattle.checkpoints.proofs.NamesOfFiles.{short_file}
use Rattle.checkpoints.proofs.naming.point_file.Goals as goal

pub returns-clause-short : goal.returns-clause-short
returns-clause-short c =
    subst (λ t. length t ≤ longest_plain_name) (sym (c.from.ensures ∙ c.in_ok-file.ensures.ok)) (short_file c.args.name.now c.requires)
