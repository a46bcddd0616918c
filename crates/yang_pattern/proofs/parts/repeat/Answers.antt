use Rattle.std.proofs.Common.{◌∙◌, ap, ◌*◌}
use Rattle.yang_pattern.specs.Symbols.{factor}
use Rattle.yang_pattern.specs.Machine.{machine_of, Takes}
use Rattle.yang_pattern.specs.Pattern.{MatchesAtom}
use Rattle.yang_pattern.proofs.Repeating.{row_along}
use Rattle.yang_pattern.proofs.parts.repeat.Goals as goal

pub returns : goal.returns
returns c = λ r a have.
    let atom = c.args.atom in
    let new = c.in_ok-times.ensures in (
      new.count ∙ ap (λ n. n * factor c.args.quantifier) have.0,
      λ u. (
        λ t. let (n, allowed, row) = (new.language r u).0 t in (n, allowed, row_along (Takes (machine_of r atom)) (λ v. MatchesAtom a v) (λ v h. (have.1 v).0 h) n u row),
        λ (n, allowed, row). (new.language r u).1 (n, allowed, row_along (λ v. MatchesAtom a v) (Takes (machine_of r atom)) (λ v h. (have.1 v).1 h) n u row),
      ),
    )
