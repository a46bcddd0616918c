use Rattle.yang_pattern.specs.Pattern.{symbol}
use Rattle.yang_pattern.proofs.frames.Reader.symbol.Goals as goal

pub returns : goal.returns
returns c = λ r s y reads is. record {
  current = c.in_ok-with_atom.ensures r s.current (symbol y) is.current (c.in_ok-atom.ensures r y reads);
  outer = is.outer;
}
