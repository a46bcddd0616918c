-- The must that a value is.
use Rattle.xpath_part.specs.Expressions.{expression}
use Rattle.yang_must.specs.Musts.{Must}
use Rattle.yang_must.specs.declared.must_values.MustValue.{MustValue}

-- by its expression, and the tables that it reads
abbrev pub must_value : MustValue → Must
must_value v = record { expression = expression v.expr; reads = v.reads }
