-- The declaration that a `Statement` is.
use Rattle.yang_text.specs.Declarations.{Declaration, declare, block_of}
use Rattle.yang_text.specs.declared.statements.Statement.{Statement}

-- a statement as its declaration
abbrev pub declaration : Statement → Declaration
declaration s = declare s.keyword s.argument s.line s.start s.end (block_of s.block)
