-- The order of the names of faults.
use Rattle.std.specs.Prelude.{ℕ}
use Rattle.yang_text.specs.declared.errors.ModelWhy.{ModelWhy}
use Rattle.yang_text.specs.declared.errors.ModelWhy.TheVariants.{NotUtf8, BadToken, Unbalanced, TooDeep, Unsupported, Repeated, Missing, BadArgument, Duplicate, UnknownName, Circle, BadPattern, BadExpr, TooMany}

-- the place of a name in the list of names
abbrev pub why_number : ModelWhy → ℕ
why_number NotUtf8 = 0
why_number BadToken = 1
why_number Unbalanced = 2
why_number TooDeep = 3
why_number Unsupported = 4
why_number Repeated = 5
why_number Missing = 6
why_number BadArgument = 7
why_number Duplicate = 8
why_number UnknownName = 9
why_number Circle = 10
why_number BadPattern = 11
why_number BadExpr = 12
why_number TooMany = 13
