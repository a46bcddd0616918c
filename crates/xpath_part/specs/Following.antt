-- What a token that opens and closes nothing makes of what has been read.
use Rattle.std.specs.Prelude.{ℕ, Bool, false, List, [], codes, Option, Some, None, option_map, option_and_then, if◌then◌else◌}
use Rattle.std.specs.Str.{bytes_eq}
use Rattle.xpath_part.specs.Expression.{count, Stride, up as up_stride, stay as stay_stride}
use Rattle.xpath_part.specs.Expressions.{path_of}
use Rattle.xpath_part.specs.Phases.{with_test, with_stride, ended, settled, start_place, step_due, joined_or}
use Rattle.xpath_part.specs.declared.comparisons.Cmp.{Cmp}
use Rattle.xpath_part.specs.declared.comparisons.Cmp.TheVariants.{Equal, Differ, Less, AtMost, More, AtLeast}
use Rattle.xpath_part.specs.declared.expressions.Operand.{Operand}
use Rattle.xpath_part.specs.declared.expressions.Operand.TheVariants.{Walk as Walks, Literal}
use Rattle.xpath_part.specs.declared.following.Connective.{Connective}
use Rattle.xpath_part.specs.declared.following.Connective.TheVariants.{Or, And}
use Rattle.xpath_part.specs.declared.origins.Origin.TheVariants.{Root, Context}
use Rattle.xpath_part.specs.declared.phases.Level.{Level}
use Rattle.xpath_part.specs.declared.phases.Tested.{Tested}
use Rattle.xpath_part.specs.declared.phases.Role.{Role}
use Rattle.xpath_part.specs.declared.phases.Role.TheVariants.{Left, Right, Counted}
use Rattle.xpath_part.specs.declared.phases.Place.{Place}
use Rattle.xpath_part.specs.declared.phases.Whole.{Whole}
use Rattle.xpath_part.specs.declared.phases.Phase.{Phase}
use Rattle.xpath_part.specs.declared.phases.Phase.TheVariants.{Due, Step, Name, Whole as AtWhole, Current, Tested as AtTested, Comparison, Number}
use Rattle.xpath_part.specs.declared.sought.Relation.{Relation}
use Rattle.xpath_part.specs.declared.sought.Relation.TheVariants.{Same, Different}

abbrev slash_operand : Level → Role → Operand → Option Phase
slash_operand l r (Walks w) = Some (Step l (record { role = r; walk = w }))
slash_operand l r (Literal s) = None

-- `/` goes on from a path
abbrev pub slash_behind : Whole → Option Phase
slash_behind w = slash_operand w.level w.role w.operand

-- `/` where no predicate follows any more
abbrev pub slash_ended : Phase → Option Phase
slash_ended (Due l r) = Some (Step l (start_place r Root))
slash_ended (AtWhole w) = slash_behind w
slash_ended (Step l p) = None
slash_ended (Name l n) = None
slash_ended (Current l r) = None
slash_ended (AtTested t) = None
slash_ended (Comparison l w) = None
slash_ended (Number l w c) = None

-- `/`
abbrev pub slash : Phase → Option Phase
slash p = slash_ended (ended p)

-- a counted path that has had a name, behind which no `..` stands
abbrev pub is_past_name : Role → Bool
is_past_name Left = false
is_past_name (Right r o) = false
is_past_name (Counted past) = past

-- a path with one step more
abbrev pub with_step : Level → Place → Stride → Phase
with_step l p s =
    AtWhole (record { level = l; role = p.role; operand = Walks (with_stride p.walk s) })

-- `..` where a step is due
abbrev pub up_at : Level × Place → Option Phase
up_at p = if is_past_name p.1.role then None else Some (with_step p.0 p.1 up_stride)

-- `..`
abbrev pub up : Phase → Option Phase
up p = option_and_then up_at (step_due p)

-- `.`
abbrev pub stay : Phase → Option Phase
stay p = option_map (λ q. with_step q.0 q.1 stay_stride) (step_due p)

-- behind an operand `or` and `and` are operators
abbrev pub connective_of : Option (List ℕ) → List ℕ → Option Connective
connective_of None name =
    if bytes_eq name (codes "or") then Some Or
    else if bytes_eq name (codes "and") then Some And
    else None
connective_of (Some p) name = None

-- what has been read of the tests once `or` or `and` follows
abbrev pub level_behind : Connective → Tested → Level
level_behind Or t = record { ors = Some (joined_or t.ors t.ands); ands = None }
level_behind And t = record { ors = t.ors; ands = Some t.ands }

-- `or` or `and`, behind which a test is due
abbrev pub connected : Connective → Tested → Phase
connected c t = Due (level_behind c t) Left

-- `or` or `and` behind what is read, where it is one
abbrev pub operator_by : Phase → Option Connective → Option Phase
operator_by p None = None
operator_by p (Some c) = option_map (connected c) (settled p)

-- a name behind an operand
abbrev pub operator : Phase → Option (List ℕ) → List ℕ → Option Phase
operator p prefix name = operator_by p (connective_of prefix name)

-- a name that begins a step
abbrev pub named : Level → Place → Option (List ℕ) → List ℕ → Phase
named l p prefix name = Name l (record { place = p; prefix = prefix; name = name; tests = [] })

-- a name
abbrev pub word : Phase → Option (List ℕ) → List ℕ → Option Phase
word (Due l r) prefix name = Some (named l (start_place r Context) prefix name)
word (Step l p) prefix name = Some (named l p prefix name)
word (Name l n) prefix name = operator (Name l n) prefix name
word (AtWhole w) prefix name = operator (AtWhole w) prefix name
word (AtTested t) prefix name = operator (AtTested t) prefix name
word (Current l r) prefix name = None
word (Comparison l w) prefix name = None
word (Number l w c) prefix name = None

-- a literal where an operand is due
abbrev pub literal_due : Level → Role → List ℕ → Option Phase
literal_due l Left s = Some (AtWhole (record { level = l; role = Left; operand = Literal s }))
literal_due l (Right r o) s =
    Some (AtWhole (record { level = l; role = Right r o; operand = Literal s }))
literal_due l (Counted b) s = None

-- a literal
abbrev pub literal : Phase → List ℕ → Option Phase
literal (Due l r) s = literal_due l r s
literal (Step l p) s = None
literal (Name l n) s = None
literal (AtWhole w) s = None
literal (Current l r) s = None
literal (AtTested t) s = None
literal (Comparison l w) s = None
literal (Number l w c) s = None

-- the relation of texts that a comparison means, where it means one
abbrev pub relation_of : Cmp → Option Relation
relation_of Equal = Some Same
relation_of Differ = Some Different
relation_of Less = None
relation_of AtMost = None
relation_of More = None
relation_of AtLeast = None

abbrev compared_by : Level → Role → Operand → Option Relation → Option Phase
compared_by l Left o None = None
compared_by l Left o (Some r) = Some (Due l (Right r o))
compared_by l (Right s left) o r = None
compared_by l (Counted b) o r = None

-- a comparison behind its left side
abbrev pub compared : Whole → Cmp → Option Phase
compared w c = compared_by w.level w.role w.operand (relation_of c)

-- a comparison where no predicate follows any more
abbrev pub comparison_ended : Cmp → Phase → Option Phase
comparison_ended c (AtWhole w) = compared w c
comparison_ended c (Comparison l w) = Some (Number l w c)
comparison_ended c (Due l r) = None
comparison_ended c (Step l p) = None
comparison_ended c (Name l n) = None
comparison_ended c (Current l r) = None
comparison_ended c (AtTested t) = None
comparison_ended c (Number l w d) = None

-- a comparison
abbrev pub comparison : Phase → Cmp → Option Phase
comparison p c = comparison_ended c (ended p)

-- a number
abbrev pub number : Phase → ℕ → Option Phase
number (Number l w c) n = Some (AtTested (with_test l (count (path_of w) c n)))
number (Due l r) n = None
number (Step l p) n = None
number (Name l m) n = None
number (AtWhole w) n = None
number (Current l r) n = None
number (AtTested t) n = None
number (Comparison l w) n = None
