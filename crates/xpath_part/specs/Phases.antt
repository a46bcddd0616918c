-- What has been read of an expression, between two of its tokens.
use Rattle.std.specs.Prelude.{true, [], ◌∷◌, ◌++◌, Option, Some, None, option_map}
use Rattle.xpath_part.specs.Expression.{Expression, or_of, and_of, alone, equal, differ, Stride, child, predicates_of}
use Rattle.xpath_part.specs.Expressions.{term_of}
use Rattle.xpath_part.specs.declared.expressions.Operand.{Operand}
use Rattle.xpath_part.specs.declared.expressions.Operand.TheVariants.{Walk as Walks}
use Rattle.xpath_part.specs.declared.expressions.Walk.{Walk}
use Rattle.xpath_part.specs.declared.origins.Origin.{Origin}
use Rattle.xpath_part.specs.declared.origins.Origin.TheVariants.{Context}
use Rattle.xpath_part.specs.declared.phases.Level.{Level}
use Rattle.xpath_part.specs.declared.phases.Tested.{Tested}
use Rattle.xpath_part.specs.declared.phases.Role.{Role}
use Rattle.xpath_part.specs.declared.phases.Role.TheVariants.{Left, Right, Counted}
use Rattle.xpath_part.specs.declared.phases.Place.{Place}
use Rattle.xpath_part.specs.declared.phases.Named.{Named}
use Rattle.xpath_part.specs.declared.phases.Whole.{Whole}
use Rattle.xpath_part.specs.declared.phases.Phase.{Phase}
use Rattle.xpath_part.specs.declared.phases.Phase.TheVariants.{Due, Step, Name, Whole as AtWhole, Current, Tested as AtTested, Comparison, Number}
use Rattle.xpath_part.specs.declared.sought.Relation.TheVariants.{Same, Different}

-- behind `or`
abbrev pub joined_or : Option Expression → Expression → Expression
joined_or None e = e
joined_or (Some a) e = or_of a e

-- behind `and`
abbrev pub joined_and : Option Expression → Expression → Expression
joined_and None e = e
joined_and (Some a) e = and_of a e

-- the level with the test that was due
abbrev pub with_test : Level → Expression → Tested
with_test l e = record { ors = l.ors; ands = joined_and l.ands e }

-- what a path is for, once it has had a name
abbrev pub behind_name : Role → Role
behind_name Left = Left
behind_name (Right r o) = Right r o
behind_name (Counted b) = Counted true

-- a path with one step more
abbrev pub with_stride : Walk → Stride → Walk
with_stride w s = record { origin = w.origin; steps = w.steps ++ s ∷ [] }

-- the path with its last step
abbrev pub with_name : Level → Named → Whole
with_name l n = record {
  level = l;
  role = behind_name n.place.role;
  operand = Walks (with_stride n.place.walk (child n.prefix n.name (predicates_of n.tests)));
}

-- no predicate follows
abbrev pub ended : Phase → Phase
ended (Name l n) = AtWhole (with_name l n)
ended (Due l r) = Due l r
ended (Step l p) = Step l p
ended (AtWhole w) = AtWhole w
ended (Current l r) = Current l r
ended (AtTested t) = AtTested t
ended (Comparison l w) = Comparison l w
ended (Number l w c) = Number l w c

-- the test that an operand ends
abbrev pub test_of : Role → Operand → Option Expression
test_of Left o = Some (alone (term_of o))
test_of (Right Same left) o = Some (equal (term_of left) (term_of o))
test_of (Right Different left) o = Some (differ (term_of left) (term_of o))
test_of (Counted b) o = None

-- the test that an operand ends, at its level
abbrev pub tested_of : Whole → Option Tested
tested_of w = option_map (λ e. with_test w.level e) (test_of w.role w.operand)

-- a test that ends here
abbrev pub settled : Phase → Option Tested
settled (Name l n) = tested_of (with_name l n)
settled (AtWhole w) = tested_of w
settled (AtTested t) = Some t
settled (Due l r) = None
settled (Step l p) = None
settled (Current l r) = None
settled (Comparison l w) = None
settled (Number l w c) = None

-- a whole expression that ends here
abbrev pub value_of : Phase → Option Expression
value_of p = option_map (λ t. joined_or t.ors t.ands) (settled p)

-- a path without steps
abbrev pub start_walk : Origin → Walk
start_walk o = record { origin = o; steps = [] }

-- where a path begins
abbrev pub start_place : Role → Origin → Place
start_place r o = record { role = r; walk = start_walk o }

-- where a step may stand: its level, and its path so far
abbrev pub step_due : Phase → Option (Level × Place)
step_due (Due l r) = Some (l, start_place r Context)
step_due (Step l p) = Some (l, p)
step_due (Name l n) = None
step_due (AtWhole w) = None
step_due (Current l r) = None
step_due (AtTested t) = None
step_due (Comparison l w) = None
step_due (Number l w c) = None
