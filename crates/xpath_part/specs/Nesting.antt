-- What opens and closes a nesting of an expression.
use Rattle.std.specs.Prelude.{ℕ, false, List, [], ◌∷◌, ◌++◌, codes, Option, Some, None, option_map, if◌then◌else◌}
use Rattle.std.specs.Str.{bytes_eq}
use Rattle.xpath_part.specs.Expression.{Expression, not_of, Stride}
use Rattle.xpath_part.specs.Phases.{with_test, ended, value_of, start_walk}
use Rattle.xpath_part.specs.declared.expressions.Operand.{Operand}
use Rattle.xpath_part.specs.declared.expressions.Operand.TheVariants.{Walk as Walks, Literal}
use Rattle.xpath_part.specs.declared.nesting.Opening.{Opening}
use Rattle.xpath_part.specs.declared.nesting.Opening.TheVariants.{Group, Negation, Predicate}
use Rattle.xpath_part.specs.declared.nesting.Frame.{Frame}
use Rattle.xpath_part.specs.declared.nesting.Opened.{Opened}
use Rattle.xpath_part.specs.declared.nesting.Opened.TheVariants.{Nested, Flat}
use Rattle.xpath_part.specs.declared.nesting.Closed.{Closed}
use Rattle.xpath_part.specs.declared.nesting.Closed.TheVariants.{Value, Flat as FlatEnd}
use Rattle.xpath_part.specs.declared.nesting.Function.{Function}
use Rattle.xpath_part.specs.declared.nesting.Function.TheVariants.{Not, Count, Current as CurrentNode}
use Rattle.xpath_part.specs.declared.origins.Origin.{Origin}
use Rattle.xpath_part.specs.declared.origins.Origin.TheVariants.{Root, Context, Current as AtCurrent}
use Rattle.xpath_part.specs.declared.phases.Level.{Level}
use Rattle.xpath_part.specs.declared.phases.Role.{Role}
use Rattle.xpath_part.specs.declared.phases.Role.TheVariants.{Left, Right, Counted}
use Rattle.xpath_part.specs.declared.phases.Named.{Named}
use Rattle.xpath_part.specs.declared.phases.Whole.{Whole}
use Rattle.xpath_part.specs.declared.phases.Phase.{Phase}
use Rattle.xpath_part.specs.declared.phases.Phase.TheVariants.{Due, Step, Name, Whole as AtWhole, Current, Tested as AtTested, Comparison, Number}

-- where a nesting begins
abbrev pub fresh : Phase
fresh = Due (record { ors = None; ands = None }) Left

-- the function of a name
abbrev pub function_of : List ℕ → Option Function
function_of name =
    if bytes_eq name (codes "not") then Some Not
    else if bytes_eq name (codes "count") then Some Count
    else if bytes_eq name (codes "current") then Some CurrentNode
    else None

-- the function that the first step of a path is, where it is one
abbrev pub first_of :
    Origin → List Stride → Option (List ℕ) → List ℕ → List Expression → Option Function
first_of Context [] None name [] = function_of name
first_of Context [] None name (e ∷ es) = None
first_of Context [] (Some p) name es = None
first_of Context (s ∷ ss) prefix name es = None
first_of Root ss prefix name es = None
first_of AtCurrent ss prefix name es = None

-- the function that a step is before a parenthesis: it is the first one of its path, and has neither
-- prefix nor predicates
abbrev pub first_name : Named → Option Function
first_name n = first_of n.place.walk.origin n.place.walk.steps n.prefix n.name n.tests

-- what a function opens
abbrev pub called : Function → Level → Role → Option Opened
called CurrentNode l r = Some (Flat (Current l r))
called Not l Left = Some (Nested (record { level = l; opening = Negation }))
called Not l (Right r o) = None
called Not l (Counted b) = None
called Count l Left = Some (Flat (Due l (Counted false)))
called Count l (Right r o) = None
called Count l (Counted b) = None

-- where there is a function
abbrev pub called_by : Option Function → Level → Role → Option Opened
called_by None l r = None
called_by (Some f) l r = called f l r

-- what a name before a parenthesis opens
abbrev pub called_name : Level → Named → Option Opened
called_name l n = called_by (first_name n) l n.place.role

-- a group of tests stands only on the left
abbrev pub opened_group : Level → Role → Option Opened
opened_group l Left = Some (Nested (record { level = l; opening = Group }))
opened_group l (Right r o) = None
opened_group l (Counted b) = None

-- `(`
abbrev pub opened : Phase → Option Opened
opened (Due l r) = opened_group l r
opened (Name l n) = called_name l n
opened (Step l p) = None
opened (AtWhole w) = None
opened (Current l r) = None
opened (AtTested t) = None
opened (Comparison l w) = None
opened (Number l w c) = None

-- `[`
abbrev pub predicate_of : Phase → Option Frame
predicate_of (Name l n) = Some (record { level = l; opening = Predicate n })
predicate_of (Due l r) = None
predicate_of (Step l p) = None
predicate_of (AtWhole w) = None
predicate_of (Current l r) = None
predicate_of (AtTested t) = None
predicate_of (Comparison l w) = None
predicate_of (Number l w c) = None

-- the value of the tests that a parenthesis closes
abbrev pub closed_value : Phase → Option Closed
closed_value p = option_map (λ e. Value e) (value_of p)

abbrev counted_end : Level → Operand → Option Closed
counted_end l (Walks w) = Some (FlatEnd (Comparison l w))
counted_end l (Literal s) = None

abbrev closed_operand : Level → Role → Operand → Option Closed
closed_operand l (Counted b) o = counted_end l o
closed_operand l Left o = closed_value (AtWhole (record { level = l; role = Left; operand = o }))
closed_operand l (Right r left) o =
    closed_value (AtWhole (record { level = l; role = Right r left; operand = o }))

-- what a parenthesis behind an operand closes
abbrev pub closed_whole : Whole → Option Closed
closed_whole w = closed_operand w.level w.role w.operand

-- `)` where no predicate follows any more
abbrev pub closed_ended : Phase → Option Closed
closed_ended (AtWhole w) = closed_whole w
closed_ended (AtTested t) = closed_value (AtTested t)
closed_ended (Current l r) =
    Some (FlatEnd (AtWhole (record {
      level = l;
      role = r;
      operand = Walks (start_walk AtCurrent);
    })))
closed_ended (Due l r) = None
closed_ended (Step l p) = None
closed_ended (Name l n) = None
closed_ended (Comparison l w) = None
closed_ended (Number l w c) = None

-- `)`
abbrev pub closed : Phase → Option Closed
closed p = closed_ended (ended p)

abbrev left_by : Level → Opening → Expression → Option Phase
left_by l Group e = Some (AtTested (with_test l e))
left_by l Negation e = Some (AtTested (with_test l (not_of e)))
left_by l (Predicate n) e = None

-- the end of a nesting in parentheses
abbrev pub left_group : Frame → Expression → Option Phase
left_group f e = left_by f.level f.opening e

-- a name with one predicate more
abbrev pub with_predicate : Named → Expression → Named
with_predicate n e = record {
  place = n.place;
  prefix = n.prefix;
  name = n.name;
  tests = n.tests ++ e ∷ [];
}

abbrev left_bracket : Level → Opening → Expression → Option Phase
left_bracket l (Predicate n) e = Some (Name l (with_predicate n e))
left_bracket l Group e = None
left_bracket l Negation e = None

-- the end of a predicate
abbrev pub left_predicate : Frame → Expression → Option Phase
left_predicate f e = left_bracket f.level f.opening e
