-- The rows of the tables, as the code names them.
use Rattle.std.specs.Prelude.{ℕ, ◌≤◌, List}
use Rattle.conf_doc.specs.declared.configuration.Entry.{Entry}
use Rattle.gcu_demo.specs.Demo.{goal_port, goal_vlan, greatest_seed, group, member, most_ports, start_port, start_vlan}
use Rattle.gcu_demo.specs.declared.rows.Rows.{Rows}
use Rattle.gcu_demo.specs.declared.rows.Rows.TheVariants.{StartPorts, GoalPorts, StartVlans, GoalVlans, Members}

-- the row of a number
abbrev pub row : Rows → ℕ → List ℕ × Entry
row StartPorts i = start_port i
row GoalPorts i = goal_port i
row StartVlans i = start_vlan i
row (GoalVlans ports) i = goal_vlan ports i
row (Members seed ports) i = member seed ports i

-- the seed and the number of ports are within their limits
abbrev pub AreWithin : (seed ports : ℕ) → Type 0
AreWithin seed ports = (seed ≤ greatest_seed) × (group ≤ ports) × (ports ≤ most_ports)

-- what the rows are made of is within its limits
abbrev pub AreRows : Rows → Type 0
AreRows (Members seed ports) = AreWithin seed ports
AreRows other = Unit {0}
