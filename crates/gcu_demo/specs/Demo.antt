-- The two configurations of a demonstration: a start with so many ports, and the goal, which is the start
-- with some of its fields changed. Ports, VLANs and members are numbered from 0.
use Rattle.std.specs.Prelude.{ℕ, ◌+◌, ◌*◌, ◌/◌, ◌%◌, List, [], ◌∷◌, ◌++◌, map, codes, decimal, if◌then◌else◌, ◌&&◌, ◌==◌, nat_le, nat_lt}
use Rattle.std.specs.List.{range_with_len}
use Rattle.conf_doc.specs.Pairs.{put}
use Rattle.conf_doc.specs.declared.configuration.Config.{Config}
use Rattle.conf_doc.specs.declared.configuration.Entry.{Entry}
use Rattle.conf_doc.specs.declared.configuration.Table.{Table}
use Rattle.conf_doc.specs.declared.configuration.Value.TheVariants.{Text}

-- ---- sizes

-- the greatest seed
abbrev pub greatest_seed : ℕ
greatest_seed = 65535

-- ports come in groups of so many
abbrev pub group : ℕ
group = 8

-- how many ports there are at most
abbrev pub most_ports : ℕ
most_ports = 256

-- so many VLANs go with so many ports: five with each group
abbrev pub vlans_with : ℕ → ℕ
vlans_with ports = 5 * ports / group

-- ---- tables

-- the pairs, each put in its place in the order of the names
abbrev pub in_order : {A : Type 0} → List (List ℕ × A) → List (List ℕ × A)
in_order [] = []
in_order (p ∷ ps) = put p.0 p.1 (in_order ps)

-- the table of the rows of the numbers below a count, each a key and its entry
abbrev pub table_of : (ℕ → List ℕ × Entry) → ℕ → Table
table_of row count = in_order (map row (range_with_len 0 count))

-- ---- ports

-- the first of the four lanes of a port, which is its number in its name too
abbrev pub first_lane : ℕ → ℕ
first_lane i = 4 * i

-- the name of a port
abbrev pub port_name : ℕ → List ℕ
port_name i = codes "Ethernet" ++ decimal (first_lane i)

-- a lane and the next one
abbrev pub two_lanes : ℕ → List ℕ
two_lanes lane = decimal lane ++ codes "," ++ decimal (lane + 1)

-- a lane and the next three
abbrev pub four_lanes : ℕ → List ℕ
four_lanes lane = two_lanes lane ++ codes "," ++ two_lanes (lane + 2)

-- a port with that status, these lanes and that speed
abbrev pub port_with : (status lanes speed : List ℕ) → Entry
port_with status lanes speed =
    (codes "admin_status", Text status)
    ∷ (codes "lanes", Text lanes)
    ∷ (codes "speed", Text speed)
    ∷ []

-- the port of a number at the start
abbrev pub start_port : ℕ → List ℕ × Entry
start_port i = (port_name i, port_with (codes "up") (four_lanes (first_lane i)) (codes "100000"))

-- the third to the sixth of each group of ports go down
abbrev pub goal_status : ℕ → List ℕ
goal_status i =
    if nat_le 2 (i % group) && nat_le (i % group) 5 then codes "down"
    else codes "up"

-- the first of each group keeps two lanes
abbrev pub goal_lanes : ℕ → List ℕ
goal_lanes i =
    if i % group == 0 then two_lanes (first_lane i)
    else four_lanes (first_lane i)

-- the second of each group becomes slower
abbrev pub goal_speed : ℕ → List ℕ
goal_speed i = if i % group == 1 then codes "40000" else codes "100000"

-- the port of a number at the goal
abbrev pub goal_port : ℕ → List ℕ × Entry
goal_port i = (port_name i, port_with (goal_status i) (goal_lanes i) (goal_speed i))

-- ---- VLANs

-- where the numbers of VLANs begin
abbrev pub first_vlan : ℕ
first_vlan = 100

-- the number of a VLAN as a text
abbrev pub vlan_id : ℕ → List ℕ
vlan_id j = decimal (first_vlan + j)

-- the name of a VLAN
abbrev pub vlan_name : ℕ → List ℕ
vlan_name j = codes "Vlan" ++ vlan_id j

-- the VLAN of a number at the start
abbrev pub start_vlan : ℕ → List ℕ × Entry
start_vlan j = (vlan_name j, (codes "vlanid", Text (vlan_id j)) ∷ [])

-- the same with a description
abbrev pub described_vlan : ℕ → List ℕ × Entry
described_vlan j = (
  vlan_name j,
  (codes "description", Text (codes "vlan " ++ decimal j))
      ∷ (codes "vlanid", Text (vlan_id j))
      ∷ [],
)

-- at the goal the first VLANs are described, half as many as there are ports
abbrev pub goal_vlan : ℕ → ℕ → List ℕ × Entry
goal_vlan ports j = if nat_lt j (ports / 2) then described_vlan j else start_vlan j

-- ---- members

-- the VLAN that the port of a number is in
abbrev pub vlan_of : (seed ports : ℕ) → ℕ → ℕ
vlan_of seed ports i = (7 * i + seed) % vlans_with ports

-- each port is a tagged member of one VLAN
abbrev pub member : (seed ports : ℕ) → ℕ → List ℕ × Entry
member seed ports i = (
  vlan_name (vlan_of seed ports i) ++ codes "|" ++ port_name i,
  (codes "tagging_mode", Text (codes "tagged")) ∷ [],
)

-- ---- the configurations

-- the configuration of these ports and VLANs, and of the members
abbrev pub config_with : (seed ports : ℕ) → (port vlan : ℕ → List ℕ × Entry) → Config
config_with seed ports port vlan =
    (codes "PORT", table_of port ports)
    ∷ (codes "VLAN", table_of vlan (vlans_with ports))
    ∷ (codes "VLAN_MEMBER", table_of (member seed ports) ports)
    ∷ []

-- the configuration at the start
abbrev pub start : (seed ports : ℕ) → Config
start seed ports = config_with seed ports start_port start_vlan

-- the configuration at the goal
abbrev pub goal : (seed ports : ℕ) → Config
goal seed ports = config_with seed ports goal_port (goal_vlan ports)
