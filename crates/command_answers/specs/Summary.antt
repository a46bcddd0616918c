-- What a demonstration, and the check of a plan, prints before its last line.
use Rattle.std.specs.Prelude.{ℕ, ◌*◌, ◌/◌, List, [], ◌∷◌, ◌++◌, codes, decimal}
use Rattle.gcu_demo.specs.Demo.{vlans_with}
use Rattle.gcu_output.specs.Lines.{line_feed, lines, space}

-- a name and a number
abbrev pub counted : List ℕ → ℕ → List ℕ
counted name n = name ++ space ++ decimal n

-- so many fields change with so many ports: ten with each group of eight
abbrev pub changes_with : ℕ → ℕ
changes_with ports = 5 * ports / 4

-- how many ports, VLANs, changed fields and steps there are
abbrev pub summary : (ports steps : ℕ) → List ℕ
summary ports steps =
    lines
    (counted (codes "ports") ports
    ∷ counted (codes "vlans") (vlans_with ports)
    ∷ counted (codes "changes") (changes_with ports)
    ∷ counted (codes "steps") steps
    ∷ [])

-- that moves are a plan, of so many steps
abbrev pub yes_line : ℕ → List ℕ
yes_line count = counted (codes "yes") count ++ line_feed
