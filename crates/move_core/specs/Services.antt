-- The services that are restarted after moves.
use Rattle.std.specs.Prelude.{ℕ, suc, List, [], ◌∷◌, Bool, nat_eq, filter, map, flat_map, if◌then◌else◌}
use Rattle.std.specs.Cmp.Lexicographic.{pointwise}
use Rattle.std.specs.List.{list_any}
use Rattle.move_core.specs.Moves.{Place, place}
use Rattle.move_core.specs.declared.moves.Move.{Move}
use Rattle.move_core.specs.declared.settings.ServiceTie.{ServiceTie}
use Rattle.move_core.specs.declared.settings.Settings.{Settings}

-- the first name of a place
abbrev pub table_of : Place → List ℕ
table_of [] = []
table_of (t ∷ names) = t

-- the service is tied to the table
abbrev pub is_tied : List ℕ → ServiceTie → Bool
is_tied table tie = list_any (pointwise nat_eq table) tie.tables

-- the numbers of the services tied to a table, counted from i
abbrev pub tied_from : ℕ → List ℕ → List ServiceTie → List ℕ
tied_from i table [] = []
tied_from i table (tie ∷ ties) =
    if is_tied table tie then i ∷ tied_from (suc i) table ties
    else tied_from (suc i) table ties

-- the services of a move, by their positions in the rules file, in its order
abbrev pub services_of : Settings → Move → List ℕ
services_of settings m = tied_from 0 (table_of (place m)) settings.services

-- the names of the services of a move
abbrev pub service_names : Settings → Move → List (List ℕ)
service_names settings m =
    map (λ tie. tie.name) (filter (is_tied (table_of (place m))) settings.services)

-- the services of moves, those of each in turn
abbrev pub services : Settings → List Move → List (List ℕ)
services settings ms = flat_map (service_names settings) ms
