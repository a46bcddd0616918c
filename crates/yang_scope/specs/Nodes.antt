-- Containers, lists and leaves of the models (RFC 7950, section 7), each found by its name.
use Rattle.std.specs.Prelude.{ℕ, ◌||◌, Bool, List, [], ◌∷◌, Option, codes, map, filter, option_and_then, if◌then◌else◌}
use Rattle.std.specs.Coded.{Coded, coded×, coded_ℕ}
use Rattle.std.specs.List.{find}
use Rattle.yang_text.specs.Coding.{coded_declaration}
use Rattle.yang_text.specs.Declarations.{Declaration, argument, block}
use Rattle.yang_scope.specs.Modules.{Module}
use Rattle.yang_scope.specs.Paths.{Placed, is_named, child_named, container_named}
use Rattle.yang_scope.specs.Statements.{Entry, name_entry, is_keyword, children_of, each_from}

-- a node has the argument of its statement as its name
abbrev pub node_entry : ℕ → Declaration → List Entry
node_entry place d = name_entry place (argument d)

-- a statement with a number is the two
abbrev pub coded_placed : Coded Placed
coded_placed = coded× coded_ℕ coded_declaration

-- the containers of a module
abbrev pub containers_in : ℕ → Module → List Placed
containers_in number m = map (λ d. (number, d)) (children_of (codes "container") m.statement)

-- those of all modules
abbrev pub containers_of : List Module → List Placed
containers_of modules = each_from containers_in 0 modules

-- a list or a fixed container of a table
abbrev pub is_shape : Declaration → Bool
is_shape d = is_keyword (codes "list") d || is_keyword (codes "container") d

-- a shape of a table, where it is a list, with its number
abbrev pub list_in : ℕ → Declaration → List Placed
list_in number d = if is_keyword (codes "list") d then (number, d) ∷ [] else []

-- the lists of a table, with their numbers among its shapes
abbrev pub lists_of : Declaration → List Placed
lists_of d = each_from list_in 0 (filter is_shape (block d))

-- a list of a table by its name, with its number
abbrev pub numbered_list : List ℕ → Declaration → Option Placed
numbered_list name d = find (λ l. is_named name l.1) (lists_of d)

-- a list of a table of a container by their names, with its number
abbrev pub list_named : List Module → List ℕ → List ℕ → List ℕ → Option Placed
list_named modules container table list =
    option_and_then (numbered_list list)
    (option_and_then (λ c. child_named (codes "container") table c.1)
    (container_named modules container))
