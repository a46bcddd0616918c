-- The plain names of a scope's files, in order.
use Rattle.std.specs.Prelude.{ℕ, List, [], ◌∷◌}
use Rattle.std.specs.BTreeSet.{insert_key}
use Rattle.std.specs.Option.{option_map_or}
use Rattle.host_core.specs.Names.{name_cmp}
use Rattle.scopes.specs.Files.{plain_name}
use Rattle.scopes.specs.declared.scope.Scope.{Scope}

-- those of the files of these names
abbrev pub plain_names : Scope → List (List ℕ) → List (List ℕ)
plain_names scope [] = []
plain_names scope (file ∷ files) =
    let names = plain_names scope files in
    option_map_or (insert_key name_cmp names) (plain_name scope file) names
