-- The scopes of a switch of several ASICs.
use Rattle.std.specs.Prelude.{ℕ, ◌<◌, List, ◌∷◌, ◌++◌, map, codes, decimal}
use Rattle.std.specs.List.{range_with_len}
use Rattle.scopes.specs.declared.scope.Scope.{Scope}
use Rattle.scopes.specs.declared.scope.Scope.TheVariants.{Localhost, Asic}

-- how many ASICs a switch may have
abbrev pub most_asics : ℕ
most_asics = 256

-- the name of a scope
abbrev pub scope_name : Scope → List ℕ
scope_name Localhost = codes "localhost"
scope_name (Asic n) = codes "asic" ++ decimal n

-- all scopes in order: localhost, then the ASICs by number
unfoldable pub all_scopes : List Scope
all_scopes = Localhost ∷ map Asic (range_with_len 0 most_asics)

-- a scope that there is: the number of an ASIC has 8 bits
abbrev pub IsScope : Scope → Type 0
IsScope Localhost = Unit {0}
IsScope (Asic n) = n < most_asics
