-- The files that a scope has in the folder, and the plain names that it knows them by.
use Rattle.std.specs.Prelude.{ℕ, Bool, ◌&&◌, ◌||◌, not, List, ◌++◌, length, drop, codes, decimal, if◌then◌else◌, nat_eq, Option, Some, None}
use Rattle.std.specs.List.{starts_with}
use Rattle.std.specs.Str.{bytes_eq}
use Rattle.scopes.specs.declared.scope.Scope.{Scope}
use Rattle.scopes.specs.declared.scope.Scope.TheVariants.{Localhost, Asic}

-- the plain name of a configuration
abbrev pub config_name : List ℕ
config_name = codes "config_db.json"

-- the configuration of an ASIC
abbrev pub asic_config : ℕ → List ℕ
asic_config n = codes "config_db" ++ decimal n ++ codes ".json"

-- how the names of its other files begin
abbrev pub asic_begin : ℕ → List ℕ
asic_begin n = codes "asic" ++ decimal n ++ codes "."

-- the file of the folder that a scope knows by a plain name
abbrev pub file_name : Scope → List ℕ → List ℕ
file_name Localhost plain = plain
file_name (Asic n) plain =
    if bytes_eq plain config_name then asic_config n else asic_begin n ++ plain

-- the part of a file's name that a scope may know it by
abbrev pub plain_part : Scope → List ℕ → List ℕ
plain_part Localhost name = name
plain_part (Asic n) name =
    if bytes_eq name (asic_config n) then config_name else drop (length (asic_begin n)) name

-- the plain name that a scope knows a file of the folder by, where it has that file
abbrev pub plain_name : Scope → List ℕ → Option (List ℕ)
plain_name scope name =
    let plain = plain_part scope name in
    if bytes_eq (file_name scope plain) name then Some plain else None

-- a name that is no ASIC's: it begins neither with `asic` nor with `config_db`, unless a `.` follows
abbrev pub is_of_host : List ℕ → Bool
is_of_host name =
    not (starts_with nat_eq name (codes "asic"))
    && (starts_with nat_eq name (codes "config_db.")
    || not (starts_with nat_eq name (codes "config_db")))
