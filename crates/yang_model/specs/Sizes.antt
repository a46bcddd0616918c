-- How many files and statements there may be.
use Rattle.std.specs.Prelude.{ℕ, ◌<◌, ◌^◌, All}
use Rattle.yang_text.specs.Declarations.{weight}
use Rattle.yang_must.specs.Spots.{ModelContainer, tables_of}

-- files of one call
abbrev pub most_files : ℕ
most_files = 256

-- statements of a file, nested ones included
abbrev pub most_statements : ℕ
most_statements = 1048576

-- the number of a container's module, and what each of its tables holds, have room in 32 bits
pub record IsSmall (x : ModelContainer) : Type 0 where
  pub numbered : x.number < 2 ^ 32
  pub tables : All (λ t. weight t < 2 ^ 32) (tables_of x.statement)
