-- All that is wrong with a statement and what stands in it.
use Rattle.std.specs.Prelude.{ℕ, Bool, List, [], ◌∷◌, ◌++◌}
use Rattle.std.specs.Option.{option_map_or}
use Rattle.yang_text.specs.Declarations.{Declaration, declare, Block, no_more, more, keyword}
use Rattle.yang_text.specs.declared.errors.ModelWhy.TheVariants.{Unsupported}
use Rattle.yang_scope.specs.Faults.{fault_at}
use Rattle.yang_scope.specs.declared.faults.Fault.{Fault}
use Rattle.yang_faults.specs.declared.kinds.Kind.{Kind}
use Rattle.yang_faults.specs.Own.{sentence_faults}
use Rattle.yang_faults.specs.Rows.{kind_below}

-- knows says which modules there are, settle what kind a statement of a kind is by its argument,
-- and named what is wrong with it by what the names in it stand for
abbrev mutual
  -- all sentences on a statement, and all that is wrong in it
  pub statement_faults : (List ℕ → Bool) → (Kind → Declaration → Kind)
      → (Kind → Declaration → List Fault) → ℕ → Declaration → Kind → List Fault
  statement_faults knows settle named file (declare k a l s e b) kind =
      sentence_faults knows named file kind (declare k a l s e b)
      ++ block_faults knows settle named file b kind

  -- Unsupported stands at a statement that is not in its parent's row, and nothing in it counts
  pub block_faults : (List ℕ → Bool) → (Kind → Declaration → Kind)
      → (Kind → Declaration → List Fault) → ℕ → Block → Kind → List Fault
  block_faults knows settle named file no_more kind = []
  block_faults knows settle named file (more d b) kind =
      option_map_or (λ k. statement_faults knows settle named file d (settle k d))
      (kind_below kind (keyword d))
      (fault_at file Unsupported d ∷ [])
      ++ block_faults knows settle named file b kind

-- a statement in one of a kind
abbrev pub below_faults : (List ℕ → Bool) → (Kind → Declaration → Kind)
    → (Kind → Declaration → List Fault) → ℕ → Kind → Declaration → List Fault
below_faults knows settle named file kind d =
    option_map_or (λ k. statement_faults knows settle named file d (settle k d))
    (kind_below kind (keyword d))
    (fault_at file Unsupported d ∷ [])
