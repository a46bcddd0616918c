-- The operations of a patch (RFC 6902, section 4), their pointers as lists of tokens.
use Rattle.std.specs.Prelude.{ℕ, List, map}
use Rattle.conf_doc.specs.Document.{Document}
use Rattle.conf_doc.specs.Trees.{document}
use Rattle.patch_core.specs.declared.operations.Op.{Op}
use Rattle.patch_core.specs.declared.operations.Op.TheVariants.{Add, Remove, Replace, Move, Copy, Test}
use Rattle.patch_core.specs.declared.patches.Patch.{Patch}

-- what a pointer leads along
abbrev pub Tokens : Type 0
Tokens = List (List ℕ)

-- what a patch has a list of
pub data Operation : Type 0 where
  add : Tokens → Document → Operation
  remove : Tokens → Operation
  replace : Tokens → Document → Operation
  move_to : (from path : Tokens) → Operation
  copy_to : (from path : Tokens) → Operation
  test : Tokens → Document → Operation

-- the operation that an `Op` is
abbrev pub operation_of : Op → Operation
operation_of (Add path tree) = add path.tokens (document tree)
operation_of (Remove path) = remove path.tokens
operation_of (Replace path tree) = replace path.tokens (document tree)
operation_of (Move from path) = move_to from.tokens path.tokens
operation_of (Copy from path) = copy_to from.tokens path.tokens
operation_of (Test path tree) = test path.tokens (document tree)

-- the operations of a patch in order
abbrev pub operations : Patch → List Operation
operations patch = map operation_of patch.ops
