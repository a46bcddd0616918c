-- A compact text in brackets is read as the patch of its operation.
use Rattle.std.proofs.Common.{◌≡◌, ℕ, ◌≤◌, List, [], ◌∷◌, None, Ok, Err, sym, ap, ◌∙◌, arith, append_assoc}
use Rattle.conf_doc.specs.Document.{depth}
use Rattle.conf_doc.specs.Sound.{IsSound}
use Rattle.conf_doc.specs.Texts.{compact}
use Rattle.patch_core.specs.Apply.{most_levels}
use Rattle.patch_core.specs.Operation.{Operation, add, remove, replace, move_to, copy_to, test}
use Rattle.patch_core.specs.Reading.{patch}
use Rattle.patch_core.specs.Writing.{operation_document, patch_document, patch_file, most_value_levels, value_depth}
use Rattle.patch_core.specs.declared.errors.PatchError.{PatchError}
use Rattle.plan_texts.specs.Elements.{Reads, in_brackets, only}

-- the patch of one operation nests little deeper than its value
shallow : (op : Operation) → value_depth op ≤ most_value_levels → depth (patch_document (op ∷ [])) ≤ most_levels
shallow (add path v) few = omega arith
shallow (remove path) few = omega arith
shallow (replace path v) few = omega arith
shallow (move_to from path) few = omega arith
shallow (copy_to from path) few = omega arith
shallow (test path v) few = omega arith

-- its file is the text in brackets
in_file : (op : Operation) → in_brackets (compact (operation_document op)) ≡ patch_file (op ∷ [])
in_file op = ap (λ bs. 91 ∷ bs) (sym (append_assoc (compact (operation_document op)) (93 ∷ []) (10 ∷ [])))

module _ (laws : (ops : List Operation) → IsSound (patch_document ops) → depth (patch_document ops) ≤ most_levels → patch (patch_file ops) ≡ Ok ops) (text : List ℕ) where
  -- the operation is the one that its text is read as
  pub one_read : (op : Operation) → IsSound (operation_document op) → value_depth op ≤ most_value_levels → text ≡ compact (operation_document op) → patch (in_brackets text) ≡ Ok (op ∷ [])
  one_read op sound few is = ap (λ t. patch (in_brackets t)) is ∙ ap patch (in_file op) ∙ laws (op ∷ []) (sound, tt) (shallow op few)

  -- a patch is read
  pub read_one : (ops : List Operation) → patch (in_brackets text) ≡ Ok ops → Reads text (only ops)
  read_one ops is op sound few same =
      let one = one_read op sound few same in
      let ops_are : ops ≡ op ∷ [] = cc in
      ap only ops_are

  -- none is read
  pub read_none : (e : PatchError) → patch (in_brackets text) ≡ Err e → Reads text None
  read_none e is op sound few same = let one = one_read op sound few same in absurd cc
