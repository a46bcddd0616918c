-- The document of a patch is read as that patch.
use Rattle.std.specs.Prelude.{◌≡◌, ◌≤◌, ℕ, ◌+◌, List, [], ◌∷◌, decimal, map, Option, Some, Ok}
use Rattle.std.proofs.Common.{refl, ap, arith, ◌∙◌}
use Rattle.host_core.specs.Answers.{◌>>=◌, both, map_ok}
use Rattle.conf_doc.specs.Document.{Document, text, list, object, Items, no_items, item, Members, no_members, member, items_of, depth}
use Rattle.conf_doc.specs.Reading.{below, document_of, items_from, json, members_from}
use Rattle.conf_doc.specs.Texts.{value, item_values, member_values}
use Rattle.serde_json.specs.Data.{Data}
use Rattle.serde_json.specs.Find.{as_array}
use Rattle.patch_core.specs.Elements.{element}
use Rattle.patch_core.specs.Operation.{Operation, add, remove, replace, move_to, copy_to, test}
use Rattle.patch_core.specs.Reading.{at, operations_from, or_bad_json, or_no_array, patch}
use Rattle.patch_core.specs.Apply.{most_levels}
use Rattle.patch_core.specs.Writing.{most_value_levels, operation_document, patch_document, value_depth}
use Rattle.patch_core.proofs.RoundTrip.{tokens-pointer}

-- ---- documents

mutual
  document-value : (d : Document) → document_of (value d) ≡ Ok d
  document-value (text s) = refl
  document-value (list ds) = ap (map_ok list) (items-values 0 ds)
  document-value (object ms) = ap (map_ok object) (members-values ms)

  items-values : (i : ℕ) (ds : Items) → items_from i (item_values ds) ≡ Ok ds
  items-values i no_items = refl
  items-values i (item d ds) = λ j. both item (below (decimal i) (document-value d j)) (items-values (i + 1) ds j)

  members-values : (ms : Members) → members_from (member_values ms) ≡ Ok ms
  members-values no_members = refl
  members-values (member k d ms) = λ j. both (member k) (below k (document-value d j)) (members-values ms j)

-- ---- operations

element-value : (op : Operation) → element (value (operation_document op)) ≡ Ok op
element-value (add path v) = rw (tokens-pointer path, document-value v) refl
element-value (remove path) = rw (tokens-pointer path) refl
element-value (replace path v) = rw (tokens-pointer path, document-value v) refl
element-value (move_to from path) = rw (tokens-pointer from, tokens-pointer path) refl
element-value (copy_to from path) = rw (tokens-pointer from, tokens-pointer path) refl
element-value (test path v) = rw (tokens-pointer path, document-value v) refl

operations-values : (i : ℕ) (ops : List Operation) → operations_from i (item_values (items_of (map operation_document ops))) ≡ Ok ops
operations-values i [] = refl
operations-values i (op ∷ ops) = λ j. both (λ o os. o ∷ os) (at i (element-value op j)) (operations-values (i + 1) ops j)

abbrev pub some_value : Document → Option Data
some_value d = Some (value d)

-- bytes with the JSON value of a patch's document are read as that patch
pub patch-value : (bytes : List ℕ) (ops : List Operation) → json bytes ≡ Some (value (patch_document ops)) → patch bytes ≡ Ok ops
patch-value bytes ops is =
    ap (λ (o : Option Data). or_bad_json o >>= λ d. or_no_array (as_array d) >>= λ ds. operations_from 0 ds) is ∙ operations-values 0 ops

-- the patch and the operation add a level each
pub depth-step : (op : Operation) → value_depth op ≤ most_value_levels → depth (patch_document (op ∷ [])) ≤ most_levels
depth-step (add path v) low = omega arith
depth-step (remove path) low = omega arith
depth-step (replace path v) low = omega arith
depth-step (move_to from path) low = omega arith
depth-step (copy_to from path) low = omega arith
depth-step (test path v) low = omega arith
