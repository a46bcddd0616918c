use Rattle.std.proofs.Common.{◌≡◌, ℕ, ◌<◌, List, Some, map, slice_get}
use Rattle.std.specs.List.{Contains}
use Rattle.conf_doc.specs.declared.configuration.Value.{Value}
use Rattle.ref_index.specs.Texts.{Has, texts_of_value}
use Rattle.ref_index.proofs.text_sets.TextSet.has_one_of.Given as goal

abbrev pub invariant-loop-i : goal.invariant-loop-i
invariant-loop-i l =
    (j : ℕ) → j < l.i → (s : List ℕ) (v : Value) → slice_get (map (λ f. f.1) l.fields) j ≡ Some v → Contains (texts_of_value v) s → ¬ Has l.self s
