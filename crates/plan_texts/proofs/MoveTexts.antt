-- The texts of moves are read as these moves.
use Rattle.std.proofs.Common.{◌≡◌, ◌≢◌, ℕ, ◌<◌, ◌≤◌, List, [], ◌∷◌, ◌++◌, Option, Some, None, Result, Ok, Err, IfOk, codes, IsUtf8, refl, ap, ◌∙◌, arith}
use Rattle.json.proofs.Printed.Utf8.{IsUtf8-are_ascii}
use Rattle.conf_doc.specs.Configuration.{part_tree}
use Rattle.conf_doc.specs.Document.{Document}
use Rattle.conf_doc.specs.Document as documents
use Rattle.conf_doc.specs.Sound.{IsSound}
use Rattle.conf_doc.specs.WellFormed.{AreTexts}
use Rattle.conf_doc.proofs.WellFormed.{texts_more}
use Rattle.move_core.specs.Operations.{index_text, number_text, op}
use Rattle.move_core.specs.declared.moves.Move.{Move}
use Rattle.move_core.specs.declared.moves.Move.TheVariants.{Add, Remove, Replace, AddItem, RemoveItem}
use Rattle.patch_core.specs.Operation.{Operation, add, remove}
use Rattle.patch_core.specs.Writing.{most_value_levels, operation_document, value_depth, value_document}
use Rattle.plan_texts.specs.Elements.{Reads}
use Rattle.plan_texts.specs.Moves.{IsMoveIn, IsMoveOf, IsStepIn, move_text}
use Rattle.plan_texts.specs.PlanTexts.{IsMove, index_end}
use Rattle.plan_texts.proofs.ItemLemmas.{index_is_text}
use Rattle.plan_texts.proofs.SoundParts.{pointer_text, shallow_part, sound_part}

sound_with : (name : List ℕ) (names : List (List ℕ)) (d : Document) → IsUtf8 name → AreTexts names → IsSound d → IsSound (value_document name names d)
sound_with name names d utf8 texts sound = (
  refl,
  (
    IsUtf8-are_ascii (codes "op") refl,
    utf8,
    (IsUtf8-are_ascii (codes "path") refl, pointer_text names texts, (IsUtf8-are_ascii (codes "value") refl, sound, tt)),
  ),
)

sound_remove : (names : List (List ℕ)) → AreTexts names → IsSound (operation_document (remove names))
sound_remove names texts = (
  refl,
  (
    IsUtf8-are_ascii (codes "op") refl,
    IsUtf8-are_ascii (codes "remove") refl,
    (IsUtf8-are_ascii (codes "path") refl, pointer_text names texts, tt),
  ),
)

sound_add : (names : List (List ℕ)) (d : Document) → AreTexts names → IsSound d → IsSound (operation_document (add names d))
sound_add names d texts sound = sound_with (codes "add") names d (IsUtf8-are_ascii (codes "add") refl) texts sound

-- the names of a field and an index are texts
item_texts : (names : List (List ℕ)) (i : ℕ) → AreTexts names → i < index_end → AreTexts (names ++ index_text i ∷ [])
item_texts names i texts small = texts_more names (index_text i) texts (index_is_text i small)

pub sound_move : (m : Move) → IsMove m → IsSound (operation_document (op m))
sound_move (Add names p) is = sound_add names (part_tree p) is.texts (sound_part p is.part.1)
sound_move (Remove names) is = sound_remove names is.texts
sound_move (Replace names p) is = sound_with (codes "replace") names (part_tree p) (IsUtf8-are_ascii (codes "replace") refl) is.texts (sound_part p is.part.1)
sound_move (AddItem names i t) is = sound_add (names ++ index_text i ∷ []) (documents.text t) (item_texts names i is.texts is.item.1) is.text
sound_move (RemoveItem names i) is = sound_remove (names ++ index_text i ∷ []) (item_texts names i is.texts is.item.1)

pub shallow_move : (m : Move) → value_depth (op m) ≤ most_value_levels
shallow_move (Add names p) = omega (arith, shallow_part p)
shallow_move (Remove names) = omega arith
shallow_move (Replace names p) = omega (arith, shallow_part p)
shallow_move (AddItem names i t) = omega arith
shallow_move (RemoveItem names i) = omega arith

module _ (text : List ℕ) where
  read_as : (o : Option Operation) → Reads text o → (m : Move) → IsMove m → text ≡ move_text m → o ≡ Some (op m)
  read_as o reads m is same = reads (op m) (sound_move m is) (shallow_move m) same

  -- no operation, no move
  pub no_operation : Reads text None → (m : Move) → IsMove m → text ≢ move_text m
  no_operation reads m is same = let read = read_as None reads m is same in absurd cc

  module _ (o : Operation) (reads : Reads text (Some o)) where
    is_operation : (m : Move) → IsMove m → text ≡ move_text m → o ≡ op m
    is_operation m is same = let read = read_as (Some o) reads m is same in cc

    -- an operation that is no move
    pub no_move : IsMoveOf o None → (m : Move) → IsMove m → text ≢ move_text m
    no_move of m is same = let none = of.all m is (is_operation m is same) in absurd cc

    -- a move that is written otherwise
    pub other_move : (mv : Move) → IsMoveOf o (Some mv) → (written : List ℕ) → written ≡ move_text mv → (written ≡ text → ⊥) → (m : Move) → IsMove m → text ≢ move_text m
    other_move mv of written is_text other m is same =
        let found = of.all m is (is_operation m is same) in
        let moves : mv ≡ m = cc in
        let texts : move_text mv ≡ move_text m = ap move_text moves in
        other cc

-- ---- lines

same_rest : (xs ys zs : List ℕ) → xs ++ ys ≡ xs ++ zs → ys ≡ zs
same_rest [] ys zs same = same
same_rest (x ∷ xs) ys zs same = let rest : xs ++ ys ≡ xs ++ zs = cc in same_rest xs ys zs rest

-- behind its number a step is its move
numbered : (number : ℕ) (line rest : List ℕ) → line ≡ number_text number ++ rest → (found : Option Move) → IsMoveIn rest found → IsStepIn number line found
numbered number line rest is None none = λ m move same.
    let both : number_text number ++ rest ≡ number_text number ++ move_text m = cc in
    none m move (same_rest (number_text number) rest (move_text m) both)
numbered number line rest is (Some mv) found = (found.0, is ∙ ap (λ t. number_text number ++ t) found.1)

-- the same of an answer
pub numbered_answer : {E : Type 0} (number : ℕ) (line rest : List ℕ) → line ≡ number_text number ++ rest → (r : Result (Option Move) E) → IfOk r (IsMoveIn rest) → IfOk r (IsStepIn number line)
numbered_answer number line rest is (Ok found) said = numbered number line rest is found said
numbered_answer number line rest is (Err e) said = tt
