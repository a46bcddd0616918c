-- A text is of one move.
use Rattle.std.proofs.Common.{◌≡◌, ◌≤◌, ℕ, List, [], ◌∷◌, ◌++◌, length, length-append, Option, Some, Ok, refl, sym, ap, ◌∙◌, subst, arith}
use Rattle.conf_doc.specs.Changes.{Fits}
use Rattle.conf_doc.specs.Configuration.{tree, part_tree}
use Rattle.conf_doc.specs.Document.{Document, depth, text}
use Rattle.conf_doc.specs.Paths.{IsPath}
use Rattle.conf_doc.specs.Sound.{IsSound}
use Rattle.conf_doc.specs.declared.configuration.Config.{Config}
use Rattle.conf_doc.specs.declared.parts.Part.{Part}
use Rattle.conf_doc.specs.declared.parts.Part.TheVariants as part
use Rattle.patch_core.specs.Apply.{most_levels}
use Rattle.patch_core.specs.Operation.{Operation}
use Rattle.patch_core.specs.Reading.{patch}
use Rattle.patch_core.specs.Writing.{patch_document, patch_file}
use Rattle.move_core.specs.Operations.{index_text, op}
use Rattle.move_core.specs.declared.moves.Move.{Move}
use Rattle.move_core.specs.declared.moves.Move.TheVariants.{Add, Remove, Replace, AddItem, RemoveItem}
use Rattle.plan_texts.specs.Moves.{move_text}
use Rattle.plan_texts.specs.Parts.{IsOfKind, IsShapedAs, wrap}
use Rattle.plan_texts.specs.PlanTexts.{IsMove, IsPart}
use Rattle.plan_texts.proofs.ItemLemmas.{items_told}
use Rattle.plan_texts.proofs.MoveTexts.{shallow_move, sound_move}
use Rattle.plan_texts.proofs.OneElement.{one_read}
use Rattle.plan_texts.proofs.PartLemmas.{around, around_formed, entry_inside, entry_wrapped, found_entry, found_part, found_table, found_value, shaped_around, table_inside, table_wrapped, value_inside, value_wrapped}

-- ---- parts by their documents

module _ (n : ℕ) (wrapping : Document → Document) (found : Config → Option Part)
    (wrapped : (d : Document) (p : Part) → IsOfKind n p → d ≡ part_tree p → wrapping d ≡ tree (around p))
    (inside : (p : Part) → IsOfKind n p → found (around p) ≡ Some p) where
  one_part : (p q : Part) → IsOfKind n p → IsOfKind n q → IsPart p → IsPart q → part_tree p ≡ part_tree q → p ≡ q
  one_part p q kind like is are same =
      let d = part_tree p in
      let shaped : IsShapedAs (wrapping d) (Some (around p)) = (shaped_around n d (wrapping d) found (wrapped d) inside p kind is refl, around_formed p is) in
      let shapes = found_part n d (wrapping d) found (wrapped d) inside (around p) shaped (Some p) (sym (inside p kind)) (kind, is) in
      let somes : Some p ≡ Some q = shapes.all q like are same in
      let one : p ≡ q = cc in one

parts_told : (path : List (List ℕ)) (p q : Part) → Fits path p → Fits path q → IsPart p → IsPart q → part_tree p ≡ part_tree q → p ≡ q
parts_told path (part.Table t) (part.Table u) fit fits is are e = one_part 1 wrap found_table table_wrapped table_inside (part.Table t) (part.Table u) refl refl is are e
parts_told path (part.Table t) (part.Entry u) fit fits is are e = absurd (omega (arith, fit, fits))
parts_told path (part.Table t) (part.Value u) fit fits is are e = absurd (omega (arith, fit, fits))
parts_told path (part.Entry t) (part.Table u) fit fits is are e = absurd (omega (arith, fit, fits))
parts_told path (part.Entry t) (part.Entry u) fit fits is are e =
    one_part 2 (λ d. wrap (wrap d)) found_entry entry_wrapped entry_inside (part.Entry t) (part.Entry u) refl refl is are e
parts_told path (part.Entry t) (part.Value u) fit fits is are e = absurd (omega (arith, fit, fits))
parts_told path (part.Value t) (part.Table u) fit fits is are e = absurd (omega (arith, fit, fits))
parts_told path (part.Value t) (part.Entry u) fit fits is are e = absurd (omega (arith, fit, fits))
parts_told path (part.Value t) (part.Value u) fit fits is are e =
    one_part 3 (λ d. wrap (wrap (wrap d))) found_value value_wrapped value_inside (part.Value t) (part.Value u) refl refl is are e

-- ---- moves by their operations

module _ (m : List (List ℕ) → Part → Move) where
  puts_told : (p q : List (List ℕ)) (v w : Part) → p ≡ q → part_tree v ≡ part_tree w → Fits p v → Fits q w → IsPart v → IsPart w → m p v ≡ m q w
  puts_told p q v w place same fit fits is are =
      ap (λ (r : List (List ℕ)). m r v) place ∙ ap (m q) (parts_told q v w (subst (λ (r : List (List ℕ)). Fits r v) place fit) fits is are same)

-- the names of a field and an index are no place of a part
no_part : (p q : List (List ℕ)) (i : ℕ) → length p ≡ 3 → IsPath q → p ++ index_text i ∷ [] ≡ q → ⊥
no_part p q i three path same =
    omega (arith, sym (length-append p (index_text i ∷ [])) ∙ ap length same, three, path.few)

moves_told : (m n : Move) → IsMove m → IsMove n → op m ≡ op n → m ≡ n
moves_told (Add p v) (Add q w) is are e =
    let place : p ≡ q = cc in let same : part_tree v ≡ part_tree w = cc in
    puts_told Add p q v w place same is.part.0 are.part.0 is.part.1 are.part.1
moves_told (Add p v) (Remove q) is are e = absurd cc
moves_told (Add p v) (Replace q w) is are e = absurd cc
moves_told (Add p v) (AddItem q j y) is are e =
    let names : p ≡ q ++ index_text j ∷ [] = cc in absurd (no_part q p j are.item.0 is.path (sym names))
moves_told (Add p v) (RemoveItem q j) is are e = absurd cc
moves_told (Remove p) (Add q w) is are e = absurd cc
moves_told (Remove p) (Remove q) is are e = let place : p ≡ q = cc in ap Remove place
moves_told (Remove p) (Replace q w) is are e = absurd cc
moves_told (Remove p) (AddItem q j y) is are e = absurd cc
moves_told (Remove p) (RemoveItem q j) is are e =
    let names : p ≡ q ++ index_text j ∷ [] = cc in absurd (no_part q p j are.item.0 is.path (sym names))
moves_told (Replace p v) (Add q w) is are e = absurd cc
moves_told (Replace p v) (Remove q) is are e = absurd cc
moves_told (Replace p v) (Replace q w) is are e =
    let place : p ≡ q = cc in let same : part_tree v ≡ part_tree w = cc in
    puts_told Replace p q v w place same is.part.0 are.part.0 is.part.1 are.part.1
moves_told (Replace p v) (AddItem q j y) is are e = absurd cc
moves_told (Replace p v) (RemoveItem q j) is are e = absurd cc
moves_told (AddItem p i x) (Add q w) is are e =
    let names : p ++ index_text i ∷ [] ≡ q = cc in absurd (no_part p q i is.item.0 are.path names)
moves_told (AddItem p i x) (Remove q) is are e = absurd cc
moves_told (AddItem p i x) (Replace q w) is are e = absurd cc
moves_told (AddItem p i x) (AddItem q j y) is are e =
    let names : p ++ index_text i ∷ [] ≡ q ++ index_text j ∷ [] = cc in
    let texts : text x ≡ text y = cc in
    let same : x ≡ y = cc in
    let told = items_told p q i j names in
    (λ k. AddItem (told.0 k) (told.1 k) (same k))
moves_told (AddItem p i x) (RemoveItem q j) is are e = absurd cc
moves_told (RemoveItem p i) (Add q w) is are e = absurd cc
moves_told (RemoveItem p i) (Remove q) is are e =
    let names : p ++ index_text i ∷ [] ≡ q = cc in absurd (no_part p q i is.item.0 are.path names)
moves_told (RemoveItem p i) (Replace q w) is are e = absurd cc
moves_told (RemoveItem p i) (AddItem q j y) is are e = absurd cc
moves_told (RemoveItem p i) (RemoveItem q j) is are e =
    let names : p ++ index_text i ∷ [] ≡ q ++ index_text j ∷ [] = cc in
    let told = items_told p q i j names in
    (λ k. RemoveItem (told.0 k) (told.1 k))

-- ---- moves by their texts

-- the file of a patch is read as the patch
abbrev pub ReadsBack : Type 0
ReadsBack = (ops : List Operation) → IsSound (patch_document ops) → depth (patch_document ops) ≤ most_levels → patch (patch_file ops) ≡ Ok ops

pub one_move_is : ReadsBack → (m n : Move) → IsMove m → IsMove n → move_text m ≡ move_text n → m ≡ n
one_move_is laws m n is are same =
    let first = one_read laws (move_text m) (op m) (sound_move m is) (shallow_move m) refl in
    let second = one_read laws (move_text m) (op n) (sound_move n are) (shallow_move n) same in
    let ops : op m ≡ op n = cc in
    moves_told m n is are ops
