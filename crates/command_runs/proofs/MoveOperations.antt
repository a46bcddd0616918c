-- A move is told by the document of its operation, where what it puts is of the kind of its place.
use Rattle.std.proofs.Common.{◌≡◌, ℕ, ◌≤◌, List, [], ◌∷◌, ◌++◌, length, length-append, map, Some, refl, sym, ap, ◌∙◌, subst, arith}
use Rattle.conf_doc.specs.Changes.{Fits}
use Rattle.conf_doc.specs.Configuration.{entry_tree, mapping, part_tree, table_tree, value_tree}
use Rattle.conf_doc.specs.Document.{Document, text, object, items_of, Members, member, members_of}
use Rattle.conf_doc.specs.Pointer.{pointer}
use Rattle.conf_doc.specs.declared.configuration.Entry.{Entry}
use Rattle.conf_doc.specs.declared.configuration.Table.{Table}
use Rattle.conf_doc.specs.declared.configuration.Value.{Value}
use Rattle.conf_doc.specs.declared.configuration.Value.TheVariants.{Text, List as Listed}
use Rattle.conf_doc.specs.declared.parts.Part.{Part}
use Rattle.conf_doc.specs.declared.parts.Part.TheVariants as part
use Rattle.patch_core.specs.Operation.{Tokens}
use Rattle.patch_core.specs.Tokens.{tokens}
use Rattle.patch_core.specs.Writing.{operation_document}
use Rattle.move_core.specs.Operations.{index_text, op}
use Rattle.move_core.specs.declared.moves.Move.{Move}
use Rattle.move_core.specs.declared.moves.Move.TheVariants.{Add, Remove, Replace, AddItem, RemoveItem}
use Rattle.plan_texts.proofs.ItemLemmas.{items_told}
use Rattle.command_runs.specs.Works.{FitsItsPlace}
use Rattle.command_runs.proofs.CompactTexts.{heads}
use Rattle.command_runs.proofs.Fitting.{few_names}

-- the tokens of a pointer's text are its tokens
abbrev pub ReadsTokens : Type 0
ReadsTokens = (path : Tokens) → tokens (pointer path) ≡ Some path

-- ---- parts

texts_told : (s t : List (List ℕ)) → items_of (map text s) ≡ items_of (map text t) → s ≡ t
texts_told [] [] e = refl
texts_told [] (b ∷ t) e = absurd cc
texts_told (a ∷ s) [] e = absurd cc
texts_told (a ∷ s) (b ∷ t) e =
    let first : a ≡ b = cc in
    let rest : items_of (map text s) ≡ items_of (map text t) = cc in
    let more = texts_told s t rest in let same : a ∷ s ≡ b ∷ t = cc in same

value_told : (v w : Value) → value_tree v ≡ value_tree w → v ≡ w
value_told (Text s) (Text t) e = let same : s ≡ t = cc in ap Text same
value_told (Text s) (Listed t) e = absurd cc
value_told (Listed s) (Text t) e = absurd cc
value_told (Listed s) (Listed t) e =
    let same : items_of (map text s) ≡ items_of (map text t) = cc in ap Listed (texts_told s t same)

module _ {A : Type 0} (f : A → Document) (told : (a b : A) → f a ≡ f b → a ≡ b) where
  abbrev members_by : List (List ℕ × A) → Members
  members_by ps = members_of (map (λ p. (p.0, f p.1)) ps)

  pairs_told : (ps qs : List (List ℕ × A)) → members_by ps ≡ members_by qs → ps ≡ qs
  pairs_told [] [] e = refl
  pairs_told [] (q ∷ qs) e = absurd cc
  pairs_told (p ∷ ps) [] e = absurd cc
  pairs_told (p ∷ ps) (q ∷ qs) e =
      let name : p.0 ≡ q.0 = cc in
      let value : f p.1 ≡ f q.1 = cc in
      let rest : members_by ps ≡ members_by qs = cc in
      let same : p.1 ≡ q.1 = told p.1 q.1 value in
      let one : p ≡ q = λ i. (name i, same i) in
      ap (λ (r : List ℕ × A). r ∷ ps) one ∙ ap (λ (rs : List (List ℕ × A)). q ∷ rs) (pairs_told ps qs rest)

  pub mapping_told : (ps qs : List (List ℕ × A)) → mapping f ps ≡ mapping f qs → ps ≡ qs
  mapping_told ps qs e = let same : members_by ps ≡ members_by qs = cc in pairs_told ps qs same

entry_told : (d e : Entry) → entry_tree d ≡ entry_tree e → d ≡ e
entry_told d e same = mapping_told value_tree value_told d e same

table_told : (t u : Table) → table_tree t ≡ table_tree u → t ≡ u
table_told t u same = mapping_told entry_tree entry_told t u same

part_told : (p : List (List ℕ)) (v w : Part) → Fits p v → Fits p w → part_tree v ≡ part_tree w → v ≡ w
part_told p (part.Table t) (part.Table u) fit fits e = ap part.Table (table_told t u e)
part_told p (part.Table t) (part.Entry u) fit fits e = absurd (omega (arith, fit, fits))
part_told p (part.Table t) (part.Value u) fit fits e = absurd (omega (arith, fit, fits))
part_told p (part.Entry t) (part.Table u) fit fits e = absurd (omega (arith, fit, fits))
part_told p (part.Entry t) (part.Entry u) fit fits e = ap part.Entry (entry_told t u e)
part_told p (part.Entry t) (part.Value u) fit fits e = absurd (omega (arith, fit, fits))
part_told p (part.Value t) (part.Table u) fit fits e = absurd (omega (arith, fit, fits))
part_told p (part.Value t) (part.Entry u) fit fits e = absurd (omega (arith, fit, fits))
part_told p (part.Value t) (part.Value u) fit fits e = ap part.Value (value_told t u e)

-- ---- operations

-- the text of the first member, of the second, and the third member
abbrev first_of_text : Document → List ℕ
first_of_text (object (member k (text s) ms)) = s
first_of_text other = []

abbrev second_of_text : Document → List ℕ
second_of_text (object (member k d (member l (text s) ms))) = s
second_of_text other = []

abbrev third : Document → Document
third (object (member k d (member l e (member n v ms)))) = v
third other = text []

-- a text from its third letter on
abbrev third_on : List ℕ → List ℕ
third_on (a ∷ b ∷ more) = more
third_on other = []

pointer_told : ReadsTokens → (p q : Tokens) → pointer p ≡ pointer q → p ≡ q
pointer_told reads p q e =
    let same : Some p ≡ Some q = sym (reads p) ∙ ap tokens e ∙ reads q in let one : p ≡ q = cc in one

-- with the same place what is put there is the same
puts_told : ReadsTokens → (m : List (List ℕ) → Part → Move) (p q : List (List ℕ)) (v w : Part) → Fits p v → Fits q w
    → pointer p ≡ pointer q → part_tree v ≡ part_tree w → m p v ≡ m q w
puts_told reads m p q v w fit fits at e =
    let place = pointer_told reads p q at in
    ap (λ (r : List (List ℕ)). m r v) place
    ∙ ap (m q) (part_told q v w (subst (λ (r : List (List ℕ)). Fits r v) place fit) fits e)

-- what a move of an item names is no place of a part
no_part : ReadsTokens → (p q : Tokens) (i : ℕ) → length p ≤ 3 → length q ≡ 3
    → pointer p ≡ pointer (q ++ index_text i ∷ []) → ⊥
no_part reads p q i few three e =
    let same = pointer_told reads p (q ++ index_text i ∷ []) e in
    omega (arith, few, three, ap length same, length-append q (index_text i ∷ []))

-- the field and the index of an item are told by the pointer
item_told : ReadsTokens → (p q : Tokens) (i j : ℕ)
    → pointer (p ++ index_text i ∷ []) ≡ pointer (q ++ index_text j ∷ []) → (p ≡ q) × (i ≡ j)
item_told reads p q i j e = items_told p q i j (pointer_told reads (p ++ index_text i ∷ []) (q ++ index_text j ∷ []) e)

pub move_is_told : ReadsTokens → (m n : Move) → FitsItsPlace m → FitsItsPlace n
    → operation_document (op m) ≡ operation_document (op n) → m ≡ n
move_is_told reads (Add p v) (Add q w) fit fits e =
    puts_told reads Add p q v w fit fits (ap second_of_text e) (ap third e)
move_is_told reads (Add p v) (Remove q) fit fits e = let h : 97 ≡ 114 = heads 97 114 _ _ (ap first_of_text e) in
    absurd (omega (arith, h))
move_is_told reads (Add p v) (Replace q w) fit fits e = let h : 97 ≡ 114 = heads 97 114 _ _ (ap first_of_text e) in
    absurd (omega (arith, h))
move_is_told reads (Add p v) (AddItem q j y) fit fits e =
    absurd (no_part reads p q j (few_names p v fit) fits (ap second_of_text e))
move_is_told reads (Add p v) (RemoveItem q j) fit fits e = let h : 97 ≡ 114 = heads 97 114 _ _ (ap first_of_text e) in
    absurd (omega (arith, h))
move_is_told reads (Remove p) (Add q w) fit fits e = let h : 114 ≡ 97 = heads 114 97 _ _ (ap first_of_text e) in
    absurd (omega (arith, h))
move_is_told reads (Remove p) (Remove q) fit fits e = ap Remove (pointer_told reads p q (ap second_of_text e))
move_is_told reads (Remove p) (Replace q w) fit fits e =
    let h : 109 ≡ 112 = heads 109 112 _ _ (ap (λ d. third_on (first_of_text d)) e) in absurd (omega (arith, h))
move_is_told reads (Remove p) (AddItem q j y) fit fits e = let h : 114 ≡ 97 = heads 114 97 _ _ (ap first_of_text e) in
    absurd (omega (arith, h))
move_is_told reads (Remove p) (RemoveItem q j) fit fits e = absurd (no_part reads p q j fit fits (ap second_of_text e))
move_is_told reads (Replace p v) (Add q w) fit fits e = let h : 114 ≡ 97 = heads 114 97 _ _ (ap first_of_text e) in
    absurd (omega (arith, h))
move_is_told reads (Replace p v) (Remove q) fit fits e =
    let h : 112 ≡ 109 = heads 112 109 _ _ (ap (λ d. third_on (first_of_text d)) e) in absurd (omega (arith, h))
move_is_told reads (Replace p v) (Replace q w) fit fits e =
    puts_told reads Replace p q v w fit fits (ap second_of_text e) (ap third e)
move_is_told reads (Replace p v) (AddItem q j y) fit fits e =
    let h : 114 ≡ 97 = heads 114 97 _ _ (ap first_of_text e) in absurd (omega (arith, h))
move_is_told reads (Replace p v) (RemoveItem q j) fit fits e =
    let h : 112 ≡ 109 = heads 112 109 _ _ (ap (λ d. third_on (first_of_text d)) e) in absurd (omega (arith, h))
move_is_told reads (AddItem p i x) (Add q w) fit fits e =
    absurd (no_part reads q p i (few_names q w fits) fit (sym (ap second_of_text e)))
move_is_told reads (AddItem p i x) (Remove q) fit fits e = let h : 97 ≡ 114 = heads 97 114 _ _ (ap first_of_text e) in
    absurd (omega (arith, h))
move_is_told reads (AddItem p i x) (Replace q w) fit fits e =
    let h : 97 ≡ 114 = heads 97 114 _ _ (ap first_of_text e) in absurd (omega (arith, h))
move_is_told reads (AddItem p i x) (AddItem q j y) fit fits e =
    let texts : text x ≡ text y = ap third e in
    let same : x ≡ y = cc in
    let told = item_told reads p q i j (ap second_of_text e) in
    (λ k. AddItem (told.0 k) (told.1 k) (same k))
move_is_told reads (AddItem p i x) (RemoveItem q j) fit fits e =
    let h : 97 ≡ 114 = heads 97 114 _ _ (ap first_of_text e) in absurd (omega (arith, h))
move_is_told reads (RemoveItem p i) (Add q w) fit fits e = let h : 114 ≡ 97 = heads 114 97 _ _ (ap first_of_text e) in
    absurd (omega (arith, h))
move_is_told reads (RemoveItem p i) (Remove q) fit fits e =
    absurd (no_part reads q p i fits fit (sym (ap second_of_text e)))
move_is_told reads (RemoveItem p i) (Replace q w) fit fits e =
    let h : 109 ≡ 112 = heads 109 112 _ _ (ap (λ d. third_on (first_of_text d)) e) in absurd (omega (arith, h))
move_is_told reads (RemoveItem p i) (AddItem q j y) fit fits e =
    let h : 114 ≡ 97 = heads 114 97 _ _ (ap first_of_text e) in absurd (omega (arith, h))
move_is_told reads (RemoveItem p i) (RemoveItem q j) fit fits e =
    let told = item_told reads p q i j (ap second_of_text e) in
    (λ k. RemoveItem (told.0 k) (told.1 k))
