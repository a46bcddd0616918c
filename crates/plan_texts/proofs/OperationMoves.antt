-- The move that an operation is.
use Rattle.std.proofs.Common.{◌≡◌, ◌≢◌, ℕ, List, [], ◌∷◌, ◌++◌, length, Option, Some, None, option_map, IsUtf8, sym, ap, ◌∙◌, subst, arith, ◌<◌, IfSome}
use Rattle.conf_doc.specs.Changes.{Fits}
use Rattle.conf_doc.specs.Configuration.{part_tree}
use Rattle.conf_doc.specs.Document.{Document, text}
use Rattle.conf_doc.specs.Paths.{IsPath}
use Rattle.conf_doc.specs.WellFormed.{AreTexts}
use Rattle.conf_doc.specs.declared.parts.Part.{Part}
use Rattle.patch_core.specs.Operation.{add, remove, replace}
use Rattle.move_core.specs.Operations.{index_text, op}
use Rattle.move_core.specs.declared.moves.Move.{Move}
use Rattle.move_core.specs.declared.moves.Move.TheVariants.{Add, Remove, Replace, AddItem, RemoveItem}
use Rattle.plan_texts.specs.Items.{IsItemIn}
use Rattle.plan_texts.specs.Moves.{IsMoveOf, IsPlaceAndPart}
use Rattle.plan_texts.specs.PlanTexts.{IsMove, IsPart, index_end}

module _ (names : List (List ℕ)) where
  -- ---- an item

  module _ (p : List (List ℕ)) (i : ℕ) (item : IsItemIn names (Some (p, i))) where
    -- its four names are no place of a part
    no_part : (q : List (List ℕ)) → names ≡ q → IsPath q → ⊥
    no_part q same path = omega (arith, sym item.is.0 ∙ ap length same, path.few)

    pub item_removed : IsMoveOf (remove names) (Some (RemoveItem p i))
    item_removed = record {
      is = record { path = item.is.1; texts = item.is.2; part = tt; item = (item.is.3, item.is.4); text = tt };
      all = all;
    }
      where
        all : (m : Move) → IsMove m → remove names ≡ op m → Some (RemoveItem p i) ≡ Some m
        all (Add q x) are e = absurd cc
        all (Remove q) are e = let same : names ≡ q = cc in absurd (no_part q same are.path)
        all (Replace q x) are e = absurd cc
        all (AddItem q j u) are e = absurd cc
        all (RemoveItem q j) are e =
            let same : names ≡ q ++ index_text j ∷ [] = cc in
            ap (option_map {T = List (List ℕ) × ℕ} (λ x. RemoveItem x.0 x.1)) (item.all q j are.path are.item.0 are.item.1 same)

    module _ (d : Document) where
      pub item_added : (t : List ℕ) → d ≡ text t → IsUtf8 t → IsMoveOf (add names d) (Some (AddItem p i t))
      item_added t is utf8 = record {
        is = record { path = item.is.1; texts = item.is.2; part = tt; item = (item.is.3, item.is.4); text = utf8 };
        all = all;
      }
        where
          all : (m : Move) → IsMove m → add names d ≡ op m → Some (AddItem p i t) ≡ Some m
          all (Add q x) are e = let same : names ≡ q = cc in absurd (no_part q same are.path)
          all (Remove q) are e = absurd cc
          all (Replace q x) are e = absurd cc
          all (AddItem q j u) are e =
              let same : names ≡ q ++ index_text j ∷ [] = cc in
              let value : d ≡ text u = cc in
              let texts : text t ≡ text u = sym is ∙ value in
              let one : t ≡ u = cc in
              ap (option_map {T = List (List ℕ) × ℕ} (λ x. AddItem x.0 x.1 t)) (item.all q j are.path are.item.0 are.item.1 same)
              ∙ ap (λ (s : List ℕ). Some (AddItem q j s)) one
          all (RemoveItem q j) are e = absurd cc

      -- an item is a text
      pub no_item_added : ((t : List ℕ) → d ≢ text t) → IsMoveOf (add names d) None
      no_item_added other = record { is = tt; all = all }
        where
          all : (m : Move) → IsMove m → add names d ≡ op m → None ≡ Some m
          all (Add q x) are e = let same : names ≡ q = cc in absurd (no_part q same are.path)
          all (Remove q) are e = absurd cc
          all (Replace q x) are e = absurd cc
          all (AddItem q j u) are e = let value : d ≡ text u = cc in absurd (other u value)
          all (RemoveItem q j) are e = absurd cc

  -- ---- a part

  module _ (none : IsItemIn names None) where
    no_item : (q : List (List ℕ)) (j : ℕ) → IsPath q → (length q ≡ 3) × (j < index_end) → names ≡ q ++ index_text j ∷ [] → ⊥
    no_item q j path small same = let found = none.all q j path small.0 small.1 same in cc

    pub part_removed : (p : List (List ℕ)) → p ≡ names → IsPath names → AreTexts names → IsMoveOf (remove names) (Some (Remove p))
    part_removed p is path texts = record {
      is = record { path = subst IsPath (sym is) path; texts = subst AreTexts (sym is) texts; part = tt; item = tt; text = tt };
      all = all;
    }
      where
        all : (m : Move) → IsMove m → remove names ≡ op m → Some (Remove p) ≡ Some m
        all (Add q x) are e = absurd cc
        all (Remove q) are e = let same : names ≡ q = cc in ap (λ (r : List (List ℕ)). Some (Remove r)) (is ∙ same)
        all (Replace q x) are e = absurd cc
        all (AddItem q j u) are e = absurd cc
        all (RemoveItem q j) are e = let same : names ≡ q ++ index_text j ∷ [] = cc in absurd (no_item q j are.path are.item same)

    pub no_part_removed : ¬ IsPath names → IsMoveOf (remove names) None
    no_part_removed isnt = record { is = tt; all = all }
      where
        all : (m : Move) → IsMove m → remove names ≡ op m → None ≡ Some m
        all (Add q x) are e = absurd cc
        all (Remove q) are e = let same : names ≡ q = cc in absurd (isnt (subst IsPath (sym same) are.path))
        all (Replace q x) are e = absurd cc
        all (AddItem q j u) are e = absurd cc
        all (RemoveItem q j) are e = let same : names ≡ q ++ index_text j ∷ [] = cc in absurd (no_item q j are.path are.item same)

  module _ (d : Document) (found : Option (List (List ℕ) × Part)) (put : IsPlaceAndPart names d found) where
    found_is : (q : List (List ℕ)) (x : Part) → names ≡ q → IsPath q → Fits q x × IsPart x → d ≡ part_tree x → found ≡ Some (q, x)
    found_is q x same path part value =
        put.all x (subst IsPath (sym same) path) (subst (λ (r : List (List ℕ)). Fits r x) (sym same) part.0) part.1 value
        ∙ ap (λ (r : List (List ℕ)). Some (r, x)) same

    pub part_added : IsItemIn names None → IsMoveOf (add names d) (option_map (λ y. Add y.0 y.1) found)
    part_added none = record { is = each found put.is; all = all }
      where
        each : (o : Option (List (List ℕ) × Part)) → IfSome o (λ x. (x.0 ≡ names) × IsPath names × AreTexts names × Fits names x.1 × IsPart x.1)
            → IfSome (option_map (λ y. Add y.0 y.1) o) IsMove
        each None is = tt
        each (Some x) is = record {
          path = subst IsPath (sym is.0) is.1;
          texts = subst AreTexts (sym is.0) is.2;
          part = (subst (λ (r : List (List ℕ)). Fits r x.1) (sym is.0) is.3, is.4);
          item = tt;
          text = tt;
        }

        all : (m : Move) → IsMove m → add names d ≡ op m → option_map (λ y. Add y.0 y.1) found ≡ Some m
        all (Add q x) are e =
            let same : names ≡ q = cc in
            let value : d ≡ part_tree x = cc in
            ap (option_map {T = List (List ℕ) × Part} (λ y. Add y.0 y.1)) (found_is q x same are.path are.part value)
        all (Remove q) are e = absurd cc
        all (Replace q x) are e = absurd cc
        all (AddItem q j u) are e = let same : names ≡ q ++ index_text j ∷ [] = cc in absurd (no_item none q j are.path are.item same)
        all (RemoveItem q j) are e = absurd cc

    pub part_replaced : IsMoveOf (replace names d) (option_map (λ y. Replace y.0 y.1) found)
    part_replaced = record { is = each found put.is; all = all }
      where
        each : (o : Option (List (List ℕ) × Part)) → IfSome o (λ x. (x.0 ≡ names) × IsPath names × AreTexts names × Fits names x.1 × IsPart x.1)
            → IfSome (option_map (λ y. Replace y.0 y.1) o) IsMove
        each None is = tt
        each (Some x) is = record {
          path = subst IsPath (sym is.0) is.1;
          texts = subst AreTexts (sym is.0) is.2;
          part = (subst (λ (r : List (List ℕ)). Fits r x.1) (sym is.0) is.3, is.4);
          item = tt;
          text = tt;
        }

        all : (m : Move) → IsMove m → replace names d ≡ op m → option_map (λ y. Replace y.0 y.1) found ≡ Some m
        all (Add q x) are e = absurd cc
        all (Remove q) are e = absurd cc
        all (Replace q x) are e =
            let same : names ≡ q = cc in
            let value : d ≡ part_tree x = cc in
            ap (option_map {T = List (List ℕ) × Part} (λ y. Replace y.0 y.1)) (found_is q x same are.path are.part value)
        all (AddItem q j u) are e = absurd cc
        all (RemoveItem q j) are e = absurd cc
