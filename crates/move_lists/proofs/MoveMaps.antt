-- A map whose keys are moves, as a list of moves with their numbers of extensions.
use Rattle.std.proofs.Common.{◌≡◌, ◌⊎◌, inl, inr, ℕ, Bool, true, false, [], ◌∷◌, ◌++◌, is_some, if◌then◌else◌, Some, refl, sym, ap, subst, ◌∙◌, true≢false}
use Rattle.std.specs.HashMap.{HashMap, IsUnique, get}
use Rattle.std.specs.List.{Contains}
use Rattle.std.specs.Map.{lookup}
use Rattle.std.specs.Ordering.{eq_by_cmp}
use Rattle.std.proofs.lemmas.Map.Entries.{lookup_head, lookup_tail}
use Rattle.std.proofs.lemmas.Map.Views.{hash_map_get_iff}
use Rattle.indexmap.specs.IndexMap.{insert_entry}
use Rattle.move_core.specs.ListedOrder.{move_cmp}
use Rattle.move_core.specs.declared.moves.Move.{Move}
use Rattle.move_lists.specs.MoveKeys.{keys_decide, keys_equiv}
use Rattle.move_lists.specs.Reaches.{AreOnce, Depths, HasMove}
use Rattle.move_lists.proofs.Members.{first_member, later_member, member_cases, no_member}

-- whether two keys are equal
abbrev pub is_same : Move → Move → Bool
is_same = eq_by_cmp move_cmp

has_first : (e : Move × ℕ) (es : Depths) (m : Move) → e.0 ≡ m → HasMove (e ∷ es) m
has_first e es m is = (e.1, subst (λ (x : Move). Contains {X = Move × ℕ} (e ∷ es) (x, e.1)) is (first_member e es))

has_later : (e : Move × ℕ) (es : Depths) (m : Move) → HasMove es m → HasMove (e ∷ es) m
has_later e es m h = (h.0, later_member e es (m, h.0) h.1)

has_cases : (e : Move × ℕ) (es : Depths) (m : Move) → HasMove (e ∷ es) m → (e.0 ≡ m) ⊎ HasMove es m
has_cases e es m h = by (member_cases e es (m, h.0) h.1)
  where
    by : (◌≡◌ {A = Move × ℕ} e (m, h.0)) ⊎ Contains es (m, h.0) → (e.0 ≡ m) ⊎ HasMove es m
    by (inl is) = inl (ap (λ (p : Move × ℕ). p.0) is)
    by (inr t) = inr (h.0, t)

-- a key that is found is there
found_has : (es : Depths) (m : Move) → is_some (lookup (is_same m) es) ≡ true → HasMove es m
found_has [] m found = absurd (true≢false (sym found))
found_has (e ∷ es) m found = by (found_has es m) (is_same m e.0) refl
  where
    by : (is_some (lookup (is_same m) es) ≡ true → HasMove es m) → (b : Bool) → is_same m e.0 ≡ b → HasMove (e ∷ es) m
    by rest true is = has_first e es m (sym ((keys_decide m e.0).0 is))
    by rest false is = has_later e es m (rest (sym (ap is_some (lookup_tail (is_same m) e es is)) ∙ found))

-- one that is there is found
has_found : (es : Depths) (m : Move) → HasMove es m → is_some (lookup (is_same m) es) ≡ true
has_found [] m h = absurd (no_member _ h.1)
has_found (e ∷ es) m h = by (has_found es m) (is_same m e.0) refl
  where
    on : (HasMove es m → is_some (lookup (is_same m) es) ≡ true) → is_same m e.0 ≡ false → (e.0 ≡ m) ⊎ HasMove es m → is_some (lookup (is_same m) (e ∷ es)) ≡ true
    on rest is (inl same) = absurd (true≢false (sym ((keys_decide m e.0).1 (sym same)) ∙ is))
    on rest is (inr t) = ap is_some (lookup_tail (is_same m) e es is) ∙ rest t

    by : (HasMove es m → is_some (lookup (is_same m) es) ≡ true) → (b : Bool) → is_same m e.0 ≡ b
        → is_some (lookup (is_same m) (e ∷ es)) ≡ true
    by rest true is = ap is_some (lookup_head (is_same m) e es is)
    by rest false is = on rest is (has_cases e es m h)

-- what a search by key says
pub known : (es now : Depths) (m : Move) (r : Bool) → r ≡ is_some (lookup (is_same m) es) → es ≡ now → r ≡ true → HasMove now m
known es now m r is view passes = subst (λ l. HasMove l m) view (found_has es m (sym is ∙ passes))

pub unknown : (es now : Depths) (m : Move) (r : Bool) → r ≡ is_some (lookup (is_same m) es) → es ≡ now → r ≡ false → ¬ HasMove now m
unknown es now m r is view fails h = true≢false (sym (has_found es m (subst (λ l. HasMove l m) (sym view) h)) ∙ sym is ∙ fails)

put_last : (es : Depths) (m : Move) (d : ℕ) → ¬ HasMove es m → insert_entry is_same es m d ≡ es ++ (m, d) ∷ []
put_last [] m d new = refl
put_last (e ∷ es) m d new = by (put_last es m d (λ h. new (has_later e es m h))) (is_same m e.0) refl
  where
    by : insert_entry is_same es m d ≡ es ++ (m, d) ∷ [] → (b : Bool) → is_same m e.0 ≡ b
        → insert_entry is_same (e ∷ es) m d ≡ e ∷ (es ++ (m, d) ∷ [])
    by rest true is = absurd (new (has_first e es m (sym ((keys_decide m e.0).0 is))))
    by rest false is =
        ap (λ b. if b then (e.0, d) ∷ es else e ∷ insert_entry is_same es m d) is
        ∙ ap (λ l. e ∷ l) rest

-- a new key goes last
pub put : (es now : Depths) (m : Move) (d : ℕ) → es ≡ now → ¬ HasMove now m → insert_entry is_same es m d ≡ now ++ (m, d) ∷ []
put es now m d view new = ap (λ l. insert_entry is_same l m d) view ∙ put_last now m d new

-- a map has each key once
pub entries_once : {S : Type 0} (m : HashMap Move ℕ S) (now : Depths) → m.entries ≡ now → IsUnique is_same m → AreOnce now
entries_once m now view unique mv d e a b = same d e (sym (found d a) ∙ found e b)
  where
    found : (n : ℕ) → Contains now (mv, n) → get is_same m mv ≡ Some n
    found n h = (hash_map_get_iff keys_equiv (λ x y. (keys_decide x y).0) m unique mv n).1 (subst (λ (l : Depths). Contains l (mv, n)) (sym view) h)

    same : (x y : ℕ) → Some x ≡ Some y → x ≡ y
    same x y is = cc
