-- What a move leaves as it was: the other tables, and the entries at other keys.
use Rattle.std.proofs.Common.{◌≡◌, ◌≢◌, ℕ, List, [], ◌∷◌, true, false, cond, not, Option, Some, None, option_map, option_and_then, IsSome, length, subst, Ordering, Less, Equal, Greater, is_eq, refl, sym, ap, ◌∙◌}
use Rattle.std.specs.FinMap.Entries.{find-put}
use Rattle.std.specs.Option.{option_map_or}
use Rattle.std.specs.Ordering.{eq_by_cmp}
use Rattle.std.specs.Cmp.Lexicographic.{nat_list_cmp_total}
use Rattle.std.proofs.lemmas.Cmp.{tied_itself}
use Rattle.host_core.specs.Names.{name_cmp}
use Rattle.conf_doc.specs.Changes.{entry_at, value_at, with_part}
use Rattle.conf_doc.specs.Pairs.{change_part, find, put, without}
use Rattle.conf_doc.specs.declared.configuration.Config.{Config}
use Rattle.conf_doc.specs.declared.configuration.Entry.{Entry}
use Rattle.conf_doc.specs.declared.configuration.Table.{Table}
use Rattle.conf_doc.specs.declared.parts.Part.{Part}
use Rattle.conf_doc.specs.declared.parts.Part.TheVariants as part
use Rattle.conf_doc.proofs.Edits.{same_name}
use Rattle.move_core.specs.Moves.{Place}
use Rattle.move_core.specs.Services.{table_of}

-- ---- names

ordered_equal : (o : Ordering) → is_eq o ≡ true → o ≡ Equal
ordered_equal Less e = cc
ordered_equal Equal e = refl
ordered_equal Greater e = cc

pub same_by : (a b : List ℕ) → eq_by_cmp name_cmp a b ≡ true → a ≡ b
same_by a b e = same_name a b (ordered_equal (name_cmp a b) e)

pub other_by : (a b : List ℕ) → a ≢ b → eq_by_cmp name_cmp a b ≡ false
other_by a b other = elim (eq_by_cmp name_cmp a b) as (λ c. eq_by_cmp name_cmp a b ≡ c → eq_by_cmp name_cmp a b ≡ false) [ true ↦ λ e. absurd (other (same_by a b e)) | false ↦ λ e. e ] refl

pub tied : (t : List ℕ) → eq_by_cmp name_cmp t t ≡ true
tied t = ap is_eq (tied_itself nat_list_cmp_total t)

pub apart_by : (a b : List ℕ) → eq_by_cmp name_cmp a b ≡ false → a ≢ b
apart_by a b e same = let yes : eq_by_cmp name_cmp a b ≡ true = ap (eq_by_cmp name_cmp a) (sym same) ∙ tied a in cc

-- ---- pairs

module _ {A : Type 0} (u t : List ℕ) (other : u ≢ t) where
  pub find-without : (ps : List (List ℕ × A)) → find u (without t ps) ≡ find u ps
  find-without [] = refl
  find-without (p ∷ ps) =
      elim (eq_by_cmp name_cmp t p.0) as (λ b. eq_by_cmp name_cmp t p.0 ≡ b → find u (cond (not b) (p ∷ without t ps) (without t ps)) ≡ cond (eq_by_cmp name_cmp u p.0) (Some p.1) (find u ps)) [
        | true ↦ λ e.
            find-without ps
            ∙ ap (λ c. cond c (Some p.1) (find u ps)) (sym (other_by u p.0 (λ is. other (is ∙ sym (same_by t p.0 e)))))
        | false ↦ λ e. ap (cond (eq_by_cmp name_cmp u p.0) (Some p.1)) (find-without ps)
      ] refl

  pub find-put_other : (a : A) (ps : List (List ℕ × A)) → find u (put t a ps) ≡ find u ps
  find-put_other a ps = find-put name_cmp nat_list_cmp_total u t a ps ∙ ap (λ c. cond c (Some a) (find u ps)) (other_by u t other)

  changed_other : (f : A → A) (ps : List (List ℕ × A)) (o : Option A) → find u (option_map_or (λ a. put t (f a) ps) o ps) ≡ find u ps
  changed_other f ps None = refl
  changed_other f ps (Some a) = find-put_other (f a) ps

  pub find-change_other : (f : A → A) (ps : List (List ℕ × A)) → find u (change_part t f ps) ≡ find u ps
  find-change_other f ps = changed_other f ps (find t ps)

-- ---- other tables

pub other_table : (c : Config) (p : Place) (x : Option Part) (u : List ℕ) → u ≢ table_of p → find u (with_part c p x) ≡ find u c
other_table c [] x u other = refl
other_table c (t ∷ []) None u other = find-without u t other c
other_table c (t ∷ []) (Some (part.Table table)) u other = find-put_other u t other table c
other_table c (t ∷ []) (Some (part.Entry e)) u other = refl
other_table c (t ∷ []) (Some (part.Value v)) u other = refl
other_table c (t ∷ k ∷ []) None u other = find-change_other u t other (without k) c
other_table c (t ∷ k ∷ []) (Some (part.Table table)) u other = refl
other_table c (t ∷ k ∷ []) (Some (part.Entry e)) u other = find-change_other u t other (put k e) c
other_table c (t ∷ k ∷ []) (Some (part.Value v)) u other = refl
other_table c (t ∷ k ∷ f ∷ []) None u other = find-change_other u t other (change_part k (without f)) c
other_table c (t ∷ k ∷ f ∷ []) (Some (part.Table table)) u other = refl
other_table c (t ∷ k ∷ f ∷ []) (Some (part.Entry e)) u other = refl
other_table c (t ∷ k ∷ f ∷ []) (Some (part.Value v)) u other = find-change_other u t other (change_part k (put f v)) c
other_table c (t ∷ k ∷ f ∷ n ∷ ns) x u other = refl

-- ---- other keys

pub found_put : {A : Type 0} (t : List ℕ) (a : A) (ps : List (List ℕ × A)) → find t (put t a ps) ≡ Some a
found_put t a ps = find-put name_cmp nat_list_cmp_total t t a ps ∙ ap (λ c. cond c (Some a) (find t ps)) (tied t)

pub changed_there : {A : Type 0} (t : List ℕ) (f : A → A) (c : List (List ℕ × A)) (o : Option A) → find t c ≡ o → find t (option_map_or (λ a. put t (f a) c) o c) ≡ option_map f o
changed_there t f c None is = is
changed_there t f c (Some a) is = found_put t (f a) c

in_table : (j : List ℕ) (f : Table → Table) → ((table : Table) → find j (f table) ≡ find j table) → (o : Option Table) → option_and_then (find j) (option_map f o) ≡ option_and_then (find j) o
in_table j f leaves None = refl
in_table j f leaves (Some table) = leaves table

changed_table : (c : Config) (t j : List ℕ) (f : Table → Table) → ((table : Table) → find j (f table) ≡ find j table) → entry_at (change_part t f c) t j ≡ entry_at c t j
changed_table c t j f leaves = ap (option_and_then (find j)) (changed_there t f c (find t c) refl) ∙ in_table j f leaves (find t c)

pub other_key : (c : Config) (t k : List ℕ) (rest : Place) (x : Option Part) (j : List ℕ) → j ≢ k → entry_at (with_part c (t ∷ k ∷ rest) x) t j ≡ entry_at c t j
other_key c t k [] None j other = changed_table c t j (without k) (find-without j k other)
other_key c t k [] (Some (part.Table table)) j other = refl
other_key c t k [] (Some (part.Entry e)) j other = changed_table c t j (put k e) (find-put_other j k other e)
other_key c t k [] (Some (part.Value v)) j other = refl
other_key c t k (f ∷ []) None j other = changed_table c t j (change_part k (without f)) (find-change_other j k other (without f))
other_key c t k (f ∷ []) (Some (part.Table table)) j other = refl
other_key c t k (f ∷ []) (Some (part.Entry e)) j other = refl
other_key c t k (f ∷ []) (Some (part.Value v)) j other = changed_table c t j (change_part k (put f v)) (find-change_other j k other (put f v))
other_key c t k (f ∷ n ∷ ns) x j other = refl

-- ---- the move's own key

changed_entry : (c : Config) (t k : List ℕ) (g : Entry → Entry) → entry_at (change_part t (change_part k g) c) t k ≡ option_map g (entry_at c t k)
changed_entry c t k g = ap (option_and_then (find k)) (changed_there t (change_part k g) c (find t c) refl) ∙ inside (find t c)
  where
    inside : (o : Option Table) → option_and_then (find k) (option_map (change_part k g) o) ≡ option_map g (option_and_then (find k) o)
    inside None = refl
    inside (Some table) = changed_there k g table (find k table) refl

mapped : {A B : Type 0} (g : A → B) (o : Option A) → IsSome o → IsSome (option_map g o)
mapped g None has = has
mapped g (Some a) has = refl

changed_stays : (c : Config) (t k : List ℕ) (g : Entry → Entry) → IsSome (entry_at c t k) → IsSome (entry_at (change_part t (change_part k g) c) t k)
changed_stays c t k g has = subst IsSome (sym (changed_entry c t k g)) (mapped g (entry_at c t k) has)

put_stays : (c : Config) (t k : List ℕ) (e : Entry) → IsSome (entry_at c t k) → IsSome (entry_at (change_part t (put k e) c) t k)
put_stays c t k e has = subst IsSome (sym (ap (option_and_then (find k)) (changed_there t (put k e) c (find t c) refl))) (inside (find t c) has)
  where
    inside : (o : Option Table) → IsSome (option_and_then (find k) o) → IsSome (option_and_then (find k) (option_map (put k e) o))
    inside None there = there
    inside (Some table) there = subst IsSome (sym (found_put k e table)) refl

-- an entry stays where a field of it is changed, or it is put
pub own_key : (c : Config) (t k : List ℕ) (rest : Place) (x : Option Part) → (length rest ≡ 0 → IsSome x) → IsSome (entry_at c t k)
    → IsSome (entry_at (with_part c (t ∷ k ∷ rest) x) t k)
own_key c t k [] None some has = let none = some refl in absurd cc
own_key c t k [] (Some (part.Table table)) some has = has
own_key c t k [] (Some (part.Entry e)) some has = put_stays c t k e has
own_key c t k [] (Some (part.Value v)) some has = has
own_key c t k (f ∷ []) None some has = changed_stays c t k (without f) has
own_key c t k (f ∷ []) (Some (part.Table table)) some has = has
own_key c t k (f ∷ []) (Some (part.Entry e)) some has = has
own_key c t k (f ∷ []) (Some (part.Value v)) some has = changed_stays c t k (put f v) has
own_key c t k (f ∷ n ∷ ns) x some has = has

-- ---- other fields

changed_field : (c : Config) (t k g : List ℕ) (h : Entry → Entry) → ((e : Entry) → find g (h e) ≡ find g e) → value_at (change_part t (change_part k h) c) t k g ≡ value_at c t k g
changed_field c t k g h leaves = ap (option_and_then (find g)) (changed_entry c t k h) ∙ inside (entry_at c t k)
  where
    inside : (o : Option Entry) → option_and_then (find g) (option_map h o) ≡ option_and_then (find g) o
    inside None = refl
    inside (Some e) = leaves e

pub other_field : (c : Config) (t k f : List ℕ) (ns : Place) (x : Option Part) (g : List ℕ) → g ≢ f → value_at (with_part c (t ∷ k ∷ f ∷ ns) x) t k g ≡ value_at c t k g
other_field c t k f [] None g other = changed_field c t k g (without f) (find-without g f other)
other_field c t k f [] (Some (part.Table table)) g other = refl
other_field c t k f [] (Some (part.Entry e)) g other = refl
other_field c t k f [] (Some (part.Value v)) g other = changed_field c t k g (put f v) (find-put_other g f other v)
other_field c t k f (n ∷ ns) x g other = refl
