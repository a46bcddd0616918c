-- Where cur and goal agree on the tables without a model, each listed move has its place in a table with one.
use Rattle.std.proofs.Common.{◌≡◌, ◌≢◌, ℕ, zero, suc, List, [], ◌∷◌, Bool, true, false, Option, Some, None, option_map, option_and_then, is_some, IsSome, slice_get, if◌then◌else◌, inl, inr, refl, sym, ap, ◌∙◌, subst}
use Rattle.std.specs.Option.{option_map_or}
use Rattle.conf_doc.specs.Changes.{part_at}
use Rattle.conf_doc.specs.Pairs.{find}
use Rattle.conf_doc.specs.declared.configuration.Config.{Config}
use Rattle.conf_doc.specs.declared.configuration.Entry.{Entry}
use Rattle.conf_doc.specs.declared.configuration.Table.{Table}
use Rattle.conf_doc.specs.declared.parts.Part.{Part}
use Rattle.conf_doc.specs.declared.parts.Part.TheVariants as part
use Rattle.conf_check.specs.Rows.{if_modelled, row_at, row_of, Row}
use Rattle.conf_check.specs.declared.want_iter.WantPlace.{WantPlace}
use Rattle.yang_model.specs.ModelSets.{ModelSet, table_named}
use Rattle.move_core.specs.Contexts.{AgreeElsewhere, IsModelled, field_names, names_of, rulebook}
use Rattle.move_core.specs.Extensions.{removal, upper, upper_place, IsDelete, IsExtension}
use Rattle.move_core.specs.Generated.{AddsEntry, IsFieldMove, IsGenerated, IsItemMove, IsKeyRemove, IsTableMove, ListsDiffer, SaysOfEntry}
use Rattle.move_core.specs.Listed.{IsListed, LeadsTo}
use Rattle.move_core.specs.Moves.{Place, list_in, place}
use Rattle.move_core.specs.Services.{table_of}
use Rattle.move_core.specs.declared.contexts.Ctx.{Ctx}
use Rattle.move_core.specs.declared.moves.Generated.{Generated}
use Rattle.move_core.specs.declared.moves.Move.{Move}
use Rattle.move_core.specs.declared.moves.Move.TheVariants.{Add, Remove, Replace, AddItem, RemoveItem}
use Rattle.move_core.proofs.DefinedMoves.{some_and}

-- what stands at places of a table is decided by the table
same_parts : (a b : Config) (t : List ℕ) (rest : Place) → find t a ≡ find t b → part_at a (t ∷ rest) ≡ part_at b (t ∷ rest)
same_parts a b t [] e = ap (option_map part.Table) e
same_parts a b t (k ∷ []) e = ap (option_and_then (λ table. option_map part.Entry (find k table))) e
same_parts a b t (k ∷ f ∷ []) e =
    ap (option_and_then (λ table. option_and_then (λ entry. option_map part.Value (find f entry)) (find k table))) e
same_parts a b t (k ∷ f ∷ n ∷ ns) e = refl

there_not_here : {A : Type 0} (x y : Option A) → IsSome x → y ≡ None → x ≢ y
there_not_here None y some none same = absurd cc
there_not_here (Some a) y some none same = absurd cc

here_not_there : {A : Type 0} (x y : Option A) (a : A) → x ≡ None → y ≡ Some a → x ≢ y
here_not_there x y a none some same = absurd cc

other_there : {A : Type 0} (x y : Option A) (a : A) → y ≡ Some a → x ≢ Some a → x ≢ y
other_there x y a some other same = other (same ∙ some)

same_Some : {A : Type 0} (x y : A) → Some x ≡ Some y → x ≡ y
same_Some x y e = cc

module _ (ctx : Ctx) (cur goal : Config) (agree : AgreeElsewhere ctx cur goal) where
  by_model : (t : List ℕ) (rest : Place) (b : Bool) → is_some (table_named t ctx.models) ≡ b → part_at cur (t ∷ rest) ≢ part_at goal (t ∷ rest) → IsModelled ctx.models t
  by_model t rest true is differs = is
  by_model t rest false is differs = absurd (differs (same_parts cur goal t rest (agree t (λ yes. cc))))

  differing : (p : Place) → part_at cur p ≢ part_at goal p → IsModelled ctx.models (table_of p)
  differing [] differs = absurd (differs refl)
  differing (t ∷ rest) differs = by_model t rest (is_some (table_named t ctx.models)) refl differs

  table_modelled : (m : Move) → IsTableMove cur goal m → IsModelled ctx.models (table_of (place m))
  table_modelled (Add p x) is = differing p (here_not_there _ _ x is.1 is.2)
  table_modelled (Remove p) is = differing p (there_not_here _ _ is.1 is.2)
  table_modelled (Replace p x) is = absurd is
  table_modelled (AddItem p i x) is = absurd is
  table_modelled (RemoveItem p i) is = absurd is

  remove_modelled : (m : Move) → IsKeyRemove cur goal m → IsModelled ctx.models (table_of (place m))
  remove_modelled (Add p x) is = absurd is
  remove_modelled (Remove p) is = differing p (there_not_here _ _ is.1 is.2)
  remove_modelled (Replace p x) is = absurd is
  remove_modelled (AddItem p i x) is = absurd is
  remove_modelled (RemoveItem p i) is = absurd is

  field_modelled : (m : Move) → IsFieldMove cur goal m → IsModelled ctx.models (table_of (place m))
  field_modelled (Add p x) is = differing p (here_not_there _ _ x is.2 is.3)
  field_modelled (Remove p) is = differing p (there_not_here _ _ is.2 is.3)
  field_modelled (Replace p x) is = differing p (other_there _ _ x is.2 is.3)
  field_modelled (AddItem p i x) is = absurd is
  field_modelled (RemoveItem p i) is = absurd is

  lists_differ : (p : Place) (i : ℕ) → ListsDiffer cur goal p i → IsModelled ctx.models (table_of p)
  lists_differ p i lists =
      differing p (λ same.
      lists.first.differs
      (ap (λ items. slice_get items i) (same_Some lists.old lists.new (sym lists.here ∙ ap (option_and_then list_in) same ∙ lists.there))))

  item_modelled : (m : Move) → IsItemMove cur goal m → IsModelled ctx.models (table_of (place m))
  item_modelled (Add p x) is = absurd is
  item_modelled (Remove p) is = absurd is
  item_modelled (Replace p x) is = absurd is
  item_modelled (AddItem p i x) is = lists_differ p i is.0
  item_modelled (RemoveItem p i) is = lists_differ p i is.0

  added_table : (b : Bool) (t k : List ℕ) (e : Entry)
      → table_of (place (if b then Add (t ∷ k ∷ []) (part.Entry e) else Add (t ∷ []) (part.Table ((k, e) ∷ [])))) ≡ t
  added_table true t k e = refl
  added_table false t k e = refl

  entry_modelled : (IsAs : SaysOfEntry) (g : Generated) → AddsEntry IsAs cur goal g → IsModelled ctx.models (table_of (place g.mv))
  entry_modelled IsAs g is =
      subst (λ m. IsModelled ctx.models (table_of (place m))) (sym is.move)
      (subst (IsModelled ctx.models) (sym (added_table (is_some (find is.table cur)) is.table is.key is.new))
      (differing (is.table ∷ is.key ∷ []) (here_not_there _ _ (part.Entry is.entry) is.lacks is.there)))

  by_kind : (kind : ℕ) (g : Generated) → IsGenerated (rulebook ctx) cur goal kind g → IsModelled ctx.models (table_of (place g.mv))
  by_kind kind g (inl is) = table_modelled g.mv is.1.0
  by_kind kind g (inr (inl (k, (inl is, class)))) = remove_modelled g.mv is.0
  by_kind kind g (inr (inl (k, (inr is, class)))) = entry_modelled _ g is
  by_kind kind g (inr (inr (inl is))) = field_modelled g.mv is.1.0
  by_kind kind g (inr (inr (inr (inl is)))) = entry_modelled _ g is.1.0
  by_kind kind g (inr (inr (inr (inr is)))) = item_modelled g.mv is.1.0

-- ---- extensions

upper_table : (p q : Place) → upper p ≡ Some q → table_of q ≡ table_of p
upper_table [] q e = absurd cc
upper_table (t ∷ []) q e = absurd cc
upper_table (t ∷ k ∷ []) q e = ap table_of (sym (same_Some _ _ e))
upper_table (t ∷ k ∷ f ∷ []) q e = ap table_of (sym (same_Some _ _ e))
upper_table (t ∷ k ∷ f ∷ n ∷ ns) q e = absurd cc

goal_place : (q : Place) (o : Option Part) → place (option_map_or (Replace q) o (Remove q)) ≡ q
goal_place q None = refl
goal_place q (Some x) = refl

put_place : (p : Place) (x : Part) (b : Bool) → place (if b then Replace p x else Add p x) ≡ p
put_place p x true = refl
put_place p x false = refl

delete_place : (m x : Move) → IsDelete m x → place x ≡ place m
delete_place (Add p v) x is = absurd is
delete_place (Remove p) x is = absurd is
delete_place (Replace p v) x is = ap place is
delete_place (AddItem p i v) x is = absurd is
delete_place (RemoveItem p i) x is = absurd is

above_table : (m : Move) (q : Place) → upper_place m ≡ Some q → table_of q ≡ table_of (place m)
above_table (Add p v) q e = upper_table p q e
above_table (Remove p) q e = upper_table p q e
above_table (Replace p v) q e = upper_table p q e
above_table (AddItem p i v) q e = ap table_of (sym (same_Some _ _ e))
above_table (RemoveItem p i) q e = ap table_of (sym (same_Some _ _ e))

removal_place : (p : Place) (item : Option ℕ) → place (removal p item) ≡ p
removal_place p None = refl
removal_place p (Some i) = refl

module _ (models : ModelSet) (c : Config) (p : Place) where
  by_modelled : (t : List ℕ × Table) (b : Bool) → is_some (table_named t.0 models) ≡ b → (j : ℕ) (row : Row)
      → option_and_then (λ u. option_map (λ e. row_of u.0 e.0 e.1) (slice_get u.1 j)) (if b then Some t else None) ≡ Some row → IsModelled models t.0
  by_modelled t true is j row e = is
  by_modelled t false is j row e = absurd cc

  first_name : (t : List ℕ × Table) (j : ℕ) (field : Option ℕ) (o : Option (List ℕ × Entry))
      → option_and_then (λ e. option_map (λ f. t.0 ∷ e.0 ∷ f) (field_names e.1 field)) o ≡ Some p → t.0 ≡ table_of p
  first_name t j field None e = absurd cc
  first_name t j field (Some entry) e = named (field_names entry.1 field) e
    where
      named : (o : Option Place) → option_map (λ f. t.0 ∷ entry.0 ∷ f) o ≡ Some p → t.0 ≡ table_of p
      named None e = absurd cc
      named (Some f) e = ap table_of (same_Some _ _ e)

  at_table : (at : WantPlace) (o : Option (List ℕ × Table)) (row : Row)
      → option_and_then (λ u. option_map (λ e. row_of u.0 e.0 e.1) (slice_get u.1 at.key)) (option_and_then (if_modelled models) o) ≡ Some row
      → option_and_then (λ t. option_and_then (λ e. option_map (λ f. t.0 ∷ e.0 ∷ f) (field_names e.1 at.field)) (slice_get t.1 at.key)) o ≡ Some p
      → IsModelled models (table_of p)
  at_table at None row is names = absurd cc
  at_table at (Some t) row is names =
      subst (IsModelled models) (first_name t at.key at.field (slice_get t.1 at.key) names)
      (by_modelled t (is_some (table_named t.0 models)) refl at.key row is)

  want_modelled : (at : WantPlace) (row : Row) → row_at models c at.table at.key ≡ Some row → names_of c at ≡ Some p → IsModelled models (table_of p)
  want_modelled at row is names = at_table at (slice_get c at.table) row is names

module _ (ctx : Ctx) (cur goal : Config) where
  extended : (kind : ℕ) (m x : Move) → IsExtension (rulebook ctx) cur goal kind m x → IsModelled ctx.models (table_of (place m)) → IsModelled ctx.models (table_of (place x))
  extended kind m x (inl is) modelled =
      let at = some_and (upper_place m) is.1 in
      subst (IsModelled ctx.models)
      (sym (above_table m at.0 at.1) ∙ ap table_of (sym (goal_place at.0 (part_at goal at.0))) ∙ ap (λ y. table_of (place y)) (sym at.2)) modelled
  extended kind m x (inr (inl is)) modelled = subst (λ q. IsModelled ctx.models (table_of q)) (sym (delete_place m x is.1)) modelled
  extended kind m x (inr (inr (inl is))) modelled =
      let there = is.1.there in
      subst (λ y. IsModelled ctx.models (table_of (place y))) (sym is.1.move)
      (subst (λ q. IsModelled ctx.models (table_of q)) (sym (removal_place is.1.at is.1.item))
      (want_modelled ctx.models cur is.1.at there.at there.wanted.row there.wanted.at there.names))
  extended kind m x (inr (inr (inr is))) modelled =
      let rule = is.1.rule in
      let at = rule.table ∷ is.1.key ∷ rule.field ∷ [] in
      subst (λ y. IsModelled ctx.models (table_of (place y))) (sym is.1.move)
      (subst (λ q. IsModelled ctx.models (table_of q)) (sym (put_place at _ (is_some (part_at cur at)))) is.1.modelled)

  led : (m : Move) (n : ℕ) (x : Move) → LeadsTo (rulebook ctx) cur goal m n x → IsModelled ctx.models (table_of (place m)) → IsModelled ctx.models (table_of (place x))
  led m zero x leads modelled = subst (λ y. IsModelled ctx.models (table_of (place y))) (sym leads) modelled
  led m (suc n) x leads modelled = extended leads.2.0 leads.0 x leads.2.1 (led m n leads.0 leads.1 modelled)

  pub listed_modelled : AgreeElsewhere ctx cur goal → (m : Move) → IsListed (rulebook ctx) cur goal m → IsModelled ctx.models (table_of (place m))
  listed_modelled agree m is =
      led is.first.mv is.depth m is.leads (by_kind ctx cur goal agree is.generated.0 is.first is.generated.1)
