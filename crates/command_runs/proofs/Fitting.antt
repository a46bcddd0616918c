-- What an allowed move puts at its place is of the kind that stands there, and what it removes stands at no
-- more than three
-- names.
use Rattle.std.proofs.Common.{◌≡◌, inl, inr, ℕ, zero, suc, ◌≤◌, List, [], ◌∷◌, length, slice_get, true, false, cond, Option, Some, None, refl, sym, ap, subst, arith}
use Rattle.std.specs.Prelude.{option_map, option_and_then, is_some, IsSomeAnd}
use Rattle.std.specs.Option.{option_map_or}
use Rattle.conf_doc.specs.Changes.{Fits, part_at}
use Rattle.conf_doc.specs.Pairs.{find}
use Rattle.conf_doc.specs.declared.configuration.Config.{Config}
use Rattle.conf_doc.specs.declared.configuration.Entry.{Entry}
use Rattle.conf_doc.specs.declared.configuration.Table.{Table}
use Rattle.conf_doc.specs.declared.configuration.Value.{Value}
use Rattle.conf_doc.specs.declared.parts.Part.{Part}
use Rattle.conf_doc.specs.declared.parts.Part.TheVariants as part
use Rattle.conf_check.specs.Wants.{Want}
use Rattle.conf_check.specs.declared.want_iter.WantPlace.{WantPlace}
use Rattle.yang_model.specs.ModelSets.{ModelSet}
use Rattle.move_core.specs.Contexts.{HasWant, field_names, names_of, rulebook}
use Rattle.move_core.specs.Extensions.{IsDelete, IsExtension, as_in_goal, put_value, removal, required_part, rule_field, upper, upper_place}
use Rattle.move_core.specs.Generated.{AddsEntry, IsFieldMove, IsGenerated, IsItemMove, IsKeyRemove, IsSeed, IsTableMove, IsWhole, SaysOfEntry}
use Rattle.move_core.specs.Listed.{IsListed, LeadsTo}
use Rattle.move_core.specs.Moves.{Place, list_at, list_in}
use Rattle.move_core.specs.Plans.{IsWay}
use Rattle.move_core.specs.Moves as moves
use Rattle.move_core.specs.Rulebook.{Rulebook}
use Rattle.move_core.specs.declared.contexts.Ctx.{Ctx}
use Rattle.move_core.specs.declared.moves.Generated.{Generated}
use Rattle.move_core.specs.declared.moves.Move.{Move}
use Rattle.move_core.specs.declared.moves.Move.TheVariants.{Add, Remove, Replace, AddItem, RemoveItem}
use Rattle.sessions.specs.Runs.{moves_of}
use Rattle.sessions.specs.Worlds.{Leads}
use Rattle.sessions.specs.declared.commits.Commit.{Commit}
use Rattle.command_runs.specs.Works.{FitTheirPlaces, FitsItsPlace}

-- ---- what stands at a place

mapped : {A B : Type 0} (f : A → B) (o : Option A) (b : B) → option_map f o ≡ Some b → (a : A) × (b ≡ f a)
mapped f None b e = absurd cc
mapped f (Some a) b e = let same : b ≡ f a = cc in (a, same)

chained : {A B : Type 0} (g : A → Option B) (o : Option A) (b : B) → option_and_then g o ≡ Some b
    → (a : A) × (g a ≡ Some b)
chained g None b e = absurd cc
chained g (Some a) b e = (a, e)

pub part_fits : (c : Config) (p : Place) (v : Part) → part_at c p ≡ Some v → Fits p v
part_fits c [] v e = absurd cc
part_fits c (t ∷ []) v e =
    let h = mapped part.Table (find t c) v e in subst (λ (w : Part). Fits (t ∷ []) w) (sym h.1) refl
part_fits c (t ∷ k ∷ []) v e =
    let h = chained (λ table. option_map part.Entry (find k table)) (find t c) v e in
    let g = mapped part.Entry (find k h.0) v h.1 in
    subst (λ (w : Part). Fits (t ∷ k ∷ []) w) (sym g.1) refl
part_fits c (t ∷ k ∷ f ∷ []) v e =
    let h = chained (λ table. option_and_then (λ entry. option_map part.Value (find f entry)) (find k table))
    (find t c) v e in
    let g = chained (λ entry. option_map part.Value (find f entry)) (find k h.0) v h.1 in
    let w = mapped part.Value (find f g.0) v g.1 in
    subst (λ (w : Part). Fits (t ∷ k ∷ f ∷ []) w) (sym w.1) refl
part_fits c (t ∷ k ∷ f ∷ n ∷ ns) v e = absurd cc

-- a part stands at one to three names
pub few_names : (p : Place) (v : Part) → Fits p v → length p ≤ 3
few_names p (part.Table t) fit = omega (arith, fit)
few_names p (part.Entry e) fit = omega (arith, fit)
few_names p (part.Value v) fit = omega (arith, fit)

value_three : (p : Place) (v : Part) (items : List (List ℕ)) → Fits p v → list_in v ≡ Some items → length p ≡ 3
value_three p (part.Table t) items fit e = absurd cc
value_three p (part.Entry t) items fit e = absurd cc
value_three p (part.Value v) items fit e = fit

-- a list stands at three
list_three : (c : Config) (p : Place) (items : List (List ℕ)) (o : Option Part) → part_at c p ≡ o
    → option_and_then list_in o ≡ Some items → length p ≡ 3
list_three c p items None at e = absurd cc
list_three c p items (Some v) at e = value_three p v items (part_fits c p v at) e

-- ---- the place above

upper_few : (p q : Place) → upper p ≡ Some q → length q ≤ 3
upper_few [] q e = absurd cc
upper_few (t ∷ []) q e = absurd cc
upper_few (t ∷ k ∷ []) q e = let same : t ∷ [] ≡ q = cc in omega (arith, ap length same)
upper_few (t ∷ k ∷ f ∷ []) q e = let same : t ∷ k ∷ [] ≡ q = cc in omega (arith, ap length same)
upper_few (t ∷ k ∷ f ∷ n ∷ ns) q e = absurd cc

above_few : (m : Move) → FitsItsPlace m → (q : Place) → upper_place m ≡ Some q → length q ≤ 3
above_few (Add p v) fit q e = upper_few p q e
above_few (Remove p) fit q e = upper_few p q e
above_few (Replace p v) fit q e = upper_few p q e
above_few (AddItem p i x) fit q e = let same : p ≡ q = cc in omega (arith, fit, ap length same)
above_few (RemoveItem p i) fit q e = let same : p ≡ q = cc in omega (arith, fit, ap length same)

goal_fits : (goal : Config) (p : Place) → length p ≤ 3 → (o : Option Part) → part_at goal p ≡ o
    → FitsItsPlace (option_map_or (Replace p) o (Remove p))
goal_fits goal p few None e = few
goal_fits goal p few (Some v) e = part_fits goal p v e

upper_fits : (goal : Config) (x : Move) (o : Option Place) → ((q : Place) → o ≡ Some q → length q ≤ 3)
    → IsSomeAnd o (λ p. x ≡ as_in_goal goal p) → FitsItsPlace x
upper_fits goal x None few h = absurd h
upper_fits goal x (Some p) few h = subst FitsItsPlace (sym h) (goal_fits goal p (few p refl) (part_at goal p) refl)

delete_fits : (m x : Move) → FitsItsPlace m → IsDelete m x → FitsItsPlace x
delete_fits (Add p v) x fit h = absurd h
delete_fits (Remove p) x fit h = absurd h
delete_fits (Replace p v) x fit h = subst FitsItsPlace (sym h) (few_names p v fit)
delete_fits (AddItem p i t) x fit h = absurd h
delete_fits (RemoveItem p i) x fit h = absurd h

-- ---- referrers

field_few : (fields : Entry) (o : Option ℕ) (f : List (List ℕ)) → field_names fields o ≡ Some f → length f ≤ 1
field_few fields None f e = let same : [] ≡ f = cc in omega (arith, ap length same)
field_few fields (Some i) f e =
    let g = mapped (λ (x : List ℕ × Value). x.0 ∷ []) (slice_get fields i) f e in omega (arith, ap length g.1)

-- the names of an entry or of a field
entry_few : (t k : List ℕ) (p : Place) (o : Option (List (List ℕ))) → ((f : List (List ℕ)) → o ≡ Some f → length f ≤ 1)
    → option_map (λ f. t ∷ k ∷ f) o ≡ Some p → length p ≤ 3
entry_few t k p None few e = absurd cc
entry_few t k p (Some f) few e = let same : t ∷ k ∷ f ≡ p = cc in omega (arith, few f refl, ap length same)

names_few : (c : Config) (at : WantPlace) (p : Place) → names_of c at ≡ Some p → length p ≤ 3
names_few c at p is =
    let t = chained (λ (t : List ℕ × Table).
    option_and_then (λ e. option_map (λ f. t.0 ∷ e.0 ∷ f) (field_names e.1 at.field))
    (slice_get t.1 at.key)) (slice_get c at.table) p is in
    let k = chained (λ (e : List ℕ × Entry). option_map (λ f. t.0.0 ∷ e.0 ∷ f) (field_names e.1 at.field))
    (slice_get t.0.1 at.key) p t.1 in
    entry_few t.0.0 k.0.0 p (field_names k.0.1 at.field) (field_few k.0.1 at.field) k.1

item_three : (c : Config) (p : Place) (n i : ℕ) (o : Option (List (List ℕ))) → list_at c p ≡ o
    → option_map (λ _. n) o ≡ Some i → length p ≡ 3
item_three c p n i None at e = absurd cc
item_three c p n i (Some items) at e = list_three c p items (part_at c p) refl at

-- what has a want is an entry, a field, or an item of a list in one
removal_fits : (models : ModelSet) (c : Config) (p : Place) (item : Option ℕ) (want : Want)
    → HasWant models c p item want → FitsItsPlace (removal p item)
removal_fits models c p None want has = names_few c has.at p has.names
removal_fits models c p (Some i) want has = item_three c p has.at.item i (list_at c p) refl has.index

put_fits : (cur : Config) (p : Place) (v : Part) → Fits p v → FitsItsPlace (put_value cur p v)
put_fits cur p v fit =
    elim (is_some (part_at cur p)) as (λ b. FitsItsPlace (cond b (Replace p v) (Add p v))) [ true ↦ fit | false ↦ fit ]

-- ---- generated moves

table_fits : (cur goal : Config) (m : Move) → IsTableMove cur goal m → FitsItsPlace m
table_fits cur goal (Add p v) h = part_fits goal p v h.2
table_fits cur goal (Remove p) h = omega (arith, h.0)
table_fits cur goal (Replace p v) h = absurd h
table_fits cur goal (AddItem p i t) h = absurd h
table_fits cur goal (RemoveItem p i) h = absurd h

key_fits : (cur goal : Config) (m : Move) → IsKeyRemove cur goal m → FitsItsPlace m
key_fits cur goal (Add p v) h = absurd h
key_fits cur goal (Remove p) h = omega (arith, h.0)
key_fits cur goal (Replace p v) h = absurd h
key_fits cur goal (AddItem p i t) h = absurd h
key_fits cur goal (RemoveItem p i) h = absurd h

field_fits : (cur goal : Config) (m : Move) → IsFieldMove cur goal m → FitsItsPlace m
field_fits cur goal (Add p v) h = part_fits goal p v h.3
field_fits cur goal (Remove p) h = omega (arith, h.0)
field_fits cur goal (Replace p v) h = part_fits goal p v h.2
field_fits cur goal (AddItem p i t) h = absurd h
field_fits cur goal (RemoveItem p i) h = absurd h

item_fits : (cur goal : Config) (m : Move) → IsItemMove cur goal m → FitsItsPlace m
item_fits cur goal (Add p v) h = absurd h
item_fits cur goal (Remove p) h = absurd h
item_fits cur goal (Replace p v) h = absurd h
item_fits cur goal (AddItem p i t) h = list_three cur p h.0.old (part_at cur p) refl h.0.here
item_fits cur goal (RemoveItem p i) h = list_three cur p h.0.old (part_at cur p) refl h.0.here

entry_fits : (IsAs : SaysOfEntry) (cur goal : Config) (g : Generated) → AddsEntry IsAs cur goal g → FitsItsPlace g.mv
entry_fits IsAs cur goal g h =
    subst FitsItsPlace (sym h.move)
    (elim (is_some (find h.table cur))
    as (λ b. FitsItsPlace (cond b (Add (h.table ∷ h.key ∷ []) (part.Entry h.new))
    (Add (h.table ∷ []) (part.Table ((h.key, h.new) ∷ [])))))
    [ true ↦ refl | false ↦ refl ])

generated_fits : (book : Rulebook) (cur goal : Config) (kind : ℕ) (g : Generated) → IsGenerated book cur goal kind g
    → FitsItsPlace g.mv
generated_fits book cur goal kind g (inl h) = table_fits cur goal g.mv h.1.0
generated_fits book cur goal kind g (inr (inl (is, (inl h, class)))) = key_fits cur goal g.mv h.0
generated_fits book cur goal kind g (inr (inl (is, (inr h, class)))) = entry_fits IsWhole cur goal g h
generated_fits book cur goal kind g (inr (inr (inl h))) = field_fits cur goal g.mv h.1.0
generated_fits book cur goal kind g (inr (inr (inr (inl h)))) = entry_fits (IsSeed book goal) cur goal g h.1.0
generated_fits book cur goal kind g (inr (inr (inr (inr h)))) = item_fits cur goal g.mv h.1.0

-- ---- listed moves, and plans

module _ (ctx : Ctx) (goal : Config) where
  extended_fits : (cur : Config) (kind : ℕ) (m x : Move) → FitsItsPlace m
      → IsExtension (rulebook ctx) cur goal kind m x → FitsItsPlace x
  extended_fits cur kind m x fit (inl h) = upper_fits goal x (upper_place m) (above_few m fit) h.1
  extended_fits cur kind m x fit (inr (inl h)) = delete_fits m x fit h.1
  extended_fits cur kind m x fit (inr (inr (inl h))) =
      let r = h.1 in subst FitsItsPlace (sym r.move) (removal_fits ctx.models cur r.at r.item r.want r.there)
  extended_fits cur kind m x fit (inr (inr (inr h))) =
      let r = h.1 in subst FitsItsPlace (sym r.move) (put_fits cur (rule_field r.rule r.key) (required_part r.rule)
      refl)

  chain_fits : (cur : Config) (m x : Move) (n : ℕ) → FitsItsPlace m → LeadsTo (rulebook ctx) cur goal m n x
      → FitsItsPlace x
  chain_fits cur m x zero fit h = subst FitsItsPlace (sym h) fit
  chain_fits cur m x (suc n) fit (y, leads, (kind, is)) = extended_fits cur kind y x (chain_fits cur m y n fit leads) is

  listed_fits : (cur : Config) (m : Move) → IsListed (rulebook ctx) cur goal m → FitsItsPlace m
  listed_fits cur m h =
      chain_fits cur h.first.mv m h.depth (generated_fits (rulebook ctx) cur goal h.generated.0 h.first h.generated.1)
      h.leads

  pub way_fits : (c : Config) (ms : List Move) (x : Config) → IsWay (rulebook ctx) goal c ms x → FitTheirPlaces ms
  way_fits c [] x h = tt
  way_fits c (m ∷ ms) x h = (listed_fits c m h.0.listed, way_fits (moves.step c m) ms x h.1)

-- so do commits, each allowed towards a goal of its own
pub commits_fit : (ctx : Ctx) (c : Config) (ks : List Commit) (x : Config) → Leads (rulebook ctx) c ks x
    → FitTheirPlaces (moves_of ks)
commits_fit ctx c [] x h = tt
commits_fit ctx c (k ∷ ks) x h =
    (listed_fits ctx k.goal c k.mv h.0.listed, commits_fit ctx (moves.step c k.mv) ks x h.1)
