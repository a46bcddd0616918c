-- Where a move changes what requires a value.
use Rattle.std.proofs.Common.{◌≡◌, ◌≢◌, ◌⊎◌, ℕ, List, [], ◌∷◌, ◌↔◌, IsTrue, Bool, true, false, not, ◌&&◌, true≢false, map, slice_get, Contains, Option, Some, None, is_some, option_and_then, IsSome, if◌then◌else◌, length, inl, inr, refl, sym, ap, ◌∙◌, subst}
use Rattle.std.specs.Option.{option_map_or, option_to_list}
use Rattle.conf_check.specs.Acceptance.{keys_of}
use Rattle.conf_doc.specs.Changes.{entry_at, part_at, HasPlace}
use Rattle.conf_doc.specs.Pairs.{find}
use Rattle.conf_doc.specs.declared.configuration.Config.{Config}
use Rattle.conf_doc.specs.declared.configuration.Table.{Table}
use Rattle.move_core.specs.Contexts.{rulebook}
use Rattle.conf_doc.specs.declared.parts.Part.{Part}
use Rattle.move_core.specs.Extensions.{ChangesFor, IsRequired, put_value, required_part, rule_entry, rule_field}
use Rattle.move_core.specs.Moves.{Place, place, step}
use Rattle.move_core.specs.Services.{table_of}
use Rattle.move_core.specs.declared.moves.Move.{Move}
use Rattle.move_core.specs.declared.moves.Move.TheVariants.{Add, Replace}
use Rattle.move_core.specs.declared.settings.Required.{Required}
use Rattle.move_core.specs.declared.settings.Requiring.{Requiring}
use Rattle.plan_check.specs.Keeping.{requiring_place}
use Rattle.plan_check.specs.Requirements.{Differs, DiffersAmong, DiffersAt, IsRequiredBy}
use Rattle.plan_check.specs.declared.here.Here.{Here}
use Rattle.plan_check.specs.declared.required.Change.{Change}
use Rattle.plan_check.proofs.AtKeys.{by_key, by_table, found_key, same_entry, same_field, second_name}

pub same_place : (a b : Config) (t key : List ℕ) (field : Option (List ℕ)) → entry_at a t key ≡ entry_at b t key
    → part_at a (t ∷ key ∷ option_to_list field) ≡ part_at b (t ∷ key ∷ option_to_list field)
same_place a b t key None e = same_entry a b t key e
same_place a b t key (Some f) e = same_field a b t key f e

none_is : {A : Type 0} (o : Option A) → is_some o ≡ false → o ≡ None
none_is None e = refl
none_is (Some a) e = absurd cc

key_there : (k : List ℕ) (o : Option Table) → IsSome (option_and_then (find k) o) → Contains (option_map_or (map (λ e. e.0)) o []) k
key_there k None some = absurd cc
key_there k (Some table) some = found_key k table some

-- a requiring place at a key that a move changes
module _ (cur next : Config) (m : Move) (made : next ≡ step cur m) (q : Requiring) (key : List ℕ) (differs : part_at cur (requiring_place q key) ≢ part_at next (requiring_place q key)) where
  changed : entry_at cur q.table key ≢ entry_at next q.table key
  changed same = differs (same_place cur next q.table key q.field same)

  -- the table is the move's
  pub changed_table : q.table ≡ table_of (place m)
  changed_table = elim (by_table cur next m (table_of (place m)) made refl q.table key) [ inl same ↦ absurd (changed same) | inr table ↦ table ]

  -- the key is the move's, where its place names one
  pub changed_key : (k : List ℕ) → slice_get (place m) 1 ≡ Some k → key ≡ k
  changed_key k named = elim (by_key cur next m q.table k made changed_table (second_name (place m) k named) key) [ inl same ↦ absurd (changed same) | inr same ↦ same ]

  either : (a b : Bool) → is_some (entry_at cur q.table key) ≡ a → is_some (entry_at next q.table key) ≡ b → Contains (keys_of q.table cur) key ⊎ Contains (keys_of q.table next) key
  either true b first second = inl (key_there key (find q.table cur) first)
  either false true first second = inr (key_there key (find q.table next) second)
  either false false first second = absurd (changed (none_is _ first ∙ sym (none_is _ second)))

  -- the key is one of the table before or after
  pub changed_among : Contains (keys_of q.table cur) key ⊎ Contains (keys_of q.table next) key
  changed_among = either (is_some (entry_at cur q.table key)) (is_some (entry_at next q.table key)) refl refl

module _ (c : Change) (q : Requiring) (m : Move) (is : c.next.now ≡ step c.cur.now m) where
  pub in_table : Differs c q → q.table ≡ table_of (place m)
  in_table d = changed_table c.cur.now c.next.now m is q d.key d.differs.differs

  pub at_key : (k : List ℕ) → slice_get (place m) 1 ≡ Some k → Differs c q → DiffersAt c q k
  at_key k named d = subst (DiffersAt c q) (changed_key c.cur.now c.next.now m is q d.key d.differs.differs k named) d.differs

  pub among : Differs c q → DiffersAmong c q (keys_of q.table c.cur.now) ⊎ DiffersAmong c q (keys_of q.table c.next.now)
  among d = elim (changed_among c.cur.now c.next.now m is q d.key d.differs.differs) as (λ _. DiffersAmong c q (keys_of q.table c.cur.now) ⊎ DiffersAmong c q (keys_of q.table c.next.now)) [
    | inl has ↦ inl (record { key = d.key; there = has; differs = d.differs })
    | inr has ↦ inr (record { key = d.key; there = has; differs = d.differs })
  ]

-- ---- what a rule requires

pub changes_if : (c : Change) (r : Required) (q : Requiring) → Contains r.requiring q → Differs c q → ChangesFor r c.named.now c.cur.now c.next.now
changes_if c r q there d = record {
  at = requiring_place q d.key;
  requires = record { requiring = q; listed = there; key = d.key; part = d.differs.part; is = refl };
  differs = d.differs.differs;
}

pub changes_then : (c : Change) (r : Required) → ChangesFor r c.named.now c.cur.now c.next.now → (q : Requiring) × Contains r.requiring q × Differs c q
changes_then c r is = (
  is.requires.requiring,
  is.requires.listed,
  record {
    key = is.requires.key;
    differs = record {
      part = is.requires.part;
      differs = subst (λ p. part_at c.cur.now p ≢ part_at c.next.now p) is.requires.is is.differs;
    };
  },
)

pub required_if : (h : Here) (m x : Move) (next : Config) → next ≡ step h.cur.now m → (r : Required) → Contains h.ctx.now.settings.required r → IsRequiredBy h next r x
    → IsRequired (rulebook h.ctx.now) h.cur.now m x
required_if h m x next made r there is = record {
  rule = r;
  listed = there;
  key = is.key;
  modelled = is.lacks.modelled;
  changes = subst (ChangesFor r is.key h.cur.now) made is.changes;
  before = is.lacks.before;
  after = subst (λ c. HasPlace c (rule_entry r is.key)) made is.lacks.after;
  other = is.lacks.other;
  move = is.move;
}

pub required_then : (h : Here) (m x : Move) (next : Config) → next ≡ step h.cur.now m → IsRequired (rulebook h.ctx.now) h.cur.now m x
    → (r : Required) × Contains h.ctx.now.settings.required r × IsRequiredBy h next r x
required_then h m x next made is = (
  is.rule,
  is.listed,
  record {
    key = is.key;
    changes = subst (ChangesFor is.rule is.key h.cur.now) (sym made) is.changes;
    lacks = record { modelled = is.modelled; before = is.before; after = subst (λ c. HasPlace c (rule_entry is.rule is.key)) (sym made) is.after; other = is.other };
    move = is.move;
  },
)

-- ---- the place of the value

placed : (p : Place) (v : Part) (b : Bool) → place (if b then Replace p v else Add p v) ≡ p
placed p v true = refl
placed p v false = refl

module _ (cur : Config) (at : Place) (v : Part) where
  pub other_place : (m : Move) → place m ≢ at → m ≢ put_value cur at v
  other_place m other e = other (ap place e ∙ placed at v (is_some (part_at cur at)))

  put_there : (o : Option Part) → IsSome o → (if is_some o then Replace at v else Add at v) ≡ Replace at v
  put_there None some = absurd cc
  put_there (Some x) some = refl

  put_absent : (o : Option Part) → ¬ IsSome o → (if is_some o then Replace at v else Add at v) ≡ Add at v
  put_absent None none = refl
  put_absent (Some x) none = absurd (none refl)

  -- an add puts it exactly where nothing is there, and a replace where something is
  pub add_test : (p : Place) (x : Part) → p ≡ at → (has b : Bool) → (IsTrue has ↔ HasPlace cur p) → (IsTrue b ↔ (x ≡ v)) → IsTrue (not has && b) ↔ (Add p x ≡ put_value cur at v)
  add_test p x same true b there says = (
    λ t. absurd cc,
    λ e. absurd (apart (e ∙ put_there (part_at cur at) (subst (HasPlace cur) same (there.0 refl)))),
  )
    where
      apart : Add p x ≡ Replace at v → ⊥
      apart e = cc
  add_test p x same false b there says =
      let none : ¬ IsSome (part_at cur at) = λ some. absurd (true≢false (sym (there.1 (subst (HasPlace cur) (sym same) some)))) in
      let made = put_absent (part_at cur at) none in (
        λ t. let value = says.0 t in (λ i. Add (same i) (value i)) ∙ sym made,
        λ e. says.1 (part_of (e ∙ made)),
      )
    where
      part_of : Add p x ≡ Add at v → x ≡ v
      part_of e = cc

  pub replace_test : (p : Place) (x : Part) → p ≡ at → (has b : Bool) → (IsTrue has ↔ HasPlace cur p) → (IsTrue b ↔ (x ≡ v)) → IsTrue (has && b) ↔ (Replace p x ≡ put_value cur at v)
  replace_test p x same true b there says =
      let made = put_there (part_at cur at) (subst (HasPlace cur) same (there.0 refl)) in (
        λ t. let value = says.0 t in (λ i. Replace (same i) (value i)) ∙ sym made,
        λ e. says.1 (part_of (e ∙ made)),
      )
    where
      part_of : Replace p x ≡ Replace at v → x ≡ v
      part_of e = cc
  replace_test p x same false b there says =
      let none : ¬ IsSome (part_at cur at) = λ some. absurd (true≢false (sym (there.1 (subst (HasPlace cur) (sym same) some)))) in (
        λ t. absurd cc,
        λ e. absurd (apart (e ∙ put_absent (part_at cur at) none)),
      )
    where
      apart : Replace p x ≡ Add at v → ⊥
      apart e = cc

  -- no other move does
  pub neither : (m : Move) → ((x : Part) → m ≢ Add at x) → ((x : Part) → m ≢ Replace at x) → m ≢ put_value cur at v
  neither m no_add no_replace e = by (is_some (part_at cur at)) e
    where
      by : (b : Bool) → m ≡ (if b then Replace at v else Add at v) → ⊥
      by true is = no_replace v is
      by false is = no_add v is

-- such a move's place is the rule's field
pub put_place : (h : Here) (next : Config) (r : Required) (x : Move) (is : IsRequiredBy h next r x) → place x ≡ rule_field r is.key
put_place h next r x is = ap place is.move ∙ placed (rule_field r is.key) (required_part r) (is_some (part_at h.cur.now (rule_field r is.key)))

pub put_length : (h : Here) (next : Config) (r : Required) (x : Move) → IsRequiredBy h next r x → length (place x) ≡ 3
put_length h next r x is = ap length (put_place h next r x is)

pub put_key : (h : Here) (next : Config) (r : Required) (x : Move) (is : IsRequiredBy h next r x) (named : List ℕ) → slice_get (place x) 1 ≡ Some named → is.key ≡ named
put_key h next r x is named at = same_Some is.key named (sym (ap (λ p. slice_get p 1) (put_place h next r x is)) ∙ at)
  where
    same_Some : (a b : List ℕ) → Some a ≡ Some b → a ≡ b
    same_Some a b e = cc
