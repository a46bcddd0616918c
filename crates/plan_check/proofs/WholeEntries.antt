-- What follows the add of a part of goal's entry follows a move that puts the whole of it.
use Rattle.std.proofs.Common.{◌≡◌, ◌≢◌, ◌⊎◌, ℕ, List, [], ◌∷◌, true, false, cond, Option, Some, None, option_map, option_and_then, is_some, IsSome, if◌then◌else◌, inl, inr, refl, sym, ap, ◌∙◌, subst}
use Rattle.std.specs.Option.{option_to_list}
use Rattle.std.specs.Ordering.{eq_by_cmp}
use Rattle.host_core.specs.Names.{name_cmp}
use Rattle.conf_doc.specs.Changes.{entry_at, part_at}
use Rattle.conf_doc.specs.Pairs.{find, put}
use Rattle.conf_doc.specs.declared.configuration.Config.{Config}
use Rattle.conf_doc.specs.declared.configuration.Entry.{Entry}
use Rattle.conf_doc.specs.declared.configuration.Table.{Table}
use Rattle.conf_doc.specs.declared.configuration.Value.{Value}
use Rattle.conf_doc.specs.declared.parts.Part.TheVariants as part
use Rattle.move_core.specs.Contexts.{rulebook}
use Rattle.move_core.specs.Extensions.{IsDelete, IsExtension, IsReferrer, IsRequired, IsUpper}
use Rattle.move_core.specs.Generated.{IsSeed, added_entry}
use Rattle.move_core.specs.Moves.{Lacks, place, step}
use Rattle.move_core.specs.declared.moves.Move.{Move}
use Rattle.move_core.specs.declared.moves.Move.TheVariants.{Add}
use Rattle.move_core.specs.declared.settings.Requiring.{Requiring}
use Rattle.plan_check.specs.Beginnings.{Begins, Precedes}
use Rattle.plan_check.specs.Candidates.{IsPlainAt}
use Rattle.plan_check.specs.Keeping.{requiring_place}
use Rattle.plan_check.specs.declared.here.Here.{Here}
use Rattle.plan_check.proofs.AtKeys.{by_key, by_table, stands, there}
use Rattle.plan_check.proofs.Following.{of_required, of_upper}
use Rattle.plan_check.proofs.Generators.{of_new, of_table}
use Rattle.plan_check.proofs.ListedShapes.{adds_goals}
use Rattle.plan_check.proofs.NearPlaces.{entry_some, some_entry}
use Rattle.plan_check.proofs.RequiringPlaces.{changed_key, changed_table, same_place}
use Rattle.plan_check.proofs.SatisfiedWants.{want_satisfied}
use Rattle.plan_check.proofs.UntouchedPlaces.{apart_by, changed_there, found_put, other_by, same_by, tied}

-- an entry comes that wasn't there, and the others stay
pub record Brings (cur : Config) (t k : List ℕ) (m : Move) (e : Entry) : Type 0 where
  pub lacked : entry_at cur t k ≡ None
  pub brought : entry_at (step cur m) t k ≡ Some e
  pub kept : (u j : List ℕ) → IsSome (entry_at cur u j) → entry_at cur u j ≡ entry_at (step cur m) u j

absent : {A : Type 0} (o : Option A) → o ≡ None → IsSome o → ⊥
absent o none some = let e = subst IsSome none some in cc

-- ---- the two ways to add an entry

module _ (cur : Config) (t k : List ℕ) (e : Entry) (lacked : entry_at cur t k ≡ None) where
  -- to its table
  module _ (table : Table) (is : find t cur ≡ Some table) where
    abbrev in_it : Move
    in_it = Add (t ∷ k ∷ []) (part.Entry e)

    pub brings_in : Brings cur t k in_it e
    brings_in = record {
      lacked = lacked;
      brought = ap (option_and_then (find k)) (changed_there t (put k e) cur (find t cur) refl ∙ ap (option_map (put k e)) is) ∙ found_put k e table;
      kept = λ u j some. elim (by_table cur (step cur in_it) in_it t refl refl u j) [
        | inl same ↦ same
        | inr at ↦ elim (by_key cur (step cur in_it) in_it t k refl refl (t, [], refl) j) [
          | inl same ↦ subst (λ v. entry_at cur v j ≡ entry_at (step cur in_it) v j) (sym at) same
          | inr key ↦ absurd (absent (entry_at cur t k) lacked (subst (λ i. IsSome (entry_at cur t i)) key (subst (λ v. IsSome (entry_at cur v j)) at some)))
        ]
      ];
    }

  -- with its table
  module _ (table : Table) (none : find t cur ≡ None) (has : find k table ≡ Some e) where
    abbrev alone : Move
    alone = Add (t ∷ []) (part.Table table)

    pub brings_table : Brings cur t k alone e
    brings_table = record {
      lacked = lacked;
      brought = ap (option_and_then (find k)) (found_put t table cur) ∙ has;
      kept = λ u j some. elim (by_table cur (step cur alone) alone t refl refl u j) [
        | inl same ↦ same
        | inr at ↦ absurd (absent (entry_at cur t j) (ap (option_and_then (find j)) none) (subst (λ v. IsSome (entry_at cur v j)) at some))
      ];
    }

-- ---- what follows

module _ (h : Here) (t k : List ℕ) (m : Move) (n : Entry) (one : Brings h.cur.now t k m n) where
  -- nothing is left without what it wants
  no_referrer : (x : Move) → ¬ IsReferrer (rulebook h.ctx.now) h.cur.now m x
  no_referrer x is =
      let w = is.want in
      let before = want_satisfied h.ctx.now.models h.cur.now is.there.at w is.there.wanted in
      let some = entry_some before.key (find w.target.table h.cur.now) before.there in
      is.broken (record {
        key = before.key;
        there = some_entry before.key (find w.target.table (step h.cur.now m)) (subst IsSome (one.kept w.target.table before.key some) some);
        belongs = before.belongs;
        part = before.part;
      })

-- a value that the entry has beside what stood there
value_of : (c : Config) (t k f : List ℕ) (o : Option Entry) → entry_at c t k ≡ o → part_at c (t ∷ k ∷ f ∷ []) ≡ option_and_then (λ e. option_map part.Value (find f e)) o
value_of c t k f o is = field_part k f (find t c) ∙ ap (option_and_then (λ e. option_map part.Value (find f e))) is
  where
    field_part : (j g : List ℕ) (q : Option Table)
        → option_and_then (λ table. option_and_then (λ entry. option_map part.Value (find g entry)) (find j table)) q
        ≡ option_and_then (λ entry. option_map part.Value (find g entry)) (option_and_then (find j) q)
    field_part j g None = refl
    field_part j g (Some table) = refl

entry_of : (c : Config) (t k : List ℕ) (o : Option Entry) → entry_at c t k ≡ o → part_at c (t ∷ k ∷ []) ≡ option_map part.Entry o
entry_of c t k o is = entry_part k (find t c) ∙ ap (option_map part.Entry) is
  where
    entry_part : (j : List ℕ) (q : Option Table) → option_and_then (λ table. option_map part.Entry (find j table)) q ≡ option_map part.Entry (option_and_then (find j) q)
    entry_part j None = refl
    entry_part j (Some table) = refl

module _ (h : Here) (t k : List ℕ) (m more : Move) (n e : Entry) (one : Brings h.cur.now t k m n) (two : Brings h.cur.now t k more e)
    (within : (f : List ℕ) (v : Value) → find f n ≡ Some v → find f e ≡ Some v) where
  abbrev cur : Config
  cur = h.cur.now

  -- what of the part changes, of the whole does too
  field_differs : (f : List ℕ) (o : Option Value) → find f n ≡ o → part_at cur (t ∷ k ∷ f ∷ []) ≢ part_at (step cur m) (t ∷ k ∷ f ∷ []) → part_at cur (t ∷ k ∷ f ∷ []) ≢ part_at (step cur more) (t ∷ k ∷ f ∷ [])
  field_differs f None is differs same =
      differs (value_of cur t k f None one.lacked ∙ sym (value_of (step cur m) t k f (Some n) one.brought ∙ ap (option_map part.Value) is))
  field_differs f (Some v) is differs same =
      let now = sym (value_of cur t k f None two.lacked) ∙ same ∙ value_of (step cur more) t k f (Some e) two.brought ∙ ap (option_map part.Value) (within f v is) in
      cc

  place_differs : (field : Option (List ℕ)) → part_at cur (t ∷ k ∷ option_to_list field) ≢ part_at (step cur m) (t ∷ k ∷ option_to_list field)
      → part_at cur (t ∷ k ∷ option_to_list field) ≢ part_at (step cur more) (t ∷ k ∷ option_to_list field)
  place_differs None differs same =
      let now = sym (entry_of cur t k None two.lacked) ∙ same ∙ entry_of (step cur more) t k (Some e) two.brought in
      cc
  place_differs (Some f) differs same = field_differs f (find f n) refl differs same

  module _ (only : (q : Requiring) (key : List ℕ) → part_at cur (requiring_place q key) ≢ part_at (step cur m) (requiring_place q key) → (q.table ≡ t) × (key ≡ k)) where
    required_too : (x : Move) → IsRequired (rulebook h.ctx.now) cur m x → IsRequired (rulebook h.ctx.now) cur more x
    required_too x is =
        let some = there cur is.rule.table is.key is.before in
        record {
          rule = is.rule;
          listed = is.listed;
          key = is.key;
          modelled = is.modelled;
          changes = record { at = is.changes.at; requires = is.changes.requires; differs = changes };
          before = is.before;
          after = stands (step cur more) is.rule.table is.key (subst IsSome (two.kept is.rule.table is.key some) some);
          other = is.other;
          move = is.move;
        }
      where
        q : Requiring
        q = is.changes.requires.requiring

        key : List ℕ
        key = is.changes.requires.key

        differs : part_at cur (requiring_place q key) ≢ part_at (step cur m) (requiring_place q key)
        differs = subst (λ p. part_at cur p ≢ part_at (step cur m) p) is.changes.requires.is is.changes.differs

        changes : part_at cur is.changes.at ≢ part_at (step cur more) is.changes.at
        changes =
            let same = only q key differs in
            let at = is.changes.requires.is ∙ (λ i. same.0 i ∷ same.1 i ∷ option_to_list q.field) in
            subst (λ p. part_at cur p ≢ part_at (step cur more) p) (sym at)
            (place_differs q.field (subst (λ p. part_at cur p ≢ part_at (step cur m) p) at is.changes.differs))

    -- what follows the one follows the other, where both are adds at one place
    follows_too : (x : Move) → (IsUpper h.goal.now m x → IsUpper h.goal.now more x) → (kind : ℕ) → IsExtension (rulebook h.ctx.now) cur h.goal.now kind m x → (¬ IsDelete m x) → Precedes h more x
    follows_too x upper kind (inl is) no_delete = of_upper h more x (upper is.1)
    follows_too x upper kind (inr (inl is)) no_delete = absurd (no_delete is.1)
    follows_too x upper kind (inr (inr (inl is))) no_delete = absurd (no_referrer h t k m n one x is.1)
    follows_too x upper kind (inr (inr (inr is))) no_delete = of_required h more x (required_too x is.1)

-- ---- the whole entry

-- a generated move at a place in goal, followed by the other one
pub record IsWholeAdd (h : Here) (x : Move) : Type 0 where
  pub mv : Move
  pub begins : Begins h mv
  pub leads : Precedes h mv x
  pub plain : IsPlainAt h (place mv) mv

none_is : {A : Type 0} (o : Option A) → is_some o ≡ false → o ≡ None
none_is None e = refl
none_is (Some a) e = absurd cc

-- the entry and its table in goal
record InTable (c : Config) (t k : List ℕ) (e : Entry) : Type 0 where
  table : Table
  there : find t c ≡ Some table
  is : find k table ≡ Some e

entry_in : (c : Config) (t k : List ℕ) (e : Entry) (o : Option Table) → find t c ≡ o → option_and_then (λ table. option_map part.Entry (find k table)) o ≡ Some (part.Entry e) → InTable c t k e
entry_in c t k e None there is = cc
entry_in c t k e (Some table) there is = record { table = table; there = there; is = unmapped (find k table) is }
  where
    unmapped : (p : Option Entry) → option_map part.Entry p ≡ Some (part.Entry e) → p ≡ Some e
    unmapped None is = cc
    unmapped (Some x) is = cc

lacking : (c : Config) (t k : List ℕ) → Lacks c (t ∷ k ∷ []) → entry_at c t k ≡ None
lacking c t k lacks = by (entry_at c t k) refl
  where
    by : (o : Option Entry) → entry_at c t k ≡ o → entry_at c t k ≡ None
    by None is = is
    by (Some e) is = let there = sym (entry_of c t k (Some e) is) ∙ lacks in cc

module _ (h : Here) (x : Move) (t k : List ℕ) (n e : Entry) (lacks : Lacks h.cur.now (t ∷ k ∷ [])) (has : part_at h.goal.now (t ∷ k ∷ []) ≡ Some (part.Entry e))
    (alike : (n ≡ e) ⊎ IsSeed (rulebook h.ctx.now) h.goal.now t k e n) where
  lacked : entry_at h.cur.now t k ≡ None
  lacked = lacking h.cur.now t k lacks

  within : (f : List ℕ) (v : Value) → find f n ≡ Some v → find f e ≡ Some v
  within f v is = by alike
    where
      by : (n ≡ e) ⊎ IsSeed (rulebook h.ctx.now) h.goal.now t k e n → find f e ≡ Some v
      by (inl same) = subst (λ y. find f y ≡ Some v) same is
      by (inr seed) = ((seed.fields f v).0 is).0

  -- cur has the table
  to_table : (table : Table) → find t h.cur.now ≡ Some table → Precedes h (Add (t ∷ k ∷ []) (part.Entry n)) x → IsWholeAdd h x
  to_table table is more = record {
    mv = whole;
    begins = of_new h whole (record {
      table = t;
      key = k;
      new = e;
      entry = record { entry = e; lacks = lacks; there = has; alike = inl refl };
      move = sym (ap (λ o. if is_some o then Add (t ∷ k ∷ []) (part.Entry e) else Add (t ∷ []) (part.Table ((k, e) ∷ []))) is);
    });
    leads = follows_too h t k small whole n e (brings_in h.cur.now t k n lacked table is) (brings_in h.cur.now t k e lacked table is) within only x (λ up. up) more.0 more.1 (λ no. no);
    plain = adds_goals h (t ∷ k ∷ []) (part.Entry e) has;
  }
    where
      whole : Move
      whole = Add (t ∷ k ∷ []) (part.Entry e)

      small : Move
      small = Add (t ∷ k ∷ []) (part.Entry n)

      only : (q : Requiring) (key : List ℕ) → part_at h.cur.now (requiring_place q key) ≢ part_at (step h.cur.now small) (requiring_place q key) → (q.table ≡ t) × (key ≡ k)
      only q key differs = (changed_table h.cur.now (step h.cur.now small) small refl q key differs, changed_key h.cur.now (step h.cur.now small) small refl q key differs k refl)

  -- it lacks it
  with_table : find t h.cur.now ≡ None → Precedes h (Add (t ∷ []) (part.Table ((k, n) ∷ []))) x → IsWholeAdd h x
  with_table none more = record {
    mv = whole;
    begins = of_table h whole (refl, ap (option_map part.Table) none, there_is);
    leads = follows_too h t k small whole n e (brings_table h.cur.now t k n lacked ((k, n) ∷ []) none found_alone) (brings_table h.cur.now t k e lacked inside.table none inside.is) within only x (λ up. up) more.0 more.1 (λ no. no);
    plain = adds_goals h (t ∷ []) (part.Table inside.table) there_is;
  }
    where
      inside : InTable h.goal.now t k e
      inside = entry_in h.goal.now t k e (find t h.goal.now) refl has

      there_is : part_at h.goal.now (t ∷ []) ≡ Some (part.Table inside.table)
      there_is = ap (option_map part.Table) inside.there

      whole : Move
      whole = Add (t ∷ []) (part.Table inside.table)

      small : Move
      small = Add (t ∷ []) (part.Table ((k, n) ∷ []))

      found_alone : find k ((k, n) ∷ []) ≡ Some n
      found_alone = ap (λ b. cond b (Some n) None) (tied k)

      other : (q : Requiring) (key : List ℕ) → q.table ≡ t → key ≢ k → entry_at h.cur.now q.table key ≡ entry_at (step h.cur.now small) q.table key
      other q key at apart =
          subst (λ u. entry_at h.cur.now u key ≡ entry_at (step h.cur.now small) u key) (sym at)
          (ap (option_and_then (find key)) none ∙ sym (ap (option_and_then (find key)) (found_put t ((k, n) ∷ []) h.cur.now) ∙ ap (λ b. cond b (Some n) None) (other_by key k apart)))

      only : (q : Requiring) (key : List ℕ) → part_at h.cur.now (requiring_place q key) ≢ part_at (step h.cur.now small) (requiring_place q key) → (q.table ≡ t) × (key ≡ k)
      only q key differs =
          let at = changed_table h.cur.now (step h.cur.now small) small refl q key differs in (
            at,
            elim (eq_by_cmp name_cmp key k) as (λ b. eq_by_cmp name_cmp key k ≡ b → key ≡ k) [
              | true ↦ λ same. same_by key k same
              | false ↦ λ apart.
                  absurd (differs (same_place h.cur.now (step h.cur.now small) q.table key q.field (other q key at (apart_by key k apart))))
            ] refl,
          )

  -- either
  pub whole_add : Precedes h (added_entry h.cur.now t k n) x → IsWholeAdd h x
  whole_add more = by (find t h.cur.now) refl more
    where
      by : (o : Option Table) → find t h.cur.now ≡ o → Precedes h (if is_some o then Add (t ∷ k ∷ []) (part.Entry n) else Add (t ∷ []) (part.Table ((k, n) ∷ []))) x → IsWholeAdd h x
      by None is so = with_table is so
      by (Some table) is so = to_table table is so
