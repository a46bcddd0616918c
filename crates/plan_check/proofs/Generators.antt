-- What is generated, by the cases that are decided.
use Rattle.std.proofs.Common.{◌≡◌, ◌⊎◌, ℕ, List, ◌∷◌, [], inl, inr, refl, subst}
use Rattle.conf_doc.specs.declared.configuration.Entry.{Entry}
use Rattle.move_core.specs.Contexts.{rulebook}
use Rattle.move_core.specs.Generated.{AddsEntry, IsFieldMove, IsGenerated, IsItemMove, IsKeyRemove, IsSeed, IsTableMove, IsWhole, SaysOfEntry}
use Rattle.move_core.specs.Moves.{place}
use Rattle.move_core.specs.declared.moves.Generated.{Generated}
use Rattle.move_core.specs.declared.moves.Move.{Move}
use Rattle.plan_check.specs.Beginnings.{Begins, IsTowards}
use Rattle.plan_check.specs.NewEntries.{AddsNew}
use Rattle.plan_check.specs.declared.here.Here.{Here}

-- a move for its own place
abbrev own : Move → ℕ → Generated
own m class = record { mv = m; place = place m; class = class }

-- the cases of what is generated
abbrev pub IsSomeCase : Here → Move → Type 0
IsSomeCase h m = IsTowards h.cur.now h.goal.now m ⊎ AddsNew h m

module _ (h : Here) where
  -- ---- each case is generated

  pub of_table : (m : Move) → IsTableMove h.cur.now h.goal.now m → Begins h m
  of_table m is = record { first = own m 0; generated = (1, inl (refl, (is, refl, refl))); move = refl }

  pub of_key : (m : Move) → IsKeyRemove h.cur.now h.goal.now m → Begins h m
  of_key m is = record { first = own m 1; generated = (2, inr (inl (refl, (inl (is, refl), refl)))); move = refl }

  pub of_field : (m : Move) → IsFieldMove h.cur.now h.goal.now m → Begins h m
  of_field m is = record { first = own m 3; generated = (3, inr (inr (inl (refl, (is, refl, refl))))); move = refl }

  pub of_item : (m : Move) → IsItemMove h.cur.now h.goal.now m → Begins h m
  of_item m is = record { first = own m 2; generated = (5, inr (inr (inr (inr (refl, (is, refl, refl)))))); move = refl }

  added : (m : Move) (class : ℕ) (IsAs : SaysOfEntry) (new : AddsNew h m) → IsAs new.table new.key new.entry.entry new.new
      → AddsEntry IsAs h.cur.now h.goal.now (record { mv = m; place = new.table ∷ new.key ∷ []; class = class })
  added m class IsAs new is = record {
    table = new.table;
    key = new.key;
    entry = new.entry.entry;
    new = new.new;
    lacks = new.entry.lacks;
    there = new.entry.there;
    alike = is;
    move = new.move;
    for = refl;
  }

  pub of_new : (m : Move) → AddsNew h m → Begins h m
  of_new m new = by new.entry.alike
    where
      by : (new.new ≡ new.entry.entry) ⊎ IsSeed (rulebook h.ctx.now) h.goal.now new.table new.key new.entry.entry new.new → Begins h m
      by (inl is) = record { first = record { mv = m; place = new.table ∷ new.key ∷ []; class = 1 }; generated = (2, inr (inl (refl, (inr (added m 1 IsWhole new is), refl)))); move = refl }
      by (inr is) = record {
        first = record { mv = m; place = new.table ∷ new.key ∷ []; class = 4 };
        generated = (4, inr (inr (inr (inl (refl, (added m 4 (IsSeed (rulebook h.ctx.now) h.goal.now) new is, refl))))));
        move = refl;
      }

  pub of_towards : (m : Move) → IsTowards h.cur.now h.goal.now m → Begins h m
  of_towards m (inl is) = of_table m is
  of_towards m (inr (inl is)) = of_key m is
  of_towards m (inr (inr (inl is))) = of_field m is
  of_towards m (inr (inr (inr is))) = of_item m is

  -- ---- what is generated is one of them

  new_of : (g : Generated) (IsAs : SaysOfEntry)
      → ((t k : List ℕ) (e new : Entry) → IsAs t k e new → (new ≡ e) ⊎ IsSeed (rulebook h.ctx.now) h.goal.now t k e new)
      → AddsEntry IsAs h.cur.now h.goal.now g → AddsNew h g.mv
  new_of g IsAs alike is = record {
    table = is.table;
    key = is.key;
    new = is.new;
    entry = record { entry = is.entry; lacks = is.lacks; there = is.there; alike = alike is.table is.key is.entry is.new is.alike };
    move = is.move;
  }

  of_generator : (kind : ℕ) (g : Generated) → IsGenerated (rulebook h.ctx.now) h.cur.now h.goal.now kind g → IsSomeCase h g.mv
  of_generator kind g (inl is) = inl (inl is.1.0)
  of_generator kind g (inr (inl (k, (inl is, c)))) = inl (inr (inl is.0))
  of_generator kind g (inr (inl (k, (inr is, c)))) = inr (new_of g IsWhole (λ t k e new same. inl same) is)
  of_generator kind g (inr (inr (inl is))) = inl (inr (inr (inl is.1.0)))
  of_generator kind g (inr (inr (inr (inl is)))) =
      inr (new_of g (IsSeed (rulebook h.ctx.now) h.goal.now) (λ t k e new seed. inr seed) is.1.0)
  of_generator kind g (inr (inr (inr (inr is)))) = inl (inr (inr (inr is.1.0)))

  pub case_of : (m : Move) → Begins h m → IsSomeCase h m
  case_of m is = subst (IsSomeCase h) is.move (of_generator is.generated.0 is.first is.generated.1)
