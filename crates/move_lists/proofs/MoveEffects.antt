-- What a generated move leaves at its place, which tells of goal there.
use Rattle.std.proofs.Common.{◌≡◌, inl, inr, ℕ, Bool, true, false, if◌then◌else◌, length, List, [], ◌∷◌, None, is_some, All, refl, sym, ap, ◌∙◌, arith}
use Rattle.conf_doc.specs.Changes.{part_at}
use Rattle.conf_doc.specs.Pairs.{find}
use Rattle.conf_doc.specs.declared.configuration.Config.{Config}
use Rattle.conf_doc.specs.declared.configuration.Entry.{Entry}
use Rattle.conf_doc.specs.declared.parts.Part.TheVariants as part
use Rattle.move_core.specs.Generated.{AddsEntry, IsFieldMove, IsForItsPlace, IsItemMove, IsKeyRemove, IsTableMove, SaysOfEntry}
use Rattle.move_core.specs.Listed.{IsGeneratedMove}
use Rattle.move_core.specs.Moves.{index, new_part, place}
use Rattle.move_core.specs.Rulebook.{Rulebook}
use Rattle.move_core.specs.declared.moves.Generated.{Generated}
use Rattle.move_core.specs.declared.moves.Move.{Move}
use Rattle.move_core.specs.declared.moves.Move.TheVariants.{Add, Remove, Replace, AddItem, RemoveItem}
use Rattle.move_lists.specs.Firsts.{LeavesGoals}

-- an entry that is added leaves something, be it alone or in a table
adds_some : (has : Bool) (t k : List ℕ) (e : Entry) → is_some (new_part (if has then Add (t ∷ k ∷ []) (part.Entry e) else Add (t ∷ []) (part.Table ((k, e) ∷ [])))) ≡ true
adds_some true t k e = refl
adds_some false t k e = refl

module _ (cur goal : Config) where
  -- what a move of a table, of a key or of a field leaves at its own place is goal's
  by_table : (m : Move) → IsTableMove cur goal m → part_at goal (place m) ≡ new_part m
  by_table (Add p x) is = is.2
  by_table (Remove p) is = is.2
  by_table (Replace p x) is = absurd is
  by_table (AddItem p i x) is = absurd is
  by_table (RemoveItem p i) is = absurd is

  by_key : (m : Move) → IsKeyRemove cur goal m → part_at goal (place m) ≡ new_part m
  by_key (Add p x) is = absurd is
  by_key (Remove p) is = is.2
  by_key (Replace p x) is = absurd is
  by_key (AddItem p i x) is = absurd is
  by_key (RemoveItem p i) is = absurd is

  by_field : (m : Move) → IsFieldMove cur goal m → part_at goal (place m) ≡ new_part m
  by_field (Add p x) is = is.3
  by_field (Remove p) is = is.3
  by_field (Replace p x) is = is.2
  by_field (AddItem p i x) is = absurd is
  by_field (RemoveItem p i) is = absurd is

  -- a move of an item has an index
  has_index : (m : Move) → IsItemMove cur goal m → index m ≡ None → ⊥
  has_index (Add p x) is none = is
  has_index (Remove p) is none = is
  has_index (Replace p x) is none = is
  has_index (AddItem p i x) is none = cc
  has_index (RemoveItem p i) is none = cc

  at_own : (g : Generated) → IsForItsPlace g → part_at goal (place g.mv) ≡ new_part g.mv → LeavesGoals goal g
  at_own g own leaves =
      let same : part_at goal g.place ≡ new_part g.mv = ap (part_at goal) own ∙ leaves in
      record { field = λ long none. same; entry = λ long none. ap is_some same }

  -- one that adds an entry is for a place of two names, and leaves something
  by_entry : (IsAs : SaysOfEntry) (g : Generated) → AddsEntry IsAs cur goal g → LeavesGoals goal g
  by_entry IsAs g is = record {
    field = λ long none. absurd (let e = ap length is.for in omega (arith, long, e));
    entry = λ long none.
        ap (λ p. is_some (part_at goal p)) is.for ∙ ap is_some is.there
        ∙ sym (ap (λ m. is_some (new_part m)) is.move ∙ adds_some (is_some (find is.table cur)) is.table is.key is.new);
  }

  -- one of an item has an index
  by_item : (g : Generated) → IsItemMove cur goal g.mv → LeavesGoals goal g
  by_item g is = record {
    field = λ long none. absurd (has_index g.mv is none);
    entry = λ long none. absurd (has_index g.mv is none);
  }

  pub leaves_goals : (book : Rulebook) (g : Generated) → IsGeneratedMove book cur goal g → LeavesGoals goal g
  leaves_goals book g (kind, inl h) = at_own g h.1.1 (by_table g.mv h.1.0)
  leaves_goals book g (kind, inr (inl (k, (inl h, c)))) = at_own g h.1 (by_key g.mv h.0)
  leaves_goals book g (kind, inr (inl (k, (inr h, c)))) = by_entry _ g h
  leaves_goals book g (kind, inr (inr (inl h))) = at_own g h.1.1 (by_field g.mv h.1.0)
  leaves_goals book g (kind, inr (inr (inr (inl h)))) = by_entry _ g h.1.0
  leaves_goals book g (kind, inr (inr (inr (inr h)))) = by_item g h.1.0

  pub all_leave_goals : (book : Rulebook) (gs : List Generated) → All (IsGeneratedMove book cur goal) gs → All (LeavesGoals goal) gs
  all_leave_goals book gs each = λ k d lt. leaves_goals book _ (each k d lt)
