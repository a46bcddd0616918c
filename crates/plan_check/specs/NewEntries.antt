-- Entries of goal that cur lacks, and what of them is added.
use Rattle.std.specs.Prelude.{◌≡◌, ◌⊎◌, ℕ, List, [], ◌∷◌, Some}
use Rattle.conf_doc.specs.Changes.{part_at}
use Rattle.conf_doc.specs.Pairs.{find}
use Rattle.conf_doc.specs.declared.configuration.Entry.{Entry}
use Rattle.conf_doc.specs.declared.configuration.Value.{Value}
use Rattle.conf_doc.specs.declared.parts.Part.TheVariants as part
use Rattle.move_core.specs.Contexts.{rulebook}
use Rattle.move_core.specs.Generated.{HasNoWant, IsSeed, added_entry}
use Rattle.move_core.specs.Moves.{Lacks}
use Rattle.move_core.specs.declared.moves.Move.{Move}
use Rattle.plan_check.specs.declared.here.Here.{Here}
use Rattle.plan_check.specs.declared.seeds.Whole.{Whole}

-- a field of goal's entry has no want
abbrev pub IsFree : Here → Whole → List ℕ → Type 0
IsFree h w f = HasNoWant (rulebook h.ctx.now) h.goal.now (w.table.now ∷ w.key.now ∷ f ∷ [])

-- the other entry has the field's value, unless it has a want
abbrev pub HasIfFree : Here → Whole → List ℕ → Value → Entry → Type 0
HasIfFree h w f v new = IsFree h w f → find f new ≡ Some v

-- goal's entry has the field's value, and it has no want
abbrev pub IsFreeField : Here → Whole → List ℕ → Value → Type 0
IsFreeField h w f v = (find f w.entry.now ≡ Some v) × IsFree h w f

-- each field without a want is in the other entry
abbrev pub HasFree : Here → Whole → Entry → Type 0
HasFree h w new =
    (f : List ℕ) (v : Value) → find f w.entry.now ≡ Some v → HasIfFree h w f v new

-- the other one has only such fields
abbrev pub HasOnlyFree : Here → Whole → Entry → Type 0
HasOnlyFree h w new = (f : List ℕ) (v : Value) → find f new ≡ Some v → IsFreeField h w f v

-- it is the seed
abbrev pub IsSeedOf : Here → Whole → Entry → Type 0
IsSeedOf h w new =
    IsSeed (rulebook h.ctx.now) h.goal.now w.table.now w.key.now w.entry.now new

-- it is the entry, or its seed
abbrev pub IsAlike : Here → Whole → Entry → Type 0
IsAlike h w new = (new ≡ w.entry.now) ⊎ IsSeedOf h w new

-- cur lacks the entry, and goal has it or one of which it is the seed
pub record IsNew (h : Here) (t k : List ℕ) (new : Entry) : Type 0 where
  pub entry : Entry
  pub lacks : Lacks h.cur.now (t ∷ k ∷ [])
  pub there : part_at h.goal.now (t ∷ k ∷ []) ≡ Some (part.Entry entry)
  pub alike : (new ≡ entry) ⊎ IsSeed (rulebook h.ctx.now) h.goal.now t k entry new

-- such an entry is added
pub record AddsNew (h : Here) (m : Move) : Type 0 where
  pub table : List ℕ
  pub key : List ℕ
  pub new : Entry
  pub entry : IsNew h table key new
  pub move : m ≡ added_entry h.cur.now table key new
