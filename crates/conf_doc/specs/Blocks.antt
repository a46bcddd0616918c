-- Blocks of a table: some entries that stand beside one another, with one text.
use Rattle.std.specs.Prelude.{◌≡◌, ◌<◌, ◌≤◌, ◌+◌, ℕ, List, drop, length, map, slice_get, take, Some}
use Rattle.std.specs.List.{All}
use Rattle.conf_doc.specs.Joined.{IsJoined, bare, segment}
use Rattle.conf_doc.specs.declared.blocks.Block.{Block}
use Rattle.conf_doc.specs.declared.blocks.PlacedBlock.{PlacedBlock}
use Rattle.conf_doc.specs.declared.configuration.Entry.{Entry}

-- from that index on so many entries have that text, and their keys that of keys
pub record IsBlock (es : List (List ℕ × Entry)) (start : ℕ) (b : Block) : Type 0 where
  pub within : start + b.count ≤ length es
  pub keyed : IsJoined (bare (segment start b.count es)) b.keys
  pub joined : IsJoined (segment start b.count es) b.text

-- each block is one of those entries, where it says
abbrev pub AreBlocks : List (List ℕ × Entry) → List PlacedBlock → Type 0
AreBlocks es bs = All (λ b. IsBlock es b.start b.block.value) bs

-- a change of a list at an index: so many items are gone there, and so many have come
pub record IsEdited {A : Type 0} (at gone come : ℕ) (old new : List A) : Type 0 where
  pub front : take at new ≡ take at old
  pub behind : drop (at + come) new ≡ drop (at + gone) old
  pub left : at + gone ≤ length old
  pub there : at + come ≤ length new

-- from an index of each on so many items are the same in both
pub record AreSame {A : Type 0} (xs : List A) (i : ℕ) (ys : List A) (j : ℕ) (n : ℕ) : Type 0 where
  pub within : i + n ≤ length xs
  pub beside : j + n ≤ length ys
  pub same : (k : ℕ) → k < n → slice_get xs (i + k) ≡ slice_get ys (j + k)

-- the keys of entries
abbrev pub keys_of : {A : Type 0} → List (List ℕ × A) → List (List ℕ)
keys_of es = map (λ e. e.0) es

-- the items at the two indices differ, or a list ends
abbrev pub AreApart : {A : Type 0} → List A → ℕ → List A → ℕ → Type 0
AreApart {A} xs i ys j = (x : A) → slice_get xs i ≡ Some x → ¬ (slice_get ys j ≡ Some x)
