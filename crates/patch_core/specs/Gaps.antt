-- Nodes with a child taken out.
use Rattle.std.specs.Prelude.{◌≡◌, ℕ, suc, ◌+◌, ◌<◌, ◌≤◌, max, List, length, slice_set, IsSome}
use Rattle.conf_doc.specs.Document.{Document, list, object, items_of, members_of, weight, depth}
use Rattle.conf_doc.specs.Pairs.{find, put}
use Rattle.patch_core.specs.Apply.{with_below}
use Rattle.patch_core.specs.declared.gaps.Gap.{Gap}
use Rattle.patch_core.specs.declared.gaps.Gap.TheVariants.{Item, Member}

-- the node with a child in the gap
abbrev pub fill : Gap → List ℕ → Document → Document
fill (Item ds i) token d = list (items_of (slice_set ds i d))
fill (Member ms) token d = object (members_of (put token d ms))

-- there is a child to put another in its stead
abbrev pub CanClose : Gap → List ℕ → Type 0
CanClose (Item ds i) token = i < length ds
CanClose (Member ms) token = IsSome (find token ms)

-- a gap of the node where the token leads to the child, with what another child there does to
-- weight and depth
pub record IsGap (gap : Gap) (token : List ℕ) (node child : Document) : Type 0 where
  pub closes : CanClose gap token
  pub fills : (d : Document) → fill gap token d ≡ with_below token d node
  pub weighs : (d : Document) → weight (fill gap token d) + weight child ≡ weight node + weight d
  pub part : weight child ≤ weight node
  pub deep : (d : Document) → depth (fill gap token d) ≤ max (depth node) (suc (depth d))
  pub reaches : (d : Document) → suc (depth d) ≤ depth (fill gap token d)
  pub below : suc (depth child) ≤ depth node
