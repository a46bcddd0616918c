-- The list of moves at a configuration: the ends of all chains, each once, in order.
use Rattle.std.specs.Prelude.{◌≡◌, ◌≢◌, ℕ, zero, suc, List, [], ◌∷◌, map, All}
use Rattle.std.specs.Option.{option_map_or}
use Rattle.std.specs.List.{AllPairs, Contains}
use Rattle.std.specs.declared.cmp.Ordering.TheVariants.{Less, Greater}
use Rattle.conf_doc.specs.declared.configuration.Config.{Config}
use Rattle.move_core.specs.Extensions.{IsExtension}
use Rattle.move_core.specs.Generated.{IsGenerated, IsRestoring, field_class, item_class, key_class, table_class}
use Rattle.move_core.specs.ListedOrder.{rank_cmp, listed_cmp}
use Rattle.move_core.specs.Moves.{Place, index, place}
use Rattle.move_core.specs.Rulebook.{Rulebook}
use Rattle.move_core.specs.declared.moves.Generated.{Generated}
use Rattle.move_core.specs.declared.moves.Move.{Move}
use Rattle.move_core.specs.declared.moves.Move.TheVariants.{Add, Remove, Replace, AddItem, RemoveItem}
use Rattle.move_core.specs.declared.moves.Ranked.{Ranked}

-- ---- chains

-- some generator gives it
abbrev pub IsGeneratedMove : Rulebook → Config → Config → Generated → Type 0
IsGeneratedMove book cur goal g = (kind : ℕ) × IsGenerated book cur goal kind g

-- some extender gives it
abbrev pub Extends : Rulebook → Config → Config → Move → Move → Type 0
Extends book cur goal m x = (kind : ℕ) × IsExtension book cur goal kind m x

-- that many extensions, one after another, lead from a move to another
abbrev pub LeadsTo : Rulebook → Config → Config → Move → ℕ → Move → Type 0
LeadsTo book cur goal m zero x = x ≡ m
LeadsTo book cur goal m (suc n) x =
    (y : Move) × LeadsTo book cur goal m n y × Extends book cur goal y x

-- a generated move followed by some extensions ends with the move
pub record IsListed (book : Rulebook) (cur goal : Config) (m : Move) : Type 0 where
  pub first : Generated
  pub depth : ℕ
  pub generated : IsGeneratedMove book cur goal first
  pub leads : LeadsTo book cur goal first.mv depth m

-- ---- tiers and classes

-- a generated move that restores: alone, and extended
abbrev pub restoring_tier : ℕ → ℕ
restoring_tier zero = 3
restoring_tier (suc n) = 4

-- any other generated move: alone, and extended where it is a Remove or a Replace, or an Add
abbrev pub other_tier : Move → ℕ → ℕ
other_tier m zero = 1
other_tier (Add p part) (suc n) = 4
other_tier (Remove p) (suc n) = 2
other_tier (Replace p part) (suc n) = 2
other_tier (AddItem p i text) (suc n) = 4
other_tier (RemoveItem p i) (suc n) = 2

-- the tier of a chain, by its generated move and its number of extensions
pub record HasTier (start goal : Config) (first : Generated) (depth tier : ℕ) : Type 0 where
  pub restoring : IsRestoring start goal first → tier ≡ restoring_tier depth
  pub other : ¬ IsRestoring start goal first → tier ≡ other_tier first.mv depth

-- a table, a key or a field, by the names of the place
abbrev pub names_class : Place → ℕ
names_class [] = table_class
names_class (t ∷ []) = table_class
names_class (t ∷ k ∷ []) = key_class
names_class (t ∷ k ∷ f ∷ names) = field_class

-- an item, or else by the names of the place
abbrev pub place_class : Move → ℕ
place_class m = option_map_or (λ _. item_class) (index m) (names_class (place m))

-- the class of a generated move is that of its generator, of an extended one that of its place
abbrev pub chain_class : Generated → ℕ → Move → ℕ
chain_class first zero m = first.class
chain_class first (suc n) m = place_class m

-- ---- ranks

-- a chain ends with the move and has its triple
pub record EndsChain (book : Rulebook) (start cur goal : Config) (r : Ranked) : Type 0 where
  pub first : Generated
  pub generated : IsGeneratedMove book cur goal first
  pub leads : LeadsTo book cur goal first.mv r.depth r.mv
  pub tier : HasTier start goal first r.depth r.tier
  pub class : r.class ≡ chain_class first r.depth r.mv

-- a listed move with its rank: the least triple of the chains that end with it
pub record IsRanked (book : Rulebook) (start cur goal : Config) (r : Ranked) : Type 0 where
  pub ends : EndsChain book start cur goal r
  pub least :
      (s : Ranked) → s.mv ≡ r.mv → EndsChain book start cur goal s → rank_cmp r s ≢ Greater

-- ---- the list

-- the moves of ranked ones
abbrev pub moves_of : List Ranked → List Move
moves_of rs = map (λ r. r.mv) rs

-- all listed moves with their ranks, each once, in order
pub record AreRanked (book : Rulebook) (start cur goal : Config) (rs : List Ranked) : Type 0 where
  pub each : All (IsRanked book start cur goal) rs
  pub all : (m : Move) → IsListed book cur goal m → Contains (moves_of rs) m
  pub order : AllPairs (λ r s. listed_cmp r s ≡ Less) rs

-- all listed moves, each once, in order
abbrev pub AreListed : Rulebook → Config → Config → Config → List Move → Type 0
AreListed book start cur goal ms =
    (rs : List Ranked) × AreRanked book start cur goal rs × (ms ≡ moves_of rs)
