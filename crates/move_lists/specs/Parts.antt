-- The list of moves in its seven parts: for each part the moves whose least rank lies in it. A part is a
-- tier, or the chains of tier 2 with one, two, three or more extensions.
use Rattle.std.specs.Prelude.{◌≡◌, ◌⊎◌, ◌<◌, ◌≤◌, ℕ, ◌+◌, List, [], ◌++◌, All, nat_le, if◌then◌else◌}
use Rattle.std.specs.List.{AllPairs, Contains}
use Rattle.std.specs.declared.cmp.Ordering.TheVariants.{Less}
use Rattle.conf_doc.specs.declared.configuration.Config.{Config}
use Rattle.move_core.specs.Listed.{AreListed, EndsChain, IsRanked, moves_of}
use Rattle.move_core.specs.ListedOrder.{listed_cmp}
use Rattle.move_core.specs.Rulebook.{Rulebook}
use Rattle.move_core.specs.declared.moves.Move.{Move}
use Rattle.move_core.specs.declared.moves.Ranked.{Ranked}

-- how many parts there are
abbrev pub part_count : ℕ
part_count = 7

-- the part in which a chain of that tier with that many extensions lies
abbrev pub chain_part : ℕ → ℕ → ℕ
chain_part tier depth =
    if nat_le tier 1 then tier
    else if nat_le tier 2 then (if nat_le depth 3 then 1 + depth else 5)
    else tier + 3

-- the part of a chain
abbrev pub part_of : Ranked → ℕ
part_of r = chain_part r.tier r.depth

-- a chain of a lesser part ends with the move
abbrev pub EndsEarlier : Rulebook → Config → Config → Config → ℕ → Move → Type 0
EndsEarlier book start cur goal part m =
    (s : Ranked) × EndsChain book start cur goal s × (s.mv ≡ m) × (part_of s < part)

-- the listed moves whose rank lies in the part, with their ranks, each once, in order
pub record AreRankedIn (book : Rulebook) (start cur goal : Config) (part : ℕ) (rs : List Ranked)
    : Type 0 where
  pub each : All (λ r. IsRanked book start cur goal r × (part_of r ≡ part)) rs
  pub all :
      (s : Ranked) → EndsChain book start cur goal s → part_of s ≡ part
      → Contains (moves_of rs) s.mv ⊎ EndsEarlier book start cur goal part s.mv
  pub order : AllPairs (λ r s. listed_cmp r s ≡ Less) rs

-- the listed moves of a part, each once, in order
abbrev pub AreListedIn : Rulebook → Config → Config → Config → ℕ → List Move → Type 0
AreListedIn book start cur goal part ms =
    (rs : List Ranked) × AreRankedIn book start cur goal part rs × (ms ≡ moves_of rs)

-- the listed moves whose rank lies in a part up to that one, with their ranks, each once, in order
pub record AreRankedTo (book : Rulebook) (start cur goal : Config) (part : ℕ) (rs : List Ranked)
    : Type 0 where
  pub each : All (λ r. IsRanked book start cur goal r × (part_of r ≤ part)) rs
  pub all :
      (s : Ranked) → EndsChain book start cur goal s → part_of s ≤ part
      → Contains (moves_of rs) s.mv
  pub order : AllPairs (λ r s. listed_cmp r s ≡ Less) rs

-- the listed moves up to a part, each once, in order
abbrev pub AreListedTo : Rulebook → Config → Config → Config → ℕ → List Move → Type 0
AreListedTo book start cur goal part ms =
    (rs : List Ranked) × AreRankedTo book start cur goal part rs × (ms ≡ moves_of rs)

-- the lists of the parts one after another are the list of moves
pub record PartsMakeTheList (book : Rulebook) (start cur goal : Config) : Type 0 where
  pub none : AreListedTo book start cur goal 0 []
  pub next :
      (part : ℕ) (done more : List Move) → AreListedTo book start cur goal part done
      → AreListedIn book start cur goal (part + 1) more
      → AreListedTo book start cur goal (part + 1) (done ++ more)
  pub whole :
      (ms : List Move) → AreListedTo book start cur goal part_count ms
      → AreListed book start cur goal ms
