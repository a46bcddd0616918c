-- What a search keeps true.
use Rattle.std.specs.Prelude.{◌≡◌, ◌≢◌, ◌⊎◌, ℕ, ◌+◌, ◌-◌, ◌≤◌, ◌<◌, List, [], ◌∷◌, ◌++◌, length, reverse, All}
use Rattle.std.specs.List.{AllPairs, Contains}
use Rattle.conf_doc.specs.declared.configuration.Config.{Config}
use Rattle.move_core.specs.Moves.{step}
use Rattle.move_core.specs.declared.moves.Move.{Move}
use Rattle.plan_search.specs.Problems.{Problem, IsAhead, IsPart, IsSimpleRoute, PrecedesLater, part_count}
use Rattle.plan_search.specs.Stacks.{Spot, IsTop, but_first, next_spot}
use Rattle.plan_search.specs.declared.searching.Found.{Found}
use Rattle.plan_search.specs.declared.searching.Found.TheVariants.{Goal, New, Nothing}

module _ (p : Problem) where
  -- ---- the stack

  -- the move is left to try there: in the rest of a part, or in a later part
  abbrev pub IsLeft : Spot → Move → Type 0
  IsLeft s m =
      Contains s.rest m ⊎ (p.IsListed s.config m × ¬ p.IsWithin s.config s.parts m)

  -- the move is left to try at the configuration
  abbrev pub Waits : List Spot → Config → Move → Type 0
  Waits [] c m = ⊥
  Waits (s ∷ ss) c m = ((s.config ≡ c) × IsLeft s m) ⊎ Waits ss c m

  -- a move was taken there that leads to a configuration, and stands before those that are left
  pub record IsTaken (s : Spot) (m : Move) (next : Config) : Type 0 where
    pub allowed : p.IsAllowed s.config m
    pub leads : next ≡ step s.config m
    pub first : (n : Move) → IsLeft s n → p.Precedes s.config m n

  -- the moves lead from start through the configurations
  abbrev pub IsTrail : List Spot → List Move → Type 0
  IsTrail [] ms = ms ≡ []
  IsTrail (s ∷ []) [] = s.config ≡ p.start
  IsTrail (s ∷ []) (m ∷ ms) = ⊥
  IsTrail (s ∷ t ∷ ss) [] = ⊥
  IsTrail (s ∷ t ∷ ss) (m ∷ ms) = IsTaken t m s.config × IsTrail (t ∷ ss) ms

  -- the configuration stands on the stack
  abbrev pub IsOn : List Spot → Config → Type 0
  IsOn [] c = ⊥
  IsOn (s ∷ ss) c = (s.config ≡ c) ⊎ IsOn ss c

  -- no configuration stands on it twice
  abbrev pub AreApart : List Spot → Type 0
  AreApart [] = Unit {0}
  AreApart (s ∷ ss) = ¬ IsOn ss s.config × AreApart ss

  -- moves can be asked for there, and those left of a part are listed, in order, before all later ones
  pub record IsAsked (s : Spot) : Type 0 where
    pub fit : p.IsFit s.config
    pub parts : s.parts ≤ part_count
    pub each : All (p.IsListed s.config) s.rest
    pub order : AllPairs (p.Precedes s.config) s.rest
    pub later : All (PrecedesLater p s.config s.parts) s.rest

  -- it is so at each configuration of the stack
  abbrev pub AreAsked : List Spot → Type 0
  AreAsked [] = Unit {0}
  AreAsked (s ∷ ss) = IsAsked s × AreAsked ss

  -- ---- what was met

  -- each configuration that was met is ahead of goal, and occurs once; start is among them
  pub record AreMet (met : List Config) : Type 0 where
    pub each : All (IsAhead p) met
    pub distinct : AllPairs (λ a b. a ≢ b) met
    pub first : Contains met p.start

  -- each allowed move at a configuration that was met leads to a known one or is left to try
  abbrev pub LeadsOn : List Config → List Config → List Spot → Type 0
  LeadsOn met known ss =
      (c : Config) (m : Move) → Contains met c → p.IsAllowed c m
      → Contains known (step c m) ⊎ Waits ss c m

  -- each allowed move at a configuration that was met leads to another
  abbrev pub IsClosed : List Config → Type 0
  IsClosed met =
      (c : Config) (m : Move) → Contains met c → p.IsAllowed c m → Contains met (step c m)

  -- ---- ways

  -- the way follows the trail to the spot, and its next move is left to try there
  abbrev pub AwaitsAt : Spot → List Move → List Move → Type 0
  AwaitsAt s ms way =
      (n : Move) × (rest : List Move) × (way ≡ reverse ms ++ n ∷ rest) × IsLeft s n

  -- it is so at some configuration of the stack
  abbrev pub Awaits : List Spot → List Move → List Move → Type 0
  Awaits [] ms way = ⊥
  Awaits (s ∷ ss) ms way = AwaitsAt s ms way ⊎ Awaits ss (but_first ms) way

  -- the way begins with the moves
  abbrev pub Begins : List Move → List Move → Type 0
  Begins ms way = (rest : List Move) × (way ≡ ms ++ rest)

  -- what some simple way leads to was met, or the way goes on where moves are left, or is another one
  abbrev pub WaysLead : (List Move → Type 0) → List Config → List Spot → List Move → Type 0
  WaysLead IsOther met ss ms =
      (way : List Move) (x : Config) → IsSimpleRoute p way x
      → Contains met x ⊎ (Awaits ss ms way ⊎ IsOther way)

  -- ---- the search

  -- the stack follows a trail of configurations that were met
  pub record IsStanding (met : List Config) (ss : List Spot) (ms : List Move) : Type 0 where
    pub trail : IsTrail ss ms
    pub asked : AreAsked ss
    pub apart : AreApart ss
    pub known : (c : Config) → IsOn ss c → Contains met c
    pub depth : length ss ≤ length met

  -- so it is, and what was met leads on
  pub record IsUnderWay (met : List Config) (ss : List Spot) (ms : List Move) : Type 0 where
    pub standing : IsStanding met ss ms
    pub on : LeadsOn met met ss
    pub ways : WaysLead (λ way. ⊥) met ss ms

  -- a move at the stack's last configuration leads to another
  abbrev pub IsTakenLast : List Spot → Move → Config → Type 0
  IsTakenLast [] m next = ⊥
  IsTakenLast (s ∷ ss) m next = IsTaken s m next

  -- the move is listed at the stack's last configuration and stands before those that are left there
  abbrev pub IsNextLast : List Spot → Move → Type 0
  IsNextLast [] m = ⊥
  IsNextLast (s ∷ ss) m =
      p.IsListed s.config m × ((n : Move) → IsLeft s n → p.Precedes s.config m n)

  -- it is under way but for a move at the stack's last configuration
  pub record IsTrying (met : List Config) (ss : List Spot) (ms : List Move) (mv : Move)
      : Type 0 where
    pub standing : IsStanding met ss ms
    pub next : IsNextLast ss mv
    pub on :
        (c : Config) (m : Move) → Contains met c → p.IsAllowed c m
        → (Contains met (step c m) ⊎ Waits ss c m) ⊎ (IsTop ss c × (m ≡ mv))
    pub ways : WaysLead (Begins (reverse (mv ∷ ms))) met ss ms

  -- the move leads to goal, and each other simple way goes on where moves are left
  pub record LeadsToGoal (met : List Config) (ss : List Spot) (ms : List Move) (mv : Move)
      : Type 0 where
    pub standing : IsStanding met ss ms
    pub taken : IsTakenLast ss mv p.goal
    pub ways : WaysLead (Begins (reverse (mv ∷ ms))) met ss ms

  -- the move leads to a configuration that wasn't met
  pub record LeadsToNew
      (met : List Config) (ss : List Spot) (ms : List Move) (mv : Move) (next : Config)
      : Type 0 where
    pub standing : IsStanding met ss ms
    pub taken : IsTakenLast ss mv next
    pub on : LeadsOn met (met ++ next ∷ []) ss
    pub ways : WaysLead (Begins (reverse (mv ∷ ms))) met ss ms
    pub other : next ≢ p.goal
    pub new : ¬ Contains met next
    pub fit : p.IsFit next

  -- what was found is so, and what was met then
  abbrev pub IsFound : List Config → List Config → List Spot → List Move → Found → Type 0
  IsFound old new ss ms (Goal mv) = (new ≡ old) × LeadsToGoal old ss ms mv
  IsFound old new ss ms (New mv next) = (new ≡ old ++ next ∷ []) × LeadsToNew old ss ms mv next
  IsFound old new ss ms Nothing = (new ≡ old) × IsClosed old

  -- nothing new was found yet, and nothing else was met
  abbrev pub IsStillUnderWay : List Config → List Config → List Spot → List Move → Type 0
  IsStillUnderWay old new ss ms = (new ≡ old) × IsUnderWay old ss ms

  -- it has the moves of one part more
  pub record IsFilled (s : Spot) (ss new : List Spot) : Type 0 where
    pub moves : List Move
    pub more : s.parts < part_count
    pub part : IsPart p s.config s.parts moves
    pub is : new ≡ next_spot s moves ∷ ss

  -- The last configuration has one part more, or where it has all of them, it was dropped.
  abbrev pub IsPassed : List Spot → List Move → List Spot → List Move → Type 0
  IsPassed [] ms new taken = ⊥
  IsPassed (s ∷ ss) ms new taken =
      ((s.parts ≡ part_count) × (new ≡ ss) × (taken ≡ but_first ms))
      ⊎ (IsFilled s ss new × (taken ≡ ms))

-- how many steps are left to pass the configurations of a stack
abbrev pub weight : List Spot → ℕ
weight [] = 0
weight (s ∷ ss) = part_count + 1 - s.parts + weight ss
