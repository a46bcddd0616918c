-- How a reader builds a pattern from its tokens, one after another.
use Rattle.std.specs.Prelude.{ℕ, Bool, nat_lt, List, [], ◌∷◌, length, reverse, Option, Some, None, MatchOption, IsSomeAnd, ◌≡◌, option_map, option_and_then, if◌then◌else◌, ⊤}
use Rattle.yang_pattern.specs.declared.symbols.Quantifier.{Quantifier}
use Rattle.yang_pattern.specs.declared.symbols.Token.{Token}
use Rattle.yang_pattern.specs.declared.symbols.Token.TheVariants.{Open, Close, Bar, Times, Symbol}
use Rattle.yang_pattern.specs.declared.parts.Part.{Part}
use Rattle.yang_pattern.specs.declared.frames.Frame.{Frame}
use Rattle.yang_pattern.specs.declared.frames.Reader.{Reader}
use Rattle.yang_pattern.specs.Pattern.{Branches, one, or, Branch, none, followed, once, times, Atom, symbol, group}
use Rattle.yang_pattern.specs.Limits.{deepest_group}
use Rattle.yang_pattern.specs.Parts.{IsPatternPart, IsBranchPart, IsAtomPart}

-- what is read of a group: its closed branches, the open one, and an atom that a quantifier may follow
pub record Opened : Type 0 where
  pub choices : Option Branches
  pub branch : Branch
  pub last : Option Atom

-- what is read: the innermost group, and those round it from the inside
pub record Progress : Type 0 where
  pub current : Opened
  pub outer : List Opened

-- a group of which nothing is read
abbrev pub fresh : Opened
fresh = record { choices = None; branch = none; last = None }

-- a branch with the atom that no quantifier follows
abbrev pub settle : Branch → Option Atom → Branch
settle b None = b
settle b (Some a) = followed b (once a)

-- a branch behind others
abbrev pub join_branches : Option Branches → Branch → Branches
join_branches None b = one b
join_branches (Some bs) b = or bs b

-- the branches of a group that ends here
abbrev pub close : Opened → Branches
close o = join_branches o.choices (settle o.branch o.last)

-- one atom more
abbrev pub with_atom : Opened → Atom → Opened
with_atom o a = record { choices = o.choices; branch = settle o.branch o.last; last = Some a }

-- a branch ends
abbrev pub with_bar : Opened → Opened
with_bar o = record { choices = Some (close o); branch = none; last = None }

-- a quantifier behind an atom
abbrev pub quantify : Option Branches → Branch → Quantifier → Option Atom → Option Opened
quantify choices b q None = None
quantify choices b q (Some a) =
    Some (record { choices = choices; branch = followed b (times a q); last = None })

-- the same of a group
abbrev pub with_times : Opened → Quantifier → Option Opened
with_times o q = quantify o.choices o.branch q o.last

-- the end of a group
abbrev pub leave : Opened → List Opened → Option Progress
leave o [] = None
leave o (p ∷ outer) = Some (record { current = with_atom p (group (close o)); outer = outer })

-- the start of a group, where not too many are open
abbrev pub enter : Progress → Option Progress
enter s =
    if nat_lt (length s.outer) deepest_group
    then Some (record { current = fresh; outer = s.current ∷ s.outer })
    else None

-- one token
abbrev pub read : Token → Progress → Option Progress
read Open s = enter s
read Close s = leave s.current s.outer
read Bar s = Some (record { current = with_bar s.current; outer = s.outer })
read (Times q) s =
    option_map (λ o. record { current = o; outer = s.outer }) (with_times s.current q)
read (Symbol y) s = Some (record { current = with_atom s.current (symbol y); outer = s.outer })

-- the end of the tokens, where no group is open
abbrev pub finish : Opened → List Opened → Option Branches
finish o [] = Some (close o)
finish o (p ∷ outer) = None

-- all tokens
abbrev pub run : List Token → Progress → Option Branches
run [] s = finish s.current s.outer
run (t ∷ ts) s = option_and_then (λ n. run ts n) (read t s)

-- before the first token
abbrev pub start : Progress
start = record { current = fresh; outer = [] }

-- what the frames of the reader stand for: branches
abbrev pub AreChoices : (ℕ → ℕ → Bool) → Option Part → Option Branches → Type 0
AreChoices r None None = ⊤
AreChoices r None (Some bs) = ⊥
AreChoices r (Some part) None = ⊥
AreChoices r (Some part) (Some bs) = IsPatternPart r part bs

-- an atom
abbrev pub IsLast : (ℕ → ℕ → Bool) → Option Part → Option Atom → Type 0
IsLast r None None = ⊤
IsLast r None (Some a) = ⊥
IsLast r (Some part) None = ⊥
IsLast r (Some part) (Some a) = IsAtomPart r part a

-- a group
pub record IsFrame (r : ℕ → ℕ → Bool) (frame : Frame) (o : Opened) : Type 0 where
  pub choices : AreChoices r frame.choices o.choices
  pub branch : IsBranchPart r frame.branch o.branch
  pub last : IsLast r frame.last o.last

-- groups
abbrev pub AreFrames : (ℕ → ℕ → Bool) → List Frame → List Opened → Type 0
AreFrames r [] [] = ⊤
AreFrames r [] (o ∷ os) = ⊥
AreFrames r (f ∷ fs) [] = ⊥
AreFrames r (f ∷ fs) (o ∷ os) = IsFrame r f o × AreFrames r fs os

-- all that is read
pub record IsReader (r : ℕ → ℕ → Bool) (reader : Reader) (s : Progress) : Type 0 where
  pub current : IsFrame r reader.current s.current
  pub outer : AreFrames r (reverse reader.outer.items) s.outer

-- a frame goes on as a step of what is read of its group does, and stops where that stops
abbrev pub FrameFollows : Frame → (Opened → Option Opened) → Option Frame → Type 0
FrameFollows frame step found =
    MatchOption found
    ((r : ℕ → ℕ → Bool) (o : Opened) → IsFrame r frame o → step o ≡ None)
    (λ next. (r : ℕ → ℕ → Bool) (o : Opened) → IsFrame r frame o
    → IsSomeAnd (step o) (λ n. IsFrame r next n))

-- a reader goes on as a step of what is read does, and stops where that stops
abbrev pub ReaderFollows : Reader → (Progress → Option Progress) → Option Reader → Type 0
ReaderFollows reader step found =
    MatchOption found
    ((r : ℕ → ℕ → Bool) (s : Progress) → IsReader r reader s → step s ≡ None)
    (λ next. (r : ℕ → ℕ → Bool) (s : Progress) → IsReader r reader s
    → IsSomeAnd (step s) (λ n. IsReader r next n))
