-- What the parts of a command give before anything is printed.
use Rattle.std.specs.Prelude.{◌≡◌, List, [], ◌∷◌, Option, Some, None, Result, Ok, Err, IfErr, IfSome, ⊤}
use Rattle.host_core.specs.Counts.{Counts, Rose}
use Rattle.host_core.specs.State.{State}
use Rattle.gcu_output.specs.declared.outcomes.Outcome.{Outcome}
use Rattle.gcu_output.specs.declared.outcomes.Outcome.TheVariants.{Done, Memory, Usage, InputFault, DiskFault, PrintFault, ServiceFault, Unorderable, Budget}
use Rattle.gcu_inputs.specs.Asking.{Asking, an_input, a_file, follows_by}

-- the refusal that is asked for, or None for an answer with another cause
abbrev pub refusal : Outcome → Option Outcome
refusal Done = None
refusal Memory = None
refusal InputFault = None
refusal (DiskFault step) = None
refusal (PrintFault step) = None
refusal (ServiceFault step service) = None
refusal Unorderable = None
refusal (Budget n) = None
refusal other = Some other

-- a call of the kind that the fault is of is made
abbrev pub StandsIn : {Y : Type 0} → Asking Y → Outcome → Type 0
StandsIn asking InputFault = asking.Reads an_input
StandsIn asking (DiskFault step) = asking.Reads a_file
StandsIn asking other = ⊤

-- a refusal that is right, where one is told
abbrev pub FailsIn : {Y : Type 0} → Option Outcome → Asking Y → Type 0
FailsIn None asking = ⊤
FailsIn (Some e) asking = asking.Gives (Err e)

-- what was returned, its value seen by view, is right
abbrev pub IsGiven : {X Y : Type 0} → (X → Y) → Result X Outcome → Asking Y → Type 0
IsGiven view (Ok x) asking = asking.Gives (Ok (view x))
IsGiven view (Err e) asking = FailsIn (refusal e) asking

-- for want of memory, a fault with its cause, or a refusal of what was given
abbrev pub Refuses : Counts → Counts → Outcome → Type 0
Refuses old new Done = ⊥
Refuses old new Usage = ⊥
Refuses old new InputFault = Rose old.input new.input
Refuses old new (DiskFault step) = (step ≡ 0) × Rose old.disk new.disk
Refuses old new (PrintFault step) = ⊥
Refuses old new (ServiceFault step service) = ⊥
Refuses old new Unorderable = ⊥
Refuses old new (Budget n) = ⊥
Refuses old new other = ⊤

-- the same, with no fault among the causes
abbrev pub RefusesAlways : Outcome → Type 0
RefusesAlways Done = ⊥
RefusesAlways Usage = ⊥
RefusesAlways InputFault = ⊥
RefusesAlways (DiskFault step) = ⊥
RefusesAlways (PrintFault step) = ⊥
RefusesAlways (ServiceFault step service) = ⊥
RefusesAlways Unorderable = ⊥
RefusesAlways (Budget n) = ⊥
RefusesAlways other = ⊤

-- the same of a relation that tells what is right
abbrev pub IsRightBy : {X Y : Type 0} → (X → Y) → Result X Outcome
    → (Result Y Outcome → Type 0) → Type 0
IsRightBy view result Tells = IsGiven view result (follows_by Tells)

-- what was found or refused is what is asked, and a fault is of a call that is made
pub record Found {X Y : Type 0} (view : X → Y) (result : Result X Outcome) (asking : Asking Y)
    : Type 0 where
  pub gives : IsGiven view result asking
  pub stands : IfErr result (StandsIn asking)

-- the same of a host that tells its state
abbrev pub Finds : {X Y : Type 0} → Option State → (X → Y) → Result X Outcome
    → (State → Asking Y) → Type 0
Finds told view result asking = IfSome told (λ s. Found view result (asking s))

-- item after item, what was found of it, seen by view, is what is asked of it
abbrev pub AreFound : {X Y V : Type 0} → (V → Y) → (X → Asking Y) → List X → List V → Type 0
AreFound view ask [] [] = ⊤
AreFound view ask [] (v ∷ vs) = ⊥
AreFound view ask (x ∷ xs) [] = ⊥
AreFound view ask (x ∷ xs) (v ∷ vs) = (ask x).Gives (Ok (view v)) × AreFound view ask xs vs
