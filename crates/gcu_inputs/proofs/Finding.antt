-- How what the parts of a command find makes what the command finds.
use Rattle.std.proofs.Common.{◌≡◌, inl, inr, ℕ, List, subst, Option, Some, None, Result, Ok, Err, IfErr, IfSome}
use Rattle.host_core.specs.Answers.{FailsAs, Gives}
use Rattle.host_core.specs.Inputs.{input_of}
use Rattle.host_core.specs.Counts.{Counts}
use Rattle.host_core.specs.State.{State}
use Rattle.host_core.specs.declared.host_calls.Input.{Input}
use Rattle.patch_core.specs.Operation.{operations}
use Rattle.patch_core.specs.declared.patches.Patch.{Patch}
use Rattle.gcu_output.specs.declared.outcomes.Outcome.{Outcome}
use Rattle.gcu_output.specs.declared.outcomes.Outcome.TheVariants.{Done, Memory, Usage, InputFault, DiskFault, PrintFault, ServiceFault, Unorderable, Budget}
use Rattle.gcu_inputs.specs.PatchAsked.{patch_asked, patch_in, patch_limit}
use Rattle.gcu_inputs.specs.Asking.{Asking, follows_by, ◌>>>◌}
use Rattle.gcu_inputs.specs.Preparing.{FailsIn, Finds, Found, IsGiven, IsRightBy, Refuses, RefusesAlways, StandsIn, refusal}

-- a refusal that is right by itself is right of what is asked
pub refusal_is_right : {Y : Type 0} (o : Option Outcome) (asking : Asking Y) → IfSome o (λ e. asking.Gives (Err e))
    → FailsIn o asking
refusal_is_right None asking h = tt
refusal_is_right (Some e) asking h = h

-- ---- what is asked one after the other

pub stands_first : {X Y : Type 0} (first : Asking X) (next : X → Asking Y) (e : Outcome) → StandsIn first e
    → StandsIn (first >>> next) e
stands_first first next InputFault h = inl h
stands_first first next (DiskFault step) h = inl h
stands_first first next other h = tt

stands_next : {X Y : Type 0} (first : Asking X) (next : X → Asking Y) (x : X) (e : Outcome) → first.Gives (Ok x)
    → StandsIn (next x) e → StandsIn (first >>> next) e
stands_next first next x InputFault is h = inr (x, is, h)
stands_next first next x (DiskFault step) is h = inr (x, is, h)
stands_next first next x other is h = tt

pub fails_first : {X Y : Type 0} (first : Asking X) (next : X → Asking Y) (o : Option Outcome) → FailsIn o first
    → FailsIn o (first >>> next)
fails_first first next None h = tt
fails_first first next (Some e) h = inl h

fails_next : {X Y : Type 0} (first : Asking X) (next : X → Asking Y) (x : X) (o : Option Outcome) → first.Gives (Ok x)
    → FailsIn o (next x) → FailsIn o (first >>> next)
fails_next first next x None is h = tt
fails_next first next x (Some e) is h = inr (x, is, h)

-- a refusal of the first question is one of both
pub first_refused : {X Y Z W : Type 0} (view : X → Y) (view' : Z → W) (e : Outcome) (first : Asking Y) (next : Y → Asking W)
    → Found view (Err e) first → Found view' (Err e) (first >>> next)
first_refused view view' e first next h = record {
  gives = fails_first first next (refusal e) h.gives;
  stands = stands_first first next e h.stands;
}

found_next : {Y Z W : Type 0} (view' : Z → W) (y : Y) (r : Result Z Outcome) (first : Asking Y) (next : Y → Asking W)
    → first.Gives (Ok y) → Found view' r (next y) → Found view' r (first >>> next)
found_next view' y (Ok z) first next is h = record { gives = inr (y, is, h.gives); stands = tt }
found_next view' y (Err e) first next is h = record {
  gives = fails_next first next y (refusal e) is h.gives;
  stands = stands_next first next y e is h.stands;
}

-- what the second question finds at what the first one found
pub then_found : {X Y Z W : Type 0} (view : X → Y) (view' : Z → W) (x : X) (r : Result Z Outcome) (first : Asking Y) (next : Y → Asking W)
    → Found view (Ok x) first → Found view' r (next (view x)) → Found view' r (first >>> next)
then_found view view' x r first next h h' = found_next view' (view x) r first next h.gives h'

-- ---- one question

stands_anywhere : {Y : Type 0} (e : Outcome) (asking : Asking Y) → RefusesAlways e → StandsIn asking e
stands_anywhere InputFault asking never = absurd never
stands_anywhere (DiskFault step) asking never = absurd never
stands_anywhere other asking h = tt

always_stands : {X Y : Type 0} (r : Result X Outcome) (asking : Asking Y) → IfErr r RefusesAlways
    → IfErr r (StandsIn asking)
always_stands (Ok x) asking h = tt
always_stands (Err e) asking h = stands_anywhere e asking h

refused_here : (e : Outcome) (old new : Counts) → RefusesAlways e → Refuses old new e
refused_here Done old new never = absurd never
refused_here Usage old new never = absurd never
refused_here InputFault old new never = absurd never
refused_here (DiskFault step) old new never = absurd never
refused_here (PrintFault step) old new never = absurd never
refused_here (ServiceFault step service) old new never = absurd never
refused_here Unorderable old new never = absurd never
refused_here (Budget n) old new never = absurd never
refused_here other old new h = tt

-- what is refused always is refused here
pub always_refuses : {X : Type 0} (r : Result X Outcome) (old new : Counts) → IfErr r RefusesAlways
    → IfErr r (Refuses old new)
always_refuses (Ok x) old new h = tt
always_refuses (Err e) old new h = refused_here e old new h

fails_as : {Y : Type 0} (o : Option Outcome) (answer : Result Y Outcome) (asking : Asking Y)
    → ((q : Result Y Outcome) → answer ≡ q → asking.Gives q)
    → FailsAs o answer → FailsIn o asking
fails_as None answer asking right h = tt
fails_as (Some e) answer asking right h = right (Err e) h

given_as : {X Y : Type 0} (view : X → Y) (r : Result X Outcome) (answer : Result Y Outcome) (asking : Asking Y)
    → ((q : Result Y Outcome) → answer ≡ q → asking.Gives q) → Gives view refusal r answer → IsGiven view r asking
given_as view (Ok x) answer asking right h = right (Ok (view x)) h
given_as view (Err e) answer asking right h = fails_as (refusal e) answer asking right h

-- no fault is found with no call
pub found_always : {X Y : Type 0} (view : X → Y) (r : Result X Outcome) (answer : Result Y Outcome) (asking : Asking Y)
    → ((q : Result Y Outcome) → answer ≡ q → asking.Gives q) → Gives view refusal r answer → IfErr r RefusesAlways
    → Found view r asking
found_always view r answer asking right gives h = record {
  gives = given_as view r answer asking right gives;
  stands = always_stands r asking h;
}

-- what a relation tells is found with no call
pub found_told : {X Y : Type 0} (view : X → Y) (r : Result X Outcome) (Tells : Result Y Outcome → Type 0)
    → IsRightBy view r Tells → IfErr r RefusesAlways → Found view r (follows_by Tells)
found_told view r Tells gives h = record { gives = gives; stands = always_stands r (follows_by Tells) h }

-- want of memory says nothing
pub memory_found : {X Y : Type 0} (view : X → Y) (o : Option State) (asking : State → Asking Y)
    → Finds o view (Err Memory) asking
memory_found view None asking = tt
memory_found view (Some s) asking = record { gives = tt; stands = tt }

-- ---- the patch

-- what is found of the input decides the patch
pub found_input : (o : Option State) (path given : List ℕ) (found : Input) (r : Result Patch Outcome) → given ≡ path
    → IfSome o (λ s. found ≡ input_of s given patch_limit) → Gives operations refusal r (patch_in path found)
    → IfErr r RefusesAlways
    → Finds o operations r (patch_asked path)
found_input None path given found r same is gives h = tt
found_input (Some s) path given found r same is gives h =
    found_always operations r (patch_in path (input_of s path patch_limit)) (patch_asked path s) (λ q is. is)
    (subst (λ p. Gives operations refusal r (patch_in path (input_of s p patch_limit))) same
    (subst (λ i. Gives operations refusal r (patch_in path i)) is gives)) h
