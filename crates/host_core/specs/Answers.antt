-- Answers that a fault may stand in the place of: how they are made of one another, and how a contract
-- says that a call gives a stated one.
use Rattle.std.specs.Prelude.{◌≡◌, Option, Some, None, Result, Ok, Err}

infixl 10 ◌>>=◌
-- what f makes of the value, or the fault before it
abbrev pub ◌>>=◌ : {A B F : Type 0} → Result A F → (A → Result B F) → Result B F
(Ok a) >>= f = f a
(Err e) >>= f = Err e

-- the same with an f that has no fault of its own
abbrev pub map_ok : {A B F : Type 0} → (A → B) → Result A F → Result B F
map_ok f (Ok a) = Ok (f a)
map_ok f (Err e) = Err e

-- what f makes of two values, or the first fault of the two
abbrev pub both : {A B C F : Type 0} → (A → B → C) → Result A F → Result B F → Result C F
both f (Ok a) (Ok b) = Ok (f a b)
both f (Ok a) (Err e) = Err e
both f (Err e) second = Err e

-- a fault that stands in no place of the answer is want of memory, of which nothing is said
abbrev pub FailsAs : {Y F : Type 0} → Option F → Result Y F → Type 0
FailsAs None answer = Unit {0}
FailsAs (Some f) answer = answer ≡ Err f

-- what was returned, its value seen by view and its error by fault, is the answer, unless memory was wanting
abbrev pub Gives : {X Y E F : Type 0} → (X → Y) → (E → Option F) → Result X E → Result Y F → Type 0
Gives view fault (Ok x) answer = answer ≡ Ok (view x)
Gives view fault (Err e) answer = FailsAs (fault e) answer
