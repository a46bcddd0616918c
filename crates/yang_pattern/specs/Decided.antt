-- What a function can tell.
use Rattle.std.specs.Prelude.{◌↔◌, IsTrue, Bool}

-- there is a function that tells the values of which something holds from the others
pub record IsDecided {X : Type 0} (Holds : X → Type 0) : Type 0 where
  pub test : X → Bool
  pub tells : (x : X) → IsTrue (test x) ↔ Holds x
