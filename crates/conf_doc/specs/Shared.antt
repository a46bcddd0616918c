-- The pairs that a list of pointers stands for.
use Rattle.std.specs.Prelude.{ℕ, List, map}
use Rattle.std.specs.declared.alloc.Global.{Global}
use Rattle.std.specs.declared.rc.Rc.{Rc}

-- the pair behind a pointer
abbrev pub pair_of : {A : Type 0} → Rc (List ℕ × A) Global → List ℕ × A
pair_of r = r.value

-- the pairs behind their pointers
abbrev pub pairs_of : {A : Type 0} → List (Rc (List ℕ × A) Global) → List (List ℕ × A)
pairs_of rs = map pair_of rs
