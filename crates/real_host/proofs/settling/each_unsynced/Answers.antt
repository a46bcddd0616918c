use Rattle.std.proofs.Common.{ℕ, List, [], ◌∷◌, refl, subst, Bor}
use Rattle.std.proofs.lemmas.Fn.{called_at}
use Rattle.std.specs.Fn.{CalledAt}
use Rattle.std.specs.Prelude.{Result, Ok, Err, OnErr}
use Rattle.host_core.specs.declared.errors.Failed.{Failed}
use Rattle.real_host.specs.Calls.{AnyFails}
use Rattle.real_host.proofs.settling.each_unsynced.Goals as goal
use denote.Param.Members.{Mut}

-- where there is one name, its call is the one that failed
fails_alone : {C : Type 0} (calls : Mut C (Bor (List ℕ) × Unit {0}) (Result (Unit {0}) Failed)) (call : C) (name : List ℕ) (r : Result (Unit {0}) Failed) (last : C) → CalledAt calls call name r last → OnErr r (AnyFails calls call (name ∷ []))
fails_alone calls call name (Ok x) last called = tt
fails_alone calls call name (Err e) last called = ([], name, [], call, last, refl, refl, called)

pub returns-in-Only-clause-failed : goal.returns-in-Only-clause-failed
returns-in-Only-clause-failed g c =
    let called = subst (λ x. CalledAt g.F.FnMut c.args.call x c.call.result c.call.new.self) c.as_str.ensures.value (called_at g.F.FnMut c.call.ensures refl) in
    rw c.in-Only.is (fails_alone g.F.FnMut c.args.call c.in-Only.file.bytes c.call.result c.call.new.self called)
