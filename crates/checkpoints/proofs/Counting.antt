-- The disk count through one call after another.
use Rattle.std.proofs.Common.{◌≡◌, ◌<◌, Err, inl, inr, ⊎_elim, ap, ◌∙◌, arith}
use Rattle.std.specs.Prelude.{IsErrOf}
use Rattle.host_core.specs.Counts.{Counts, Rose, DiskMayRise, last_count}

pub stays : (a : Counts) → DiskMayRise a a
stays a = (a.disk, omega arith, λ i. a)

pub rises_on : (a b c : Counts) → DiskMayRise a b → DiskMayRise b c → DiskMayRise a c
rises_on a b c first second =
    let at_b : b.disk ≡ first.0 = ap (λ (x : Counts). x.disk) first.2 in
    (second.0, omega (arith, first.1, second.1, at_b), second.2 ∙ ap (λ (x : Counts). record x { disk = second.0 }) first.2)

-- the same error of another call
pub err_too : {A B E : Type 0} (e d : E) → IsErrOf {T = A} (Err e) d → IsErrOf {T = B} (Err e) d
err_too e d is = let same : e ≡ d = cc in ap (λ x. Err x) same

-- a rise in the second is one in both
pub rose_later : (a b c : Counts) → DiskMayRise a b → Rose b.disk c.disk → Rose a.disk c.disk
rose_later a b c first rose =
    let at_b : b.disk ≡ first.0 = ap (λ (x : Counts). x.disk) first.2 in
    ⊎_elim (λ (more : b.disk < c.disk). inl (omega (arith, first.1, at_b, more))) (λ (last : c.disk ≡ last_count). inr last) rose
