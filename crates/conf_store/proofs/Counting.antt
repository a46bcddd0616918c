-- The disk count through one call after another, and what holds of every fault.
use Rattle.std.specs.Prelude.{OnErr}
use Rattle.std.proofs.Common.{Result, Ok, Err, ◌≡◌, ◌<◌, inl, inr, ⊎_elim, ap, ◌∙◌, arith}
use Rattle.host_core.specs.Counts.{Counts, Rose, DiskMayRise, last_count}

pub rises_on : (a b c : Counts) → DiskMayRise a b → DiskMayRise b c → DiskMayRise a c
rises_on a b c first second =
    let at_b : b.disk ≡ first.0 = ap (λ (x : Counts). x.disk) first.2 in
    (second.0, omega (arith, first.1, second.1, at_b), second.2 ∙ ap (λ (x : Counts). record x { disk = second.0 }) first.2)

-- a rise in the second is one in both
pub rose_later : (a b c : Counts) → DiskMayRise a b → Rose b.disk c.disk → Rose a.disk c.disk
rose_later a b c first rose =
    let at_b : b.disk ≡ first.0 = ap (λ (x : Counts). x.disk) first.2 in
    ⊎_elim (λ (more : b.disk < c.disk). inl (omega (arith, first.1, at_b, more))) (λ (last : c.disk ≡ last_count). inr last) rose

-- what holds anyway holds of a fault
pub on_err : {T E P : Type 0} (r : Result T E) → P → OnErr r P
on_err (Ok x) p = tt
on_err (Err e) p = p

-- nothing rose yet
pub stays : (a : Counts) → DiskMayRise a a
stays a = (a.disk, omega arith, λ i. a)
