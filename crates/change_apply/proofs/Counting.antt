-- The counts of a change through one call after another.
use Rattle.std.proofs.Common.{◌≡◌, ◌<◌, ◌≤◌, ℕ, inl, inr, ⊎_elim, ap, ◌∙◌, arith}
use Rattle.host_core.specs.Counts.{Counts, DiskMayRise, PrintMayRise, Rose, ServiceMayRise, last_count}
use Rattle.change_apply.specs.Ends.{HasCause, MayRise}
use Rattle.change_apply.specs.declared.errors.ApplyFault.{ApplyFault}
use Rattle.change_apply.specs.declared.errors.ApplyFault.TheVariants.{Disk, Service, Print}

-- nothing rose yet
pub stays : (a : Counts) → MayRise a a
stays a = record { input = λ i. a.input; disk = omega arith; print = omega arith; service = omega arith }

pub disk_rises : (a b : Counts) → DiskMayRise a b → MayRise a b
disk_rises a b may =
    let disk : b.disk ≡ may.0 = ap (λ (x : Counts). x.disk) may.2 in
    let print : b.print ≡ a.print = ap (λ (x : Counts). x.print) may.2 in
    let service : b.service ≡ a.service = ap (λ (x : Counts). x.service) may.2 in
    record { input = ap (λ (x : Counts). x.input) may.2; disk = omega (arith, may.1, disk); print = omega (arith, print); service = omega (arith, service) }

pub print_rises : (a b : Counts) → PrintMayRise a b → MayRise a b
print_rises a b may =
    let disk : b.disk ≡ a.disk = ap (λ (x : Counts). x.disk) may.2 in
    let print : b.print ≡ may.0 = ap (λ (x : Counts). x.print) may.2 in
    let service : b.service ≡ a.service = ap (λ (x : Counts). x.service) may.2 in
    record { input = ap (λ (x : Counts). x.input) may.2; disk = omega (arith, disk); print = omega (arith, may.1, print); service = omega (arith, service) }

pub service_rises : (a b : Counts) → ServiceMayRise a b → MayRise a b
service_rises a b may =
    let disk : b.disk ≡ a.disk = ap (λ (x : Counts). x.disk) may.2 in
    let print : b.print ≡ a.print = ap (λ (x : Counts). x.print) may.2 in
    let service : b.service ≡ may.0 = ap (λ (x : Counts). x.service) may.2 in
    record { input = ap (λ (x : Counts). x.input) may.2; disk = omega (arith, disk); print = omega (arith, print); service = omega (arith, may.1, service) }

-- one call after another
pub rises_on : (a b c : Counts) → MayRise a b → MayRise b c → MayRise a c
rises_on a b c first second = record {
  input = second.input ∙ first.input;
  disk = omega (arith, first.disk, second.disk);
  print = omega (arith, first.print, second.print);
  service = omega (arith, first.service, second.service);
}

rose_later : (a b c : ℕ) → a ≤ b → Rose b c → Rose a c
rose_later a b c low rose =
    ⊎_elim (λ (more : b < c). inl (omega (arith, low, more))) (λ (last : c ≡ last_count). inr last) rose

-- a fault of the second is one of both
pub cause_later : (a b c : Counts) → MayRise a b → (fault : ApplyFault) → HasCause b c fault → HasCause a c fault
cause_later a b c first (Disk k) rose = rose_later a.disk b.disk c.disk first.disk rose
cause_later a b c first (Service k service) rose = rose_later a.service b.service c.service first.service rose
cause_later a b c first (Print k) rose = rose_later a.print b.print c.print first.print rose
