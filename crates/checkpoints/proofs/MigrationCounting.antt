-- The counts of a migration through one call after another.
use Rattle.std.proofs.Common.{◌≡◌, ◌<◌, ◌≤◌, ℕ, inl, inr, ⊎_elim, ap, ◌∙◌, arith}
use Rattle.host_core.specs.Counts.{Counts, DiskMayRise, PrintMayRise, Rose, last_count}
use Rattle.checkpoints.specs.MigrationEnds.{HasCause, MayRise}
use Rattle.checkpoints.specs.declared.errors.MigrateFault.{MigrateFault}
use Rattle.checkpoints.specs.declared.errors.MigrateFault.TheVariants.{Disk, Print}

-- nothing rose yet
pub stays : (a : Counts) → MayRise a a
stays a = record { input = λ i. a.input; disk = omega arith; print = omega arith; service = λ i. a.service }

pub disk_rises : (a b : Counts) → DiskMayRise a b → MayRise a b
disk_rises a b may =
    let disk : b.disk ≡ may.0 = ap (λ (x : Counts). x.disk) may.2 in
    let print : b.print ≡ a.print = ap (λ (x : Counts). x.print) may.2 in
    record { input = ap (λ (x : Counts). x.input) may.2; disk = omega (arith, may.1, disk); print = omega (arith, print); service = ap (λ (x : Counts). x.service) may.2 }

pub print_rises : (a b : Counts) → PrintMayRise a b → MayRise a b
print_rises a b may =
    let disk : b.disk ≡ a.disk = ap (λ (x : Counts). x.disk) may.2 in
    let print : b.print ≡ may.0 = ap (λ (x : Counts). x.print) may.2 in
    record { input = ap (λ (x : Counts). x.input) may.2; disk = omega (arith, disk); print = omega (arith, may.1, print); service = ap (λ (x : Counts). x.service) may.2 }

-- one call after another
pub rises_on : (a b c : Counts) → MayRise a b → MayRise b c → MayRise a c
rises_on a b c first second = record {
  input = second.input ∙ first.input;
  disk = omega (arith, first.disk, second.disk);
  print = omega (arith, first.print, second.print);
  service = second.service ∙ first.service;
}

rose_later : (a b c : ℕ) → a ≤ b → Rose b c → Rose a c
rose_later a b c low rose =
    ⊎_elim (λ (more : b < c). inl (omega (arith, low, more))) (λ (last : c ≡ last_count). inr last) rose

-- a fault of the second is one of both
pub cause_later : (a b c : Counts) → MayRise a b → (fault : MigrateFault) → HasCause b c fault → HasCause a c fault
cause_later a b c first (Disk k) rose = rose_later a.disk b.disk c.disk first.disk rose
cause_later a b c first (Print k) rose = rose_later a.print b.print c.print first.print rose
