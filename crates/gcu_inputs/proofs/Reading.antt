-- Calls that only read, one after the other.
use Rattle.std.proofs.Common.{◌≡◌, ℕ, Option, ap, ◌∙◌, subst, arith}
use Rattle.host_core.specs.Counts.{Counts, DiskMayRise, InputMayRise}
use Rattle.host_core.specs.Crashes.{Elapses, Left, MayLeaveNow}
use Rattle.host_core.specs.State.{State}
use Rattle.gcu_output.proofs.Elapsing.{elapses_both}
use Rattle.gcu_inputs.specs.Reads.{OnlyReads, ReadsFiles, ReadsInputs, ReadsMayRise}

-- ---- the counts of faults

reads_on : (a b c : Counts) → ReadsMayRise a b → ReadsMayRise b c → ReadsMayRise a c
reads_on a b c first second = record {
  input = omega (arith, first.input, second.input);
  disk = omega (arith, first.disk, second.disk);
  print = second.print ∙ first.print;
  service = second.service ∙ first.service;
}

input_reads : (a b : Counts) → InputMayRise a b → ReadsMayRise a b
input_reads a b rise =
    let at_b : b.input ≡ rise.0 = ap (λ (x : Counts). x.input) rise.2 in
    let disk : b.disk ≡ a.disk = ap (λ (x : Counts). x.disk) rise.2 in
    record {
      input = omega (arith, rise.1, at_b);
      disk = omega (arith, disk);
      print = ap (λ (x : Counts). x.print) rise.2;
      service = ap (λ (x : Counts). x.service) rise.2;
    }

file_reads : (a b : Counts) → DiskMayRise a b → ReadsMayRise a b
file_reads a b rise =
    let at_b : b.disk ≡ rise.0 = ap (λ (x : Counts). x.disk) rise.2 in
    let input : b.input ≡ a.input = ap (λ (x : Counts). x.input) rise.2 in
    record {
      input = omega (arith, input);
      disk = omega (arith, rise.1, at_b);
      print = ap (λ (x : Counts). x.print) rise.2;
      service = ap (λ (x : Counts). x.service) rise.2;
    }

-- ---- what is left as it was

module _ {H : Type 0} {told : H → Option State} {counts : H → Counts} {moment : H → ℕ}
    {left_since : H → ℕ → Left → Type 0} {goes_on : H → H → Type 0} where
  pub reads_both : {a b c : H} → ((a b c : H) → goes_on a b → goes_on b c → goes_on a c)
      → OnlyReads told counts moment left_since goes_on a b → OnlyReads told counts moment left_since goes_on b c
      → OnlyReads told counts moment left_since goes_on a c
  reads_both {a = a} {b = b} {c = c} continues one two = record {
    state = two.state ∙ one.state;
    faults = reads_on (counts a) (counts b) (counts c) one.faults two.faults;
    time =
        elapses_both moment left_since a b c (MayLeaveNow (told a)) one.time
        (subst (λ o. Elapses moment left_since b c (MayLeaveNow o)) one.state two.time);
    goes = continues a b c one.goes two.goes;
  }

  -- what reads inputs alone, or files alone, only reads
  pub of_inputs : {a b : H} → ReadsInputs told counts moment left_since goes_on a b
      → OnlyReads told counts moment left_since goes_on a b
  of_inputs {a = a} {b = b} one =
      record { state = one.state; faults = input_reads (counts a) (counts b) one.faults; time = one.time; goes = one.goes }

  pub of_files : {a b : H} → ReadsFiles told counts moment left_since goes_on a b
      → OnlyReads told counts moment left_since goes_on a b
  of_files {a = a} {b = b} one =
      record { state = one.state; faults = file_reads (counts a) (counts b) one.faults; time = one.time; goes = one.goes }
