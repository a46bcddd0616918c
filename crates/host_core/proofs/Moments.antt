-- How a host in memory goes on: what each end of a call adds to its moments.
use Rattle.std.proofs.Common.{◌≡◌, inl, inr, ⊎_elim, ◌⊎◌, ℕ, zero, suc, ◌≤◌, Bool, true, false, List, [], ◌∷◌, ◌++◌, length, drop, Some, Result, Ok, Err, refl, sym, ap, subst, ◌∙◌, arith, length-append, IsTrue}
use Rattle.std.specs.Prelude.{if◌then◌else◌}
use Rattle.std.specs.FinMap.{get}
use Rattle.std.proofs.lemmas.Bool.Decides.{leb_tells}
use Rattle.std.proofs.lemmas.List.{append-nil, append_assoc}
use Rattle.host_core.specs.Counts.{Counts, NoneFell, last_count}
use Rattle.host_core.specs.Crashes.{Left, Image, MayLeave, MayLeaveInPrint, Elapses, Passes, Moment, LeftBy}
use Rattle.host_core.specs.Faults.{raised, input_fault, disk_fault, print_fault, service_fault}
use Rattle.host_core.specs.State.{State, Pending, settled, dirty, listing, CanWrite, with_pending, after_listing, printed, Grows}
use Rattle.host_core.specs.MemoryHost.{MemoryHost, moment_of, left_of, called, starving, next_fails, Ends, IsPast, GoesOn}
use Rattle.host_core.proofs.EntriesOfFiles.{content_there}

-- ---- the ends of a call

-- what holds at each end holds
pub ends : {F : Type 0} (P : Result (Unit {0}) F → MemoryHost → Type 0) (result : Result (Unit {0}) F) (old new : MemoryHost)
    (work failing starved fault : MemoryHost → MemoryHost) → Ends result old new work failing starved fault
    → ((u : Unit {0}) → P (Ok u) (called (work old)))
    → ((e : F) → P (Err e) (called (starving (fault (starved old)))))
    → ((e : F) → IsTrue (next_fails old) → P (Err e) (called (fault (failing old))))
    → P result new
ends P (Ok u) old new work failing starved fault done at_ok at_starved at_fault = subst (P (Ok u)) (sym done.1) (at_ok u)
ends P (Err e) old new work failing starved fault (inl hungry) at_ok at_starved at_fault = subst (P (Err e)) (sym hungry) (at_starved e)
ends P (Err e) old new work failing starved fault (inr failed) at_ok at_starved at_fault = subst (P (Err e)) (sym failed.1) (at_fault e failed.0)

-- the same of a call that hands out
pub hands : (P : MemoryHost → Type 0) (b : Bool) (old new : MemoryHost) (fault : MemoryHost → MemoryHost)
    → new ≡ called (if b then fault old else old) → P (called old) → (IsTrue b → P (called (fault old))) → P new
hands P true old new fault is whole at_fault = subst P (sym is) (at_fault refl)
hands P false old new fault is whole at_fault = subst P (sym is) whole

-- ---- what no call changes

raised_later : (n : ℕ) → n ≤ raised n
raised_later n = omega arith

raised_past : (n : ℕ) → IsPast n (raised n)
raised_past n =
    ⊎_elim (λ at_last. inr (omega (arith, at_last.1))) (λ below. inl (omega (arith, below.1))) (leb_tells last_count n)

-- where nothing comes out the output stays
pub keeps : (old new : State) → new.inputs ≡ old.inputs → new.output ≡ old.output → new.restarts ≡ old.restarts → Grows old new
keeps old new inputs output restarts = record {
  inputs = inputs;
  output = ([], output ∙ sym (append-nil old.output));
  restarts = ([], restarts ∙ sym (append-nil old.restarts));
}

-- no fault makes a count less
pub input_fell : (c : Counts) → NoneFell c (input_fault c)
input_fell c = record { input = raised_later c.input; disk = omega arith; print = omega arith; service = omega arith }

pub disk_fell : (c : Counts) → NoneFell c (disk_fault c)
disk_fell c = record { input = omega arith; disk = raised_later c.disk; print = omega arith; service = omega arith }

pub print_fell : (c : Counts) → NoneFell c (print_fault c)
print_fell c = record { input = omega arith; disk = omega arith; print = raised_later c.print; service = omega arith }

pub service_fell : (c : Counts) → NoneFell c (service_fault c)
service_fell c = record { input = omega arith; disk = omega arith; print = omega arith; service = raised_later c.service }

-- a call that met no fault
pub goes_well : (old : MemoryHost) (s : State) (past : List Moment) → Grows old.state s
    → GoesOn old (called (record old { state = s; past = past }))
goes_well old s past grows = record {
  faults = refl;
  state = grows;
  calls = raised_later old.calls;
  starved = omega arith;
  none_fell = record { input = omega arith; disk = omega arith; print = omega arith; service = omega arith };
  counts = inl refl;
}

-- a call whose number a fault has
pub goes_faulty : (old : MemoryHost) (s : State) (past : List Moment) (counts : Counts) → Grows old.state s → NoneFell old.counts counts → IsTrue (next_fails old)
    → GoesOn old (called (record old { state = s; past = past; counts = counts }))
goes_faulty old s past counts grows none_fell fails = record {
  faults = refl;
  state = grows;
  calls = raised_later old.calls;
  starved = omega arith;
  none_fell = none_fell;
  counts = inr (inl (old.calls, omega arith, raised_past old.calls, fails));
}

-- a call that found no memory
pub goes_hungry : (old : MemoryHost) (s : State) (past : List Moment) (counts : Counts) → Grows old.state s → NoneFell old.counts counts
    → GoesOn old (called (record old { state = s; past = past; counts = counts; starved = raised old.starved }))
goes_hungry old s past counts grows none_fell = record {
  faults = refl;
  state = grows;
  calls = raised_later old.calls;
  starved = raised_later old.starved;
  none_fell = none_fell;
  counts = inr (inr (raised_past old.starved));
}

-- ---- moments

drop_front : {A : Type 0} (t : ℕ) (xs ys : List A) → t ≤ length xs → drop t (xs ++ ys) ≡ drop t xs ++ ys
drop_front zero xs ys le = refl
drop_front (suc t) [] ys le = absurd (omega (arith, le))
drop_front (suc t) (x ∷ xs) ys le = drop_front t xs ys (omega (arith, le))

left_append : (xs ys : List Moment) (left : Left) → LeftBy (xs ++ ys) left → LeftBy xs left ⊎ LeftBy ys left
left_append [] ys left by = inr by
left_append (m ∷ xs) ys left (inl here) = inl (inl here)
left_append (m ∷ xs) ys left (inr by) = ⊎_elim (λ x. inl (inr x)) (λ y. inr y) (left_append xs ys left by)

left_before : (xs ys : List Moment) (left : Left) → LeftBy xs left → LeftBy (xs ++ ys) left
left_before [] ys left never = elim never [ ]
left_before (m ∷ xs) ys left (inl here) = inl here
left_before (m ∷ xs) ys left (inr by) = inr (left_before xs ys left by)

left_last : (xs : List Moment) (m : Moment) (left : Left) → MayLeaveInPrint m.1 (Some m.0) left → LeftBy (xs ++ m ∷ []) left
left_last [] m left here = inl here
left_last (n ∷ xs) m left here = inr (left_last xs m left here)

-- nothing is printed yet
pub at_first : (s : State) (bytes : List ℕ) (left : Left) → MayLeave s left → MayLeaveInPrint bytes (Some s) left
at_first s bytes left now =
    ([], bytes, refl, record { files = now.files; output = now.output ∙ sym (append-nil s.output); restarts = now.restarts })

no_front : (part rest : List ℕ) → [] ≡ part ++ rest → part ≡ []
no_front [] rest is = refl
no_front (x ∷ part) rest is = absurd cc

-- where nothing is printed the state stays
pub not_printed : (s : State) (left : Left) → MayLeaveInPrint [] (Some s) left → MayLeave s left
not_printed s left in_print =
    let m = in_print.3 in
    record {
      files = m.files;
      output = m.output ∙ ap (λ part. s.output ++ part) (no_front in_print.0 in_print.1 in_print.2) ∙ append-nil s.output;
      restarts = m.restarts;
    }

module _ (old new : MemoryHost) (during : Left → Type 0) (after : (left : Left) → MayLeave new.state left → during left) where
  -- with one moment more
  pub moves : (bytes : List ℕ) → new.past ≡ old.past ++ (old.state, bytes) ∷ []
      → ((left : Left) → MayLeaveInPrint bytes (Some old.state) left → MayLeave old.state left ⊎ during left)
      → Elapses moment_of left_of old new during
  moves bytes is between = record {
    later = omega (arith, ap length is, length-append old.past ((old.state, bytes) ∷ []));
    nothing_else = λ t left le. ⊎_elim (λ now. inr (after left now))
        (λ by. ⊎_elim (λ x. inl (inr x))
        (λ y. ⊎_elim (λ here. ⊎_elim (λ first. inl (inl first)) (λ d. inr d) (between left here)) (λ never. absurd never) y)
        (left_append (drop t old.past) ((old.state, bytes) ∷ []) left
        (subst (λ ms. LeftBy ms left) (ap (drop t) is ∙ drop_front t old.past ((old.state, bytes) ∷ []) le) by)));
    keeps = λ t left le since. inr (subst (λ ms. LeftBy ms left) (sym (ap (drop t) is ∙ drop_front t old.past ((old.state, bytes) ∷ []) le))
        (⊎_elim (λ now. left_last (drop t old.past) (old.state, bytes) left (at_first old.state bytes left now))
        (λ by. left_before (drop t old.past) ((old.state, bytes) ∷ []) left by) since));
  }

  -- with none
  pub stays : new.past ≡ old.past → ((left : Left) → MayLeave old.state left → MayLeave new.state left) → Elapses moment_of left_of old new during
  stays is now = record {
    later = omega (arith, ap length is);
    nothing_else = λ t left le. ⊎_elim (λ here. inr (after left here)) (λ by. inl (inr (subst (λ ms. LeftBy (drop t ms) left) is by)));
    keeps = λ t left le. ⊎_elim (λ here. inl (now left here)) (λ by. inr (subst (λ ms. LeftBy (drop t ms) left) (sym is) by));
  }

-- ---- what may be left when something more is pending

-- the name of the file whose bytes are pending
abbrev dirty_name : Pending → List ℕ
dirty_name (dirty name) = name
dirty_name other = []

-- the bytes of a file
pub soils : (name : List ℕ) (s : State) (left : Left) → CanWrite name s → MayLeave s left → MayLeave (with_pending (dirty name) s) left
soils name s left ready now = record { files = by s.pending ready now.files; output = now.output; restarts = now.restarts }
  where
    by : (p : Pending) → (p ≡ settled) ⊎ (p ≡ dirty name) → Image p s.files left.files
        → Image (dirty name) s.files left.files
    by settled clean image = (get s.files name, image ∙ sym (content_there name s.files))
    by (dirty other) (inl is) image = absurd cc
    by (dirty other) (inr is) image = subst (λ n. Image (dirty n) s.files left.files) (ap dirty_name is) image
    by (listing before) (inl is) image = absurd cc
    by (listing before) (inr is) image = absurd cc

-- the names, which are as they were
pub unsettles : (s : State) (left : Left) → s.pending ≡ settled → MayLeave s left → MayLeave (after_listing (λ files. files) s) left
unsettles s left clean now =
    record { files = inr (subst (λ p. Image p s.files left.files) clean now.files); output = now.output; restarts = now.restarts }

-- ---- printing

-- a front of a front is a front
front_of_front : (bytes half rest part more : List ℕ) → bytes ≡ half ++ rest → half ≡ part ++ more → bytes ≡ part ++ (more ++ rest)
front_of_front bytes half rest part more whole is = whole ∙ ap (λ h. h ++ rest) is ∙ append_assoc part more rest

-- what a front of the bytes leaves while it is printed, they leave
pub in_front : (s : State) (bytes half rest : List ℕ) (left : Left) → bytes ≡ half ++ rest → MayLeaveInPrint half (Some s) left → MayLeaveInPrint bytes (Some s) left
in_front s bytes half rest left whole here =
    (here.0, here.1 ++ rest, front_of_front bytes half rest here.0 here.1 whole here.2, here.3)

-- and what it leaves when it is there
pub at_front : (s : State) (bytes half rest : List ℕ) (left : Left) → bytes ≡ half ++ rest → MayLeave (printed half s) left → MayLeaveInPrint bytes (Some s) left
at_front s bytes half rest left whole now = (half, rest, whole, now)

-- each front of what was printed is among the moments
pub passes : (old new : MemoryHost) (bytes : List ℕ) → new.past ≡ old.past ++ (old.state, bytes) ∷ []
    → Passes moment_of left_of old new (MayLeaveInPrint bytes (Some old.state))
passes old new bytes is t left le here =
    inr (subst (λ ms. LeftBy ms left) (sym (ap (drop t) is ∙ drop_front t old.past ((old.state, bytes) ∷ []) le))
    (left_last (drop t old.past) (old.state, bytes) left here))
