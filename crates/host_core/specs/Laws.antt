-- The laws of a host in memory: what the trait of hosts asks of its moments and of what no call changes.
use Rattle.std.specs.Prelude.{◌≡◌, ◌⊎◌, ℕ, ◌≤◌, List, [], ◌∷◌, ◌++◌, length, drop, IsTrue, refl}
use Rattle.std.proofs.Common.{inl, inr, ap, sym, subst, ◌∙◌, arith}
use Rattle.std.proofs.lemmas.List.{append-nil, append_assoc}
use Rattle.host_core.specs.Counts.{Counts, NoneFell}
use Rattle.host_core.specs.Crashes.{Left, MayLeave, Moment, LeftBy, LeftSince}
use Rattle.host_core.specs.Faults.{is_faulty}
use Rattle.host_core.specs.State.{State, IsFront, Grows}
use Rattle.host_core.specs.MemoryHost.{MemoryHost, IsPast, HasFault, GoesOn}

-- nothing is left behind the last moment
none_left : (past : List Moment) (left : Left) → LeftBy (drop (length past) past) left → ⊥
none_left [] left by = by
none_left (m ∷ past) left by = none_left past left by

-- since the last moment there is the state alone
pub only_state :
    (s : State) (past : List Moment) (left : Left)
    → LeftSince s past (length past) left → MayLeave s left
only_state s past left (inl now) = now
only_state s past left (inr by) = absurd (none_left past left by)

-- a list is a front of itself
whole : {A : Type 0} (xs : List A) → IsFront xs xs
whole xs = ([], sym (append-nil xs))

-- a front of a front is one
front_of_front : {A : Type 0} (xs ys zs : List A) → IsFront xs ys → IsFront ys zs → IsFront xs zs
front_of_front xs ys zs first second = (
  first.0 ++ second.0,
  second.1 ∙ ap (λ front. front ++ second.0) first.1 ∙ append_assoc xs first.0 second.0,
)

grows_in : (a b c : State) → Grows a b → Grows b c → Grows a c
grows_in a b c first second = record {
  inputs = second.inputs ∙ first.inputs;
  output = front_of_front a.output b.output c.output first.output second.output;
  restarts = front_of_front a.restarts b.restarts c.restarts first.restarts second.restarts;
}

none_falls : (c : Counts) → NoneFell c c
none_falls c = record {
  input = omega arith;
  disk = omega arith;
  print = omega arith;
  service = omega arith;
}

none_fell_in : (a b c : Counts) → NoneFell a b → NoneFell b c → NoneFell a c
none_fell_in a b c first second = record {
  input = omega (arith, first.input, second.input);
  disk = omega (arith, first.disk, second.disk);
  print = omega (arith, first.print, second.print);
  service = omega (arith, first.service, second.service);
}

-- a host goes on from itself
pub goes_itself : (m : MemoryHost) → GoesOn m m
goes_itself m = record {
  faults = refl;
  state = record {
    inputs = refl;
    output = whole m.state.output;
    restarts = whole m.state.restarts;
  };
  calls = omega arith;
  starved = omega arith;
  none_fell = none_falls m.counts;
  counts = inl refl;
}

past_later : (n a b : ℕ) → IsPast n a → a ≤ b → IsPast n b
past_later n a b (inl less) le = inl (omega (arith, less, le))
past_later n a b (inr last) le = inr (omega (arith, last, le))

past_earlier : (m n a : ℕ) → m ≤ n → IsPast n a → IsPast m a
past_earlier m n a le (inl less) = inl (omega (arith, less, le))
past_earlier m n a le (inr last) = inr last

-- a fault in the first of two runs is one in both
first_fault : (a b c : MemoryHost) → GoesOn b c → HasFault a b → HasFault a c
first_fault a b c g (inl f) =
    inl (f.0, f.1, past_later f.0 b.calls c.calls f.2 g.calls, f.3)
first_fault a b c g (inr starved) =
    inr (past_later a.starved b.starved c.starved starved g.starved)

-- and so is one in the second
second_fault : (a b c : MemoryHost) → GoesOn a b → HasFault b c → HasFault a c
second_fault a b c g (inl f) =
    inl (
      f.0,
      omega (arith, g.calls, f.1),
      f.2,
      subst (λ faults. IsTrue (is_faulty faults f.0)) g.faults f.3,
    )
second_fault a b c g (inr starved) =
    inr (past_earlier a.starved b.starved c.starved g.starved starved)

counts_of :
    (a b c : MemoryHost) → GoesOn a b → GoesOn b c
    → (b.counts ≡ a.counts) ⊎ HasFault a b → (c.counts ≡ b.counts) ⊎ HasFault b c
    → (c.counts ≡ a.counts) ⊎ HasFault a c
counts_of a b c first second (inl same) (inl again) = inl (again ∙ same)
counts_of a b c first second (inl same) (inr fault) = inr (second_fault a b c first fault)
counts_of a b c first second (inr fault) rest = inr (first_fault a b c second fault)

-- two runs are one
pub goes_further : (a b c : MemoryHost) → GoesOn a b → GoesOn b c → GoesOn a c
goes_further a b c first second = record {
  faults = second.faults ∙ first.faults;
  state = grows_in a.state b.state c.state first.state second.state;
  calls = omega (arith, first.calls, second.calls);
  starved = omega (arith, first.starved, second.starved);
  none_fell = none_fell_in a.counts b.counts c.counts first.none_fell second.none_fell;
  counts = counts_of a b c first second first.counts second.counts;
}
