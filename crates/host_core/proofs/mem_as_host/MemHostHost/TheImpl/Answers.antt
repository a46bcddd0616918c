-- That a host in memory is a host: what its calls say gives what the trait says of them.
use Rattle.std.proofs.Common.{◌≡◌, ◌/◌, ℕ, List, Option, inl, inr, refl, sym, rules, [], ◌∷◌, Some, None, length, drop}
use Rattle.std.specs.Prelude.{OnOk, OnErr}
use Rattle.std.specs.FinMap.{get}
use Rattle.std.proofs.lemmas.List.{append-nil, take-append-drop}
use Rattle.host_core.specs.Crashes.{Elapses, Passes, MayLeave, MayLeaveNow, MayLeaveInPrint}
use Rattle.host_core.specs.Faults.{input_fault, disk_fault, print_fault, service_fault}
use Rattle.host_core.specs.State.{State, settled, dirty, with_file, rename, after_write, with_pending, after_listing, ListsOrNot, printed, PrintsPart, after_restart}
use Rattle.host_core.specs.MemoryHost.{MemoryHost, moment_of, left_of, called, starving, next_fails, moved_by, marked_by, half, input_failed, disk_failed, print_failed, service_failed, GoesOn}
use Rattle.host_core.proofs.EntriesOfFiles.{content_there}
use Rattle.host_core.proofs.Moments.{ends, hands, moves, stays, not_printed, soils, unsettles, at_first, at_front, in_front, passes, keeps, input_fell, disk_fell, print_fell, service_fell, goes_well, goes_faulty, goes_hungry}
use Rattle.host_core.proofs.mem_as_host.MemHostHost.TheImpl.Goals as goal

pub input-tells : goal.input-tells
input-tells c =
    let old = c.args.self.now in
    let new = c.new.self.now in
    let same = keeps old.state old.state refl refl refl in
    record {
      found = c.ensures.found;
      told = hands (λ m. ◌≡◌ {A = Option State} (Some m.state) (Some old.state)) (next_fails old) old new input_failed c.ensures.after refl (λ fails. refl);
      counts = c.ensures.counts;
      cause = c.ensures.cause;
      time = hands (λ m. Elapses moment_of left_of old m (MayLeaveNow (Some m.state))) (next_fails old) old new input_failed c.ensures.after
          (stays old (called old) (MayLeave old.state) (λ left now. now) refl (λ left now. now))
          (λ fails. stays old (called (input_failed old)) (MayLeave old.state) (λ left now. now) refl (λ left now. now));
      goes = hands (λ m. GoesOn old m) (next_fails old) old new input_failed c.ensures.after
          (goes_well old old.state old.past same)
          (λ fails. goes_faulty old old.state old.past (input_fault old.counts) same (input_fell old.counts) fails);
    }

pub list-tells : goal.list-tells
list-tells c =
    let old = c.args.self.now in
    let new = c.new.self.now in
    let same = keeps old.state old.state refl refl refl in
    record {
      found = c.ensures.found;
      told = hands (λ m. ◌≡◌ {A = Option State} (Some m.state) (Some old.state)) (next_fails old) old new disk_failed c.ensures.after refl (λ fails. refl);
      counts = c.ensures.counts;
      cause = c.ensures.cause;
      time = hands (λ m. Elapses moment_of left_of old m (MayLeaveNow (Some m.state))) (next_fails old) old new disk_failed c.ensures.after
          (stays old (called old) (MayLeave old.state) (λ left now. now) refl (λ left now. now))
          (λ fails. stays old (called (disk_failed old)) (MayLeave old.state) (λ left now. now) refl (λ left now. now));
      goes = hands (λ m. GoesOn old m) (next_fails old) old new disk_failed c.ensures.after
          (goes_well old old.state old.past same)
          (λ fails. goes_faulty old old.state old.past (disk_fault old.counts) same (disk_fell old.counts) fails);
    }

pub read-tells : goal.read-tells
read-tells c =
    let old = c.args.self.now in
    let new = c.new.self.now in
    let same = keeps old.state old.state refl refl refl in
    record {
      found = c.ensures.found;
      told = hands (λ m. ◌≡◌ {A = Option State} (Some m.state) (Some old.state)) (next_fails old) old new disk_failed c.ensures.after refl (λ fails. refl);
      counts = c.ensures.counts;
      cause = c.ensures.cause;
      time = hands (λ m. Elapses moment_of left_of old m (MayLeaveNow (Some m.state))) (next_fails old) old new disk_failed c.ensures.after
          (stays old (called old) (MayLeave old.state) (λ left now. now) refl (λ left now. now))
          (λ fails. stays old (called (disk_failed old)) (MayLeave old.state) (λ left now. now) refl (λ left now. now));
      goes = hands (λ m. GoesOn old m) (next_fails old) old new disk_failed c.ensures.after
          (goes_well old old.state old.past same)
          (λ fails. goes_faulty old old.state old.past (disk_fault old.counts) same (disk_fell old.counts) fails);
    }

pub write-tells : goal.write-tells
write-tells c =
    let old = c.args.self.now in
    let name = c.args.name.now in
    let work = moved_by (after_write c.args.name.now (Some c.args.bytes.now)) [] in
    let failing = moved_by (after_write c.args.name.now (Some (half c.args.bytes.now))) [] in
    let starved = marked_by (with_pending (dirty c.args.name.now)) in
    record {
      ok = ends (λ r m. OnOk r (◌≡◌ {A = Option State} (Some m.state) (Some (work old).state))) c.result old c.new.self.now work failing starved disk_failed c.ensures.ends
          (λ u. refl) (λ e. tt) (λ e fails. tt);
      err = ends (λ r m. OnErr r ((content : Option (List ℕ)) × ◌≡◌ {A = Option State} (Some m.state) (Some (after_write name content old.state)))) c.result old c.new.self.now work failing starved disk_failed c.ensures.ends
          (λ u. tt)
          (λ e. (get old.state.files name, (λ i. Some (record old.state { files = sym (content_there name old.state.files) i; pending = dirty name }))))
          (λ e fails. (Some (half c.args.bytes.now), refl));
      counts = c.ensures.counts;
      cause = c.ensures.cause;
      time = ends (λ r m. Elapses moment_of left_of old m (MayLeaveNow (Some m.state))) c.result old c.new.self.now work failing starved disk_failed c.ensures.ends
          (λ u. moves old (called (work old)) (MayLeave (work old).state) (λ left now. now) [] refl (λ left p. inl (not_printed old.state left p)))
          (λ e. stays old (called (starving (disk_failed (starved old)))) (MayLeave (starved old).state) (λ left now. now) refl (λ left now. soils c.args.name.now old.state left c.requires.ready now))
          (λ e fails. moves old (called (disk_failed (failing old))) (MayLeave (failing old).state) (λ left now. now) [] refl (λ left p. inl (not_printed old.state left p)));
      goes = ends (λ r m. GoesOn old m) c.result old c.new.self.now work failing starved disk_failed c.ensures.ends
          (λ u. goes_well old (work old).state (work old).past (keeps old.state (work old).state refl refl refl))
          (λ e. goes_hungry old (starved old).state (starved old).past (disk_fault old.counts) (keeps old.state (starved old).state refl refl refl) (disk_fell old.counts))
          (λ e fails. goes_faulty old (failing old).state (failing old).past (disk_fault old.counts) (keeps old.state (failing old).state refl refl refl) (disk_fell old.counts) fails);
    }

pub sync-tells : goal.sync-tells
sync-tells c =
    let old = c.args.self.now in
    let work = moved_by (with_pending settled) [] in
    let failing = marked_by (with_pending (dirty c.args.name.now)) in
    let starved = marked_by (with_pending (dirty c.args.name.now)) in
    record {
      ok = ends (λ r m. OnOk r (◌≡◌ {A = Option State} (Some m.state) (Some (work old).state))) c.result old c.new.self.now work failing starved disk_failed c.ensures.ends
          (λ u. refl) (λ e. tt) (λ e fails. tt);
      err = ends (λ r m. OnErr r (◌≡◌ {A = Option State} (Some m.state) (Some (starved old).state))) c.result old c.new.self.now work failing starved disk_failed c.ensures.ends
          (λ u. tt) (λ e. refl) (λ e fails. refl);
      counts = c.ensures.counts;
      cause = c.ensures.cause;
      time = ends (λ r m. Elapses moment_of left_of old m (MayLeaveNow (Some m.state))) c.result old c.new.self.now work failing starved disk_failed c.ensures.ends
          (λ u. moves old (called (work old)) (MayLeave (work old).state) (λ left now. now) [] refl (λ left p. inl (not_printed old.state left p)))
          (λ e. stays old (called (starving (disk_failed (starved old)))) (MayLeave (starved old).state) (λ left now. now) refl (λ left now. soils c.args.name.now old.state left c.requires.ready now))
          (λ e fails. stays old (called (disk_failed (failing old))) (MayLeave (failing old).state) (λ left now. now) refl (λ left now. soils c.args.name.now old.state left c.requires.ready now));
      goes = ends (λ r m. GoesOn old m) c.result old c.new.self.now work failing starved disk_failed c.ensures.ends
          (λ u. goes_well old (work old).state (work old).past (keeps old.state (work old).state refl refl refl))
          (λ e. goes_hungry old (starved old).state (starved old).past (disk_fault old.counts) (keeps old.state (starved old).state refl refl refl) (disk_fell old.counts))
          (λ e fails. goes_faulty old (failing old).state (failing old).past (disk_fault old.counts) (keeps old.state (failing old).state refl refl refl) (disk_fell old.counts) fails);
    }

pub rename-tells : goal.rename-tells
rename-tells c =
    let old = c.args.self.now in
    let work = moved_by (after_listing (rename c.args.from.now c.args.to.now)) [] in
    let failing = marked_by (after_listing (λ files. files)) in
    let starved = marked_by (after_listing (λ files. files)) in
    record {
      ok = ends (λ r m. OnOk r (◌≡◌ {A = Option State} (Some m.state) (Some (work old).state))) c.result old c.new.self.now work failing starved disk_failed c.ensures.ends
          (λ u. refl) (λ e. tt) (λ e fails. tt);
      err = ends (λ r m. OnErr r (ListsOrNot (rename c.args.from.now c.args.to.now) (Some old.state) (Some m.state))) c.result old c.new.self.now work failing starved disk_failed c.ensures.ends
          (λ u. tt) (λ e. inr refl) (λ e fails. inr refl);
      counts = c.ensures.counts;
      cause = c.ensures.cause;
      time = ends (λ r m. Elapses moment_of left_of old m (MayLeaveNow (Some m.state))) c.result old c.new.self.now work failing starved disk_failed c.ensures.ends
          (λ u. moves old (called (work old)) (MayLeave (work old).state) (λ left now. now) [] refl (λ left p. inl (not_printed old.state left p)))
          (λ e. stays old (called (starving (disk_failed (starved old)))) (MayLeave (starved old).state) (λ left now. now) refl (λ left now. unsettles old.state left c.requires.ready.0 now))
          (λ e fails. stays old (called (disk_failed (failing old))) (MayLeave (failing old).state) (λ left now. now) refl (λ left now. unsettles old.state left c.requires.ready.0 now));
      goes = ends (λ r m. GoesOn old m) c.result old c.new.self.now work failing starved disk_failed c.ensures.ends
          (λ u. goes_well old (work old).state (work old).past (keeps old.state (work old).state refl refl refl))
          (λ e. goes_hungry old (starved old).state (starved old).past (disk_fault old.counts) (keeps old.state (starved old).state refl refl refl) (disk_fell old.counts))
          (λ e fails. goes_faulty old (failing old).state (failing old).past (disk_fault old.counts) (keeps old.state (failing old).state refl refl refl) (disk_fell old.counts) fails);
    }

pub remove-tells : goal.remove-tells
remove-tells c =
    let old = c.args.self.now in
    let work = moved_by (after_listing (with_file c.args.name.now None)) [] in
    let failing = marked_by (after_listing (λ files. files)) in
    let starved = marked_by (after_listing (λ files. files)) in
    record {
      ok = ends (λ r m. OnOk r (◌≡◌ {A = Option State} (Some m.state) (Some (work old).state))) c.result old c.new.self.now work failing starved disk_failed c.ensures.ends
          (λ u. refl) (λ e. tt) (λ e fails. tt);
      err = ends (λ r m. OnErr r (ListsOrNot (with_file c.args.name.now None) (Some old.state) (Some m.state))) c.result old c.new.self.now work failing starved disk_failed c.ensures.ends
          (λ u. tt) (λ e. inr refl) (λ e fails. inr refl);
      counts = c.ensures.counts;
      cause = c.ensures.cause;
      time = ends (λ r m. Elapses moment_of left_of old m (MayLeaveNow (Some m.state))) c.result old c.new.self.now work failing starved disk_failed c.ensures.ends
          (λ u. moves old (called (work old)) (MayLeave (work old).state) (λ left now. now) [] refl (λ left p. inl (not_printed old.state left p)))
          (λ e. stays old (called (starving (disk_failed (starved old)))) (MayLeave (starved old).state) (λ left now. now) refl (λ left now. unsettles old.state left c.requires.ready.0 now))
          (λ e fails. stays old (called (disk_failed (failing old))) (MayLeave (failing old).state) (λ left now. now) refl (λ left now. unsettles old.state left c.requires.ready.0 now));
      goes = ends (λ r m. GoesOn old m) c.result old c.new.self.now work failing starved disk_failed c.ensures.ends
          (λ u. goes_well old (work old).state (work old).past (keeps old.state (work old).state refl refl refl))
          (λ e. goes_hungry old (starved old).state (starved old).past (disk_fault old.counts) (keeps old.state (starved old).state refl refl refl) (disk_fell old.counts))
          (λ e fails. goes_faulty old (failing old).state (failing old).past (disk_fault old.counts) (keeps old.state (failing old).state refl refl refl) (disk_fell old.counts) fails);
    }

pub settle-tells : goal.settle-tells
settle-tells c =
    let old = c.args.self.now in
    let work = moved_by (with_pending settled) [] in
    let failing : MemoryHost → MemoryHost = λ m. m in
    let starved : MemoryHost → MemoryHost = λ m. m in
    record {
      ok = ends (λ r m. OnOk r (◌≡◌ {A = Option State} (Some m.state) (Some (work old).state))) c.result old c.new.self.now work failing starved disk_failed c.ensures.ends
          (λ u. refl) (λ e. tt) (λ e fails. tt);
      err = ends (λ r m. OnErr r (◌≡◌ {A = Option State} (Some m.state) (Some (starved old).state))) c.result old c.new.self.now work failing starved disk_failed c.ensures.ends
          (λ u. tt) (λ e. refl) (λ e fails. refl);
      counts = c.ensures.counts;
      cause = c.ensures.cause;
      time = ends (λ r m. Elapses moment_of left_of old m (MayLeaveNow (Some m.state))) c.result old c.new.self.now work failing starved disk_failed c.ensures.ends
          (λ u. moves old (called (work old)) (MayLeave (work old).state) (λ left now. now) [] refl (λ left p. inl (not_printed old.state left p)))
          (λ e. stays old (called (starving (disk_failed (starved old)))) (MayLeave (starved old).state) (λ left now. now) refl (λ left now. now))
          (λ e fails. stays old (called (disk_failed (failing old))) (MayLeave (failing old).state) (λ left now. now) refl (λ left now. now));
      goes = ends (λ r m. GoesOn old m) c.result old c.new.self.now work failing starved disk_failed c.ensures.ends
          (λ u. goes_well old (work old).state (work old).past (keeps old.state (work old).state refl refl refl))
          (λ e. goes_hungry old (starved old).state (starved old).past (disk_fault old.counts) (keeps old.state (starved old).state refl refl refl) (disk_fell old.counts))
          (λ e fails. goes_faulty old (failing old).state (failing old).past (disk_fault old.counts) (keeps old.state (failing old).state refl refl refl) (disk_fell old.counts) fails);
    }

pub print-tells : goal.print-tells
print-tells c =
    let old = c.args.self.now in
    let bytes = c.args.bytes.now in
    let whole = sym (take-append-drop (length bytes / 2) bytes) in
    let during = MayLeaveInPrint bytes (Some old.state) in
    let work = moved_by (printed c.args.bytes.now) c.args.bytes.now in
    let failing = moved_by (printed (half c.args.bytes.now)) (half c.args.bytes.now) in
    let starved : MemoryHost → MemoryHost = λ m. m in
    record {
      ok = ends (λ r m. OnOk r (◌≡◌ {A = Option State} (Some m.state) (Some (work old).state))) c.result old c.new.self.now work failing starved print_failed c.ensures.ends
          (λ u. refl) (λ e. tt) (λ e fails. tt);
      err = ends (λ r m. OnErr r (PrintsPart bytes (Some old.state) (Some m.state))) c.result old c.new.self.now work failing starved print_failed c.ensures.ends
          (λ u. tt)
          (λ e. ([], bytes, refl, (λ i. Some (record old.state { output = sym (append-nil old.state.output) i }))))
          (λ e fails. (half bytes, drop (length bytes / 2) bytes, whole, refl));
      counts = c.ensures.counts;
      cause = c.ensures.cause;
      time = ends (λ r m. Elapses moment_of left_of old m during) c.result old c.new.self.now work failing starved print_failed c.ensures.ends
          (λ u. moves old (called (work old)) during (λ left now. at_front old.state bytes bytes [] left (sym (append-nil bytes)) now) bytes refl (λ left p. inr p))
          (λ e. stays old (called (starving (print_failed old))) during (λ left now. at_first old.state bytes left now) refl (λ left now. now))
          (λ e fails. moves old (called (print_failed (failing old))) during
          (λ left now. at_front old.state bytes (half bytes) (drop (length bytes / 2) bytes) left whole now) (half bytes) refl
          (λ left p. inr (in_front old.state bytes (half bytes) (drop (length bytes / 2) bytes) left whole p)));
      fronts = ends (λ r m. OnOk r (Passes moment_of left_of old m during)) c.result old c.new.self.now work failing starved print_failed c.ensures.ends
          (λ u. passes old (called (work old)) bytes refl) (λ e. tt) (λ e fails. tt);
      goes = ends (λ r m. GoesOn old m) c.result old c.new.self.now work failing starved print_failed c.ensures.ends
          (λ u. goes_well old (work old).state (work old).past (record { inputs = refl; output = (bytes, refl); restarts = ([], sym (append-nil old.state.restarts)) }))
          (λ e. goes_hungry old (starved old).state (starved old).past (print_fault old.counts) (keeps old.state (starved old).state refl refl refl) (print_fell old.counts))
          (λ e fails. goes_faulty old (failing old).state (failing old).past (print_fault old.counts) (record { inputs = refl; output = ((half bytes), refl); restarts = ([], sym (append-nil old.state.restarts)) }) (print_fell old.counts) fails);
    }

pub restart-tells : goal.restart-tells
restart-tells c =
    let old = c.args.self.now in
    let work = moved_by (after_restart c.args.service.now) [] in
    let failing : MemoryHost → MemoryHost = λ m. m in
    let starved : MemoryHost → MemoryHost = λ m. m in
    record {
      ok = ends (λ r m. OnOk r (◌≡◌ {A = Option State} (Some m.state) (Some (work old).state))) c.result old c.new.self.now work failing starved service_failed c.ensures.ends
          (λ u. refl) (λ e. tt) (λ e fails. tt);
      err = ends (λ r m. OnErr r (◌≡◌ {A = Option State} (Some m.state) (Some (starved old).state))) c.result old c.new.self.now work failing starved service_failed c.ensures.ends
          (λ u. tt) (λ e. refl) (λ e fails. refl);
      counts = c.ensures.counts;
      cause = c.ensures.cause;
      time = ends (λ r m. Elapses moment_of left_of old m (MayLeaveNow (Some m.state))) c.result old c.new.self.now work failing starved service_failed c.ensures.ends
          (λ u. moves old (called (work old)) (MayLeave (work old).state) (λ left now. now) [] refl (λ left p. inl (not_printed old.state left p)))
          (λ e. stays old (called (starving (service_failed (starved old)))) (MayLeave (starved old).state) (λ left now. now) refl (λ left now. now))
          (λ e fails. stays old (called (service_failed (failing old))) (MayLeave (failing old).state) (λ left now. now) refl (λ left now. now));
      goes = ends (λ r m. GoesOn old m) c.result old c.new.self.now work failing starved service_failed c.ensures.ends
          (λ u. goes_well old (work old).state (work old).past (record { inputs = refl; output = ([], sym (append-nil old.state.output)); restarts = (c.args.service.now ∷ [], refl) }))
          (λ e. goes_hungry old (starved old).state (starved old).past (service_fault old.counts) (keeps old.state (starved old).state refl refl refl) (service_fell old.counts))
          (λ e fails. goes_faulty old (failing old).state (failing old).past (service_fault old.counts) (keeps old.state (failing old).state refl refl refl) (service_fell old.counts) fails);
    }
