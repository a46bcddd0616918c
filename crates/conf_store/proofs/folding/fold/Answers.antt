use Rattle.std.specs.Prelude.{IfSome}
use Rattle.std.specs.List.{AllPass}
use Rattle.std.proofs.Common.{◌≡◌, [], subst, sym}
use Rattle.host_core.specs.State.{rename}
use Rattle.conf_store.specs.Clearing.{IsClearing, IsDone, IsDoneOrNot, KeepsRest}
use Rattle.conf_store.specs.Files.{config_file, folded_file, is_step_name, step_names}
use Rattle.conf_store.specs.Folds.{IsBegun, IsFolded, KeepsStored}
use Rattle.conf_store.proofs.Counting.{on_err, rises_on, rose_later}
use Rattle.conf_store.proofs.FoldStages.{Cleared, clears, ending, ends, may_end, steps_to_take, taking}
use Rattle.conf_store.proofs.Moments.{changes_behind, joins, settled_clean, settled_files, settles_behind}
use Rattle.conf_store.proofs.folding.fold.Goals as goal

-- ---- what each part needs
pub remove_steps-requires-clause-ready : goal.remove_steps-requires-clause-ready
remove_steps-requires-clause-ready g c =
    settled_clean (IsBegun c.args.bytes.now) (g.H.Host.told c.args.host.now) (g.H.Host.told c.begin_fold.new.host) c.in_ok-begin_fold.ensures.ok

pub remove_steps-requires-clause-steps : goal.remove_steps-requires-clause-steps
remove_steps-requires-clause-steps g c =
    subst (λ names. IfSome (g.H.Host.told c.begin_fold.new.host) (λ s. step_names s.files ≡ names)) (sym c.items.ensures)
    (settled_files (IsBegun c.args.bytes.now) (λ f. step_names f ≡ c.args.stored.now.steps) (g.H.Host.told c.args.host.now) (g.H.Host.told c.begin_fold.new.host) c.in_ok-begin_fold.ensures.ok (steps_to_take c.args.stored.now c.args.bytes.now c.requires.bytes (g.H.Host.told c.args.host.now) c.requires.stands))

pub remove_steps-requires-clause-names : goal.remove_steps-requires-clause-names
remove_steps-requires-clause-names g c = subst (AllPass is_step_name) (sym c.items.ensures) c.requires.names

pub rename_file-requires-clause-ready : goal.rename_file-requires-clause-ready
rename_file-requires-clause-ready g c =
    may_end c.args.bytes.now (g.H.Host.told c.args.host.now) (g.H.Host.told c.remove_steps.new.host) (settles_behind (IsBegun c.args.bytes.now) (IsClearing []) (Cleared c.args.bytes.now) (g.H.Host.told c.args.host.now) (g.H.Host.told c.begin_fold.new.host) (g.H.Host.told c.remove_steps.new.host) (clears c.args.bytes.now (g.H.Host.told c.args.host.now)) c.in_ok-begin_fold.ensures.ok c.in_ok-remove_steps.ensures.ok)

-- ---- where a call fails
pub returns-in_err-remove_steps-clause-err : goal.returns-in_err-remove_steps-clause-err
returns-in_err-remove_steps-clause-err g c =
    on_err c.from_residual-in_err-remove_steps.result
    (changes_behind (IsBegun c.args.bytes.now) KeepsRest KeepsStored (g.H.Host.told c.args.host.now) (g.H.Host.told c.begin_fold.new.host) (g.H.Host.told c.remove_steps.new.host) (taking c.args.bytes.now (g.H.Host.told c.args.host.now)) c.in_ok-begin_fold.ensures.ok c.in_err-remove_steps.ensures.err)

pub returns-in_err-remove_steps-clause-any_moment : goal.returns-in_err-remove_steps-clause-any_moment
returns-in_err-remove_steps-clause-any_moment g c =
    joins g.H.Host.moment g.H.Host.left_since (IsBegun c.args.bytes.now) KeepsRest KeepsStored (g.H.Host.told c.args.host.now) (g.H.Host.told c.begin_fold.new.host) (taking c.args.bytes.now (g.H.Host.told c.args.host.now)) c.in_ok-begin_fold.ensures.ok c.args.host.now c.begin_fold.new.host c.remove_steps.new.host c.begin_fold.ensures.any_moment c.remove_steps.ensures.any_moment

pub returns-in_err-remove_steps-clause-counts : goal.returns-in_err-remove_steps-clause-counts
returns-in_err-remove_steps-clause-counts g c =
    rises_on (g.H.Host.counts c.args.host.now) (g.H.Host.counts c.begin_fold.new.host) (g.H.Host.counts c.remove_steps.new.host) c.begin_fold.ensures.counts c.remove_steps.ensures.counts

pub returns-in_err-remove_steps-clause-cause : goal.returns-in_err-remove_steps-clause-cause
returns-in_err-remove_steps-clause-cause g c =
    on_err c.from_residual-in_err-remove_steps.result (rose_later (g.H.Host.counts c.args.host.now) (g.H.Host.counts c.begin_fold.new.host) (g.H.Host.counts c.remove_steps.new.host) c.begin_fold.ensures.counts c.in_err-remove_steps.ensures.cause)

pub returns-in_err-remove_steps-clause-goes : goal.returns-in_err-remove_steps-clause-goes
returns-in_err-remove_steps-clause-goes g c =
    g.met.H.Host.continues c.args.host.now c.begin_fold.new.host c.remove_steps.new.host c.begin_fold.ensures.goes c.remove_steps.ensures.goes

pub returns-in_err-rename_file-clause-err : goal.returns-in_err-rename_file-clause-err
returns-in_err-rename_file-clause-err g c =
    on_err c.from_residual-in_err-rename_file.result
    (changes_behind (Cleared c.args.bytes.now) (IsDoneOrNot (rename folded_file config_file)) KeepsStored (g.H.Host.told c.args.host.now) (g.H.Host.told c.remove_steps.new.host) (g.H.Host.told c.rename_file.new.host) (ending c.args.bytes.now (g.H.Host.told c.args.host.now)) (settles_behind (IsBegun c.args.bytes.now) (IsClearing []) (Cleared c.args.bytes.now) (g.H.Host.told c.args.host.now) (g.H.Host.told c.begin_fold.new.host) (g.H.Host.told c.remove_steps.new.host) (clears c.args.bytes.now (g.H.Host.told c.args.host.now)) c.in_ok-begin_fold.ensures.ok c.in_ok-remove_steps.ensures.ok) c.in_err-rename_file.ensures.err)

pub returns-in_err-rename_file-clause-any_moment : goal.returns-in_err-rename_file-clause-any_moment
returns-in_err-rename_file-clause-any_moment g c =
    joins g.H.Host.moment g.H.Host.left_since (Cleared c.args.bytes.now) (IsDoneOrNot (rename folded_file config_file)) KeepsStored (g.H.Host.told c.args.host.now) (g.H.Host.told c.remove_steps.new.host) (ending c.args.bytes.now (g.H.Host.told c.args.host.now)) (settles_behind (IsBegun c.args.bytes.now) (IsClearing []) (Cleared c.args.bytes.now) (g.H.Host.told c.args.host.now) (g.H.Host.told c.begin_fold.new.host) (g.H.Host.told c.remove_steps.new.host) (clears c.args.bytes.now (g.H.Host.told c.args.host.now)) c.in_ok-begin_fold.ensures.ok c.in_ok-remove_steps.ensures.ok) c.args.host.now c.remove_steps.new.host c.rename_file.new.host
    (joins g.H.Host.moment g.H.Host.left_since (IsBegun c.args.bytes.now) KeepsRest KeepsStored (g.H.Host.told c.args.host.now) (g.H.Host.told c.begin_fold.new.host) (taking c.args.bytes.now (g.H.Host.told c.args.host.now)) c.in_ok-begin_fold.ensures.ok c.args.host.now c.begin_fold.new.host c.remove_steps.new.host c.begin_fold.ensures.any_moment c.remove_steps.ensures.any_moment)
    c.rename_file.ensures.any_moment

pub returns-in_err-rename_file-clause-counts : goal.returns-in_err-rename_file-clause-counts
returns-in_err-rename_file-clause-counts g c =
    rises_on (g.H.Host.counts c.args.host.now) (g.H.Host.counts c.remove_steps.new.host) (g.H.Host.counts c.rename_file.new.host) (rises_on (g.H.Host.counts c.args.host.now) (g.H.Host.counts c.begin_fold.new.host) (g.H.Host.counts c.remove_steps.new.host) c.begin_fold.ensures.counts c.remove_steps.ensures.counts) c.rename_file.ensures.counts

pub returns-in_err-rename_file-clause-cause : goal.returns-in_err-rename_file-clause-cause
returns-in_err-rename_file-clause-cause g c =
    on_err c.from_residual-in_err-rename_file.result (rose_later (g.H.Host.counts c.args.host.now) (g.H.Host.counts c.remove_steps.new.host) (g.H.Host.counts c.rename_file.new.host) (rises_on (g.H.Host.counts c.args.host.now) (g.H.Host.counts c.begin_fold.new.host) (g.H.Host.counts c.remove_steps.new.host) c.begin_fold.ensures.counts c.remove_steps.ensures.counts) c.in_err-rename_file.ensures.cause)

pub returns-in_err-rename_file-clause-goes : goal.returns-in_err-rename_file-clause-goes
returns-in_err-rename_file-clause-goes g c =
    g.met.H.Host.continues c.args.host.now c.remove_steps.new.host c.rename_file.new.host (g.met.H.Host.continues c.args.host.now c.begin_fold.new.host c.remove_steps.new.host c.begin_fold.ensures.goes c.remove_steps.ensures.goes) c.rename_file.ensures.goes

-- ---- once it is done
pub returns-clause-ok : goal.returns-clause-ok
returns-clause-ok g c =
    settles_behind (Cleared c.args.bytes.now) (IsDone (rename folded_file config_file)) (IsFolded c.args.bytes.now) (g.H.Host.told c.args.host.now) (g.H.Host.told c.remove_steps.new.host) (g.H.Host.told c.rename_file.new.host) (ends c.args.bytes.now (g.H.Host.told c.args.host.now)) (settles_behind (IsBegun c.args.bytes.now) (IsClearing []) (Cleared c.args.bytes.now) (g.H.Host.told c.args.host.now) (g.H.Host.told c.begin_fold.new.host) (g.H.Host.told c.remove_steps.new.host) (clears c.args.bytes.now (g.H.Host.told c.args.host.now)) c.in_ok-begin_fold.ensures.ok c.in_ok-remove_steps.ensures.ok) c.in_ok-rename_file.ensures.ok

pub returns-clause-any_moment : goal.returns-clause-any_moment
returns-clause-any_moment g c =
    joins g.H.Host.moment g.H.Host.left_since (Cleared c.args.bytes.now) (IsDoneOrNot (rename folded_file config_file)) KeepsStored (g.H.Host.told c.args.host.now) (g.H.Host.told c.remove_steps.new.host) (ending c.args.bytes.now (g.H.Host.told c.args.host.now)) (settles_behind (IsBegun c.args.bytes.now) (IsClearing []) (Cleared c.args.bytes.now) (g.H.Host.told c.args.host.now) (g.H.Host.told c.begin_fold.new.host) (g.H.Host.told c.remove_steps.new.host) (clears c.args.bytes.now (g.H.Host.told c.args.host.now)) c.in_ok-begin_fold.ensures.ok c.in_ok-remove_steps.ensures.ok) c.args.host.now c.remove_steps.new.host c.rename_file.new.host
    (joins g.H.Host.moment g.H.Host.left_since (IsBegun c.args.bytes.now) KeepsRest KeepsStored (g.H.Host.told c.args.host.now) (g.H.Host.told c.begin_fold.new.host) (taking c.args.bytes.now (g.H.Host.told c.args.host.now)) c.in_ok-begin_fold.ensures.ok c.args.host.now c.begin_fold.new.host c.remove_steps.new.host c.begin_fold.ensures.any_moment c.remove_steps.ensures.any_moment)
    c.rename_file.ensures.any_moment

pub returns-clause-counts : goal.returns-clause-counts
returns-clause-counts g c =
    rises_on (g.H.Host.counts c.args.host.now) (g.H.Host.counts c.remove_steps.new.host) (g.H.Host.counts c.rename_file.new.host) (rises_on (g.H.Host.counts c.args.host.now) (g.H.Host.counts c.begin_fold.new.host) (g.H.Host.counts c.remove_steps.new.host) c.begin_fold.ensures.counts c.remove_steps.ensures.counts) c.rename_file.ensures.counts

pub returns-clause-goes : goal.returns-clause-goes
returns-clause-goes g c =
    g.met.H.Host.continues c.args.host.now c.remove_steps.new.host c.rename_file.new.host (g.met.H.Host.continues c.args.host.now c.begin_fold.new.host c.remove_steps.new.host c.begin_fold.ensures.goes c.remove_steps.ensures.goes) c.rename_file.ensures.goes
