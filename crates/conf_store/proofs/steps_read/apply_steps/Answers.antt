use Rattle.std.proofs.Common.{◌-◌, None, Some, arith, refl}
use Rattle.std.proofs.lemmas.Result.{err_from_is_err_and}
use Rattle.conf_doc.specs.Trees.{document}
use Rattle.conf_store.specs.Files.{step_name}
use Rattle.conf_store.proofs.Finds.{has_file}
use Rattle.conf_store.proofs.Reading.{reads_on}
use Rattle.conf_store.proofs.StepCount.{count_ends, count_missing, count_next, is_last}
use Rattle.conf_store.proofs.StepWalk.{behind_steps, walk_ends, walk_fails, walk_missing, walk_next, within_steps}
use Rattle.conf_store.proofs.steps_read.apply_steps.Goals as goal

-- there is no such file
pub returns-in-None-clause-found : goal.returns-in-None-clause-found
returns-in-None-clause-found g c =
    walk_missing (g.H.Host.told c.args.host.now) (document c.args.start) (document c.loop-n.tree) c.loop-n.n
    (within_steps c.loop-n.n (omega (arith, c.loop-n-test.true))) c.loop-n.invariant.same
    (has_file (g.H.Host.told c.args.host.now) (g.H.Host.told c.loop-n.host) c.loop-n.invariant.reads.state (step_name c.loop-n.n) c.in_ok-read_step_file.field-0 None c.in-None.is c.in_ok-read_step_file.ensures.found)

pub returns-in-None-clause-counted : goal.returns-in-None-clause-counted
returns-in-None-clause-counted g c =
    count_missing (g.H.Host.told c.args.host.now) c.loop-n.n (c.loop-n.n - 1) (omega arith)
    (within_steps c.loop-n.n (omega (arith, c.loop-n-test.true))) c.loop-n.invariant.counted
    (has_file (g.H.Host.told c.args.host.now) (g.H.Host.told c.loop-n.host) c.loop-n.invariant.reads.state (step_name c.loop-n.n) c.in_ok-read_step_file.field-0 None c.in-None.is c.in_ok-read_step_file.ensures.found)

-- its step isn't applied
pub returns-in_err-tree-in-Some-clause-found : goal.returns-in_err-tree-in-Some-clause-found
returns-in_err-tree-in-Some-clause-found g c =
    let p = err_from_is_err_and c.from_residual-in_err-tree-in-Some.result c.from_residual-in_err-tree-in-Some.ensures.1 in
    rw (p.1, p.2)
    (walk_fails (g.H.Host.told c.args.host.now) (document c.args.start) (document c.loop-n.tree) c.loop-n.n c.in-Some.bytes.items c.in_err-tree-in-Some.field-0.0
    (within_steps c.loop-n.n (omega (arith, c.loop-n-test.true))) c.loop-n.invariant.same
    (has_file (g.H.Host.told c.args.host.now) (g.H.Host.told c.loop-n.host) c.loop-n.invariant.reads.state (step_name c.loop-n.n) c.in_ok-read_step_file.field-0 (Some c.in-Some.bytes) c.in-Some.is c.in_ok-read_step_file.ensures.found)
    (rw c.deref.ensures.value at c.in_err-tree-in-Some.ensures.left))

-- it is
pub loop-n-preserved : goal.loop-n-preserved
loop-n-preserved g c = record {
  same =
      walk_next (g.H.Host.told c.args.host.now) (document c.args.start) (document c.loop-n.tree) c.loop-n.n c.in-Some.bytes.items (document c.in_ok-tree-in-Some.tree)
      (within_steps c.loop-n.n (omega (arith, c.loop-n-test.true))) c.loop-n.invariant.same
      (has_file (g.H.Host.told c.args.host.now) (g.H.Host.told c.loop-n.host) c.loop-n.invariant.reads.state (step_name c.loop-n.n) c.in_ok-read_step_file.field-0 (Some c.in-Some.bytes) c.in-Some.is c.in_ok-read_step_file.ensures.found)
      (rw c.deref.ensures.value at c.in_ok-tree-in-Some.ensures.left);
  counted =
      count_next (g.H.Host.told c.args.host.now) c.loop-n.n c.in-Some.bytes.items
      (within_steps c.loop-n.n (omega (arith, c.loop-n-test.true))) c.loop-n.invariant.counted
      (has_file (g.H.Host.told c.args.host.now) (g.H.Host.told c.loop-n.host) c.loop-n.invariant.reads.state (step_name c.loop-n.n) c.in_ok-read_step_file.field-0 (Some c.in-Some.bytes) c.in-Some.is c.in_ok-read_step_file.ensures.found);
  shaped = c.in_ok-tree-in-Some.ensures.shaped;
  reads =
      reads_on g.H.Host.told g.H.Host.counts g.H.Host.moment g.H.Host.left_since g.H.Host.goes_on g.met.H.Host.continues
      c.args.host.now c.loop-n.host c.read_step_file.new.host c.loop-n.invariant.reads c.read_step_file.ensures.reads;
}

-- all numbers are there
pub returns-clause-found : goal.returns-clause-found
returns-clause-found g c =
    walk_ends (g.H.Host.told c.args.host.now) (document c.args.start) (document c.loop-n.tree) c.loop-n.n
    (behind_steps c.loop-n.n (omega (arith, c.loop-n-test.false, c.loop-n.auto.n-end))) c.loop-n.invariant.same

pub returns-clause-counted : goal.returns-clause-counted
returns-clause-counted g c =
    count_ends (g.H.Host.told c.args.host.now) c.loop-n.n 999999 (is_last 999999 refl)
    (behind_steps c.loop-n.n (omega (arith, c.loop-n-test.false, c.loop-n.auto.n-end))) c.loop-n.invariant.counted
