-- The end of a change without steps: its intent is removed, or that fails.
use Rattle.std.proofs.Common.{◌∙◌}
use Rattle.command_answers.proofs.Causes.{disk_fell}
use Rattle.writing_commands.proofs.ChangeEnds.{disk_printed}
use Rattle.writing_commands.proofs.Changes.{cause_from}
use Rattle.writing_commands.proofs.Closing.{can_close, closed_clean, closed_ends, closed_gone, closed_leaves, closed_stands_for, closing_fault, fault_leaves, first_line}
use Rattle.writing_commands.proofs.changing.close_stopped.Goals as goal

pub close-requires-clause-ready : goal.close-requires-clause-ready
close-requires-clause-ready g c =
    can_close c.args.change.now.ready (g.H.Host.told c.args.host.now) c.requires.clean c.requires.over

-- ---- it is closed

pub do_steps-requires-clause-clean : goal.do_steps-requires-clause-clean
do_steps-requires-clause-clean g c =
    closed_clean c.args.change.now.ready (g.H.Host.told c.args.host.now) (g.H.Host.told c.close.new.host)
    c.in-Ok.ensures.ok

pub do_steps-requires-clause-stands : goal.do_steps-requires-clause-stands
do_steps-requires-clause-stands g c =
    closed_stands_for c.args.change.now.ready (g.H.Host.told c.args.host.now) (g.H.Host.told c.close.new.host)
    c.in-Ok.ensures.ok c.requires.stands

pub do_steps-requires-clause-closed : goal.do_steps-requires-clause-closed
do_steps-requires-clause-closed g c =
    closed_gone c.args.change.now.ready (g.H.Host.told c.args.host.now) (g.H.Host.told c.close.new.host)
    c.in-Ok.ensures.ok

pub returns-in-Ok-clause-answers : goal.returns-in-Ok-clause-answers
returns-in-Ok-clause-answers g c =
    closed_ends c.args.change.now.ready (g.H.Host.told c.args.host.now) (g.H.Host.told c.close.new.host)
    (g.H.Host.told c.do_steps.new.host)
    (g.H.Host.counts c.args.host.now) (g.H.Host.counts c.close.new.host) (g.H.Host.counts c.do_steps.new.host)
    c.do_steps.result c.requires.over c.in-Ok.ensures.ok
    (disk_fell (g.H.Host.counts c.args.host.now) (g.H.Host.counts c.close.new.host) c.close.ensures.counts)
    c.do_steps.ensures.answers

pub returns-in-Ok-clause-cause : goal.returns-in-Ok-clause-cause
returns-in-Ok-clause-cause g c =
    cause_from (g.H.Host.counts c.args.host.now) (g.H.Host.counts c.close.new.host)
    (g.H.Host.counts c.do_steps.new.host) c.do_steps.result
    (disk_fell (g.H.Host.counts c.args.host.now) (g.H.Host.counts c.close.new.host) c.close.ensures.counts)
    c.do_steps.ensures.cause

pub returns-in-Ok-clause-any_moment : goal.returns-in-Ok-clause-any_moment
returns-in-Ok-clause-any_moment g c =
    closed_leaves c.args.change.now.ready g.H.Host.moment g.H.Host.left_since (g.H.Host.told c.args.host.now)
    (g.H.Host.told c.close.new.host)
    c.args.host.now c.close.new.host c.do_steps.new.host c.requires.clean c.requires.stands c.requires.over
    c.in-Ok.ensures.ok c.close.ensures.any_moment c.do_steps.ensures.any_moment

pub returns-in-Ok-clause-goes : goal.returns-in-Ok-clause-goes
returns-in-Ok-clause-goes g c =
    g.met.H.Host.continues c.args.host.now c.close.new.host c.do_steps.new.host c.close.ensures.goes
    c.do_steps.ensures.goes

-- ---- a fault of the disk

pub returns-in-Err-clause-answers : goal.returns-in-Err-clause-answers
returns-in-Err-clause-answers g c =
    closing_fault c.args.change.now.ready (g.H.Host.told c.args.host.now) (g.H.Host.told c.close.new.host)
    (g.H.Host.told c.end.new.host)
    (g.H.Host.counts c.args.host.now) (g.H.Host.counts c.close.new.host) (g.H.Host.counts c.end.new.host) c.end.result
    c.disk_line-line.result.now
    (c.disk_line-line.ensures ∙ first_line c.args.change.now c.requires.bytes)
    c.requires.clean c.requires.stands c.requires.over c.in-Err.ensures.err
    (disk_printed (g.H.Host.counts c.args.host.now) (g.H.Host.counts c.close.new.host) (g.H.Host.counts c.end.new.host)
    c.end.ensures.counts c.in-Err.ensures.cause)
    c.end.ensures.ended

pub returns-in-Err-clause-any_moment : goal.returns-in-Err-clause-any_moment
returns-in-Err-clause-any_moment g c =
    fault_leaves c.args.change.now.ready g.H.Host.moment g.H.Host.left_since (g.H.Host.told c.args.host.now)
    (g.H.Host.told c.close.new.host) c.disk_line-line.result.now
    c.args.host.now c.close.new.host c.end.new.host
    (c.disk_line-line.ensures ∙ first_line c.args.change.now c.requires.bytes)
    c.requires.clean c.requires.stands c.requires.over c.in-Err.ensures.err c.close.ensures.any_moment
    c.end.ensures.time

pub returns-in-Err-clause-goes : goal.returns-in-Err-clause-goes
returns-in-Err-clause-goes g c =
    g.met.H.Host.continues c.args.host.now c.close.new.host c.end.new.host c.close.ensures.goes c.end.ensures.goes
