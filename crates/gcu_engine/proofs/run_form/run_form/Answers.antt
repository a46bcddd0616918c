use Rattle.std.proofs.Common.{◌≡◌, ℕ, List, None, Some, IsSome, refl, ap, sym, ◌∙◌, ◌++◌}
use Rattle.conf_doc.specs.Trees.{document}
use Rattle.gcu_output.specs.Lines.{last_line}
use Rattle.gcu_output.specs.Printing.{text_in_lines}
use Rattle.gcu_output.specs.declared.outcomes.Outcome.{Outcome}
use Rattle.gcu_output.specs.declared.outcomes.Outcome.TheVariants.{Usage, Done}
use Rattle.gcu_words.specs.Form.{abandon, check, form, list_checkpoints, migrate_checkpoints, status}
use Rattle.gcu_words.specs.FormView.{form_view, task_view}
use Rattle.gcu_words.specs.declared.form.Form.{Form}
use Rattle.command_answers.specs.Answers.{TellsUsage}
use Rattle.command_answers.proofs.Causes.{reads_fell}
use Rattle.command_answers.proofs.Completing.{complete_by}
use Rattle.gcu_engine.proofs.Headlines.{early_keeps_all, query_keeps_all}
use Rattle.command_answers.proofs.Elapsing.{changes_by, command_leaves, command_leaves_behind, leaves_by, migrates_by}
use Rattle.command_answers.proofs.Answering.{answers_by, said_answers, done_completes, said_completes, no_form_says, preview_says, preview_refuses, refused_cause}
use Rattle.gcu_engine.proofs.Resuming.{never_resumes, resumes}
use Rattle.gcu_engine.proofs.Settling.{never_settles, never_writes, settles, settles_migration, settles_writes}
use Rattle.gcu_engine.proofs.run_form.run_form.Goals as goal

-- words of a command whose form is that
of : (words : List (List ℕ)) (e f : Form) → form words ≡ form_view e → e ≡ f → form_view f ≡ form words
of words e f is at = sym (is ∙ ap form_view at)

-- a command isn't told that it is none
told_usage : (e f : Form) (r : Outcome) → e ≡ f → IsSome (form_view f) → form_view e ≡ None → TellsUsage r
told_usage e f r at some none = let gone : form_view f ≡ None = sym (ap form_view at) ∙ none in absurd cc

-- the words are no command
pub returns-in-Unknown-clause-answers : goal.returns-in-Unknown-clause-answers
returns-in-Unknown-clause-answers g c words is =
    said_answers words (g.H.Host.told c.args.host.now) (g.H.Host.told c.refuse_words.new.host) (g.H.Host.counts c.args.host.now) (g.H.Host.counts c.args.host.now) (g.H.Host.counts c.refuse_words.new.host)
    Usage (last_line Usage) c.refuse_words.result c.refuse_words.ensures.said c.refuse_words.ensures.counts tt
    (no_form_says words (g.H.Host.told c.args.host.now) (sym (of words c.args.command _ is c.in-Unknown.is)))

-- a preview
pub returns-in-Ok-clause-answers : goal.returns-in-Ok-clause-answers
returns-in-Ok-clause-answers g c words is =
    said_answers words (g.H.Host.told c.args.host.now) (g.H.Host.told c.show.new.host) (g.H.Host.counts c.args.host.now) (g.H.Host.counts c.preview.new.host) (g.H.Host.counts c.show.new.host)
    Done (text_in_lines (document c.in-Ok.tree) ++ last_line Done) c.show.result (rw c.in-Ok.ensures.reads.state at c.show.ensures.said) c.show.ensures.counts tt
    (preview_says words _ (g.H.Host.told c.args.host.now) c.in-Ok.tree (sym (of words c.args.command _ is c.in-Preview.is)) c.in-Ok.ensures.answer)

-- a refused preview
pub returns-in-Err-clause-answers : goal.returns-in-Err-clause-answers
returns-in-Err-clause-answers g c words is =
    said_answers words (g.H.Host.told c.args.host.now) (g.H.Host.told c.say.new.host) (g.H.Host.counts c.args.host.now) (g.H.Host.counts c.preview.new.host) (g.H.Host.counts c.say.new.host)
    c.in-Err.outcome (last_line c.in-Err.outcome) c.say.result (rw c.in-Err.ensures.reads.state at c.say.ensures.said) c.say.ensures.counts
    (refused_cause (g.H.Host.counts c.args.host.now) (g.H.Host.counts c.preview.new.host) c.in-Err.outcome c.in-Err.ensures.cause)
    (preview_refuses words _ (g.H.Host.told c.args.host.now) c.in-Err.outcome (g.H.Host.counts c.args.host.now) (g.H.Host.counts c.preview.new.host) (sym (of words c.args.command _ is c.in-Preview.is)) c.in-Err.ensures.cause c.in-Err.ensures.answer)

-- ---- time

pub returns-in-Unknown-clause-crash : goal.returns-in-Unknown-clause-crash
returns-in-Unknown-clause-crash g c words is =
    command_leaves g.H.Host.moment g.H.Host.left_since words None c.args.host.now c.refuse_words.new.host (g.H.Host.told c.args.host.now) Usage (last_line Usage) (of words c.args.command _ is c.in-Unknown.is) (λ s left h. h)
    (no_form_says words (g.H.Host.told c.args.host.now) (sym (of words c.args.command _ is c.in-Unknown.is))) (λ left since. g.met.H.Host.only_now c.args.host.now left since) c.refuse_words.ensures.time

pub returns-in-Ok-clause-crash : goal.returns-in-Ok-clause-crash
returns-in-Ok-clause-crash g c words is =
    command_leaves_behind g.H.Host.moment g.H.Host.left_since words _ c.args.host.now c.preview.new.host c.show.new.host
    (g.H.Host.told c.args.host.now) (g.H.Host.told c.preview.new.host) Done (text_in_lines (document c.in-Ok.tree) ++ last_line Done) (of words c.args.command _ is c.in-Preview.is) (λ s left h. h)
    (preview_says words _ (g.H.Host.told c.args.host.now) c.in-Ok.tree (sym (of words c.args.command _ is c.in-Preview.is)) c.in-Ok.ensures.answer) c.preview.ensures.reads.state
    (λ left since. g.met.H.Host.only_now c.args.host.now left since) c.preview.ensures.reads.time c.show.ensures.time

pub returns-in-Err-clause-crash : goal.returns-in-Err-clause-crash
returns-in-Err-clause-crash g c words is =
    command_leaves_behind g.H.Host.moment g.H.Host.left_since words _ c.args.host.now c.preview.new.host c.say.new.host
    (g.H.Host.told c.args.host.now) (g.H.Host.told c.preview.new.host) c.in-Err.outcome (last_line c.in-Err.outcome) (of words c.args.command _ is c.in-Preview.is) (λ s left h. h)
    (preview_refuses words _ (g.H.Host.told c.args.host.now) c.in-Err.outcome (g.H.Host.counts c.args.host.now) (g.H.Host.counts c.preview.new.host) (sym (of words c.args.command _ is c.in-Preview.is)) c.in-Err.ensures.cause c.in-Err.ensures.answer) c.preview.ensures.reads.state
    (λ left since. g.met.H.Host.only_now c.args.host.now left since) c.preview.ensures.reads.time c.say.ensures.time

pub returns-in-Ok-clause-goes : goal.returns-in-Ok-clause-goes
returns-in-Ok-clause-goes g c =
    g.met.H.Host.continues c.args.host.now c.preview.new.host c.show.new.host c.preview.ensures.reads.goes c.show.ensures.goes

pub returns-in-Err-clause-goes : goal.returns-in-Err-clause-goes
returns-in-Err-clause-goes g c =
    g.met.H.Host.continues c.args.host.now c.preview.new.host c.say.new.host c.preview.ensures.reads.goes c.say.ensures.goes

-- ---- where nothing failed

pub returns-in-Err-clause-complete : goal.returns-in-Err-clause-complete
returns-in-Err-clause-complete g c words is =
    said_completes words _ (g.H.Host.told c.args.host.now) (g.H.Host.told c.say.new.host) (g.H.Host.told c.preview.new.host)
    (g.H.Host.counts c.args.host.now) (g.H.Host.counts c.preview.new.host) (g.H.Host.counts c.say.new.host)
    c.in-Err.outcome c.say.result (sym (of words c.args.command _ is c.in-Preview.is)) c.say.ensures.said c.say.ensures.counts
    (reads_fell c.in-Err.ensures.reads.faults) c.in-Err.ensures.cause c.in-Err.ensures.answer

pub returns-in-Ok-clause-complete : goal.returns-in-Ok-clause-complete
returns-in-Ok-clause-complete g c words is =
    done_completes words _ (text_in_lines (document c.in-Ok.tree) ++ last_line Done) (g.H.Host.told c.args.host.now) (g.H.Host.told c.show.new.host) (g.H.Host.told c.preview.new.host)
    (g.H.Host.counts c.args.host.now) (g.H.Host.counts c.preview.new.host) (g.H.Host.counts c.show.new.host)
    c.in-Ok.tree c.show.result (sym (of words c.args.command _ is c.in-Preview.is)) c.show.ensures.said (reads_fell c.in-Ok.ensures.reads.faults) c.in-Ok.ensures.answer

-- ---- commands in functions of their own

pub returns-in-Check-clause-answers : goal.returns-in-Check-clause-answers
returns-in-Check-clause-answers g c words is =
    answers_by words (Some check) (g.H.Host.told c.args.host.now) (g.H.Host.told c.check.new.host) (g.H.Host.counts c.args.host.now) (g.H.Host.counts c.check.new.host) c.check.result
    (of words c.args.command _ is c.in-Check.is) c.check.ensures.answers

pub returns-in-Check-clause-crash : goal.returns-in-Check-clause-crash
returns-in-Check-clause-crash g c words is =
    leaves_by g.H.Host.moment g.H.Host.left_since words (Some check) c.args.host.now c.check.new.host (g.H.Host.told c.args.host.now) (of words c.args.command _ is c.in-Check.is) (λ s left h. h) c.check.ensures.crash

pub returns-in-Check-clause-complete : goal.returns-in-Check-clause-complete
returns-in-Check-clause-complete g c words is =
    complete_by words (Some check) (g.H.Host.told c.args.host.now) (g.H.Host.counts c.args.host.now) (g.H.Host.counts c.check.new.host) c.check.result
    (of words c.args.command _ is c.in-Check.is) c.check.ensures.complete

pub returns-in-ListCheckpoints-clause-answers : goal.returns-in-ListCheckpoints-clause-answers
returns-in-ListCheckpoints-clause-answers g c words is =
    answers_by words (Some list_checkpoints) (g.H.Host.told c.args.host.now) (g.H.Host.told c.list_checkpoints.new.host) (g.H.Host.counts c.args.host.now) (g.H.Host.counts c.list_checkpoints.new.host) c.list_checkpoints.result
    (of words c.args.command _ is c.in-ListCheckpoints.is) c.list_checkpoints.ensures.answers

pub returns-in-ListCheckpoints-clause-crash : goal.returns-in-ListCheckpoints-clause-crash
returns-in-ListCheckpoints-clause-crash g c words is =
    leaves_by g.H.Host.moment g.H.Host.left_since words (Some list_checkpoints) c.args.host.now c.list_checkpoints.new.host (g.H.Host.told c.args.host.now) (of words c.args.command _ is c.in-ListCheckpoints.is) (λ s left h. h) c.list_checkpoints.ensures.crash

pub returns-in-ListCheckpoints-clause-complete : goal.returns-in-ListCheckpoints-clause-complete
returns-in-ListCheckpoints-clause-complete g c words is =
    complete_by words (Some list_checkpoints) (g.H.Host.told c.args.host.now) (g.H.Host.counts c.args.host.now) (g.H.Host.counts c.list_checkpoints.new.host) c.list_checkpoints.result
    (of words c.args.command _ is c.in-ListCheckpoints.is) c.list_checkpoints.ensures.complete

pub returns-in-MigrateCheckpoints-clause-answers : goal.returns-in-MigrateCheckpoints-clause-answers
returns-in-MigrateCheckpoints-clause-answers g c words is =
    answers_by words (Some migrate_checkpoints) (g.H.Host.told c.args.host.now) (g.H.Host.told c.migrate_checkpoints.new.host) (g.H.Host.counts c.args.host.now) (g.H.Host.counts c.migrate_checkpoints.new.host) c.migrate_checkpoints.result
    (of words c.args.command _ is c.in-MigrateCheckpoints.is) c.migrate_checkpoints.ensures.answers

pub returns-in-MigrateCheckpoints-clause-crash : goal.returns-in-MigrateCheckpoints-clause-crash
returns-in-MigrateCheckpoints-clause-crash g c words is =
    migrates_by g.H.Host.moment g.H.Host.left_since words c.args.host.now c.migrate_checkpoints.new.host (g.H.Host.told c.args.host.now) (of words c.args.command _ is c.in-MigrateCheckpoints.is) c.migrate_checkpoints.ensures.crash

pub returns-in-MigrateCheckpoints-clause-complete : goal.returns-in-MigrateCheckpoints-clause-complete
returns-in-MigrateCheckpoints-clause-complete g c words is =
    complete_by words (Some migrate_checkpoints) (g.H.Host.told c.args.host.now) (g.H.Host.counts c.args.host.now) (g.H.Host.counts c.migrate_checkpoints.new.host) c.migrate_checkpoints.result
    (of words c.args.command _ is c.in-MigrateCheckpoints.is) c.migrate_checkpoints.ensures.complete

pub returns-in-SaveCheckpoint-clause-answers : goal.returns-in-SaveCheckpoint-clause-answers
returns-in-SaveCheckpoint-clause-answers g c words is =
    answers_by words _ (g.H.Host.told c.args.host.now) (g.H.Host.told c.save_checkpoint.new.host) (g.H.Host.counts c.args.host.now) (g.H.Host.counts c.save_checkpoint.new.host) c.save_checkpoint.result
    (of words c.args.command _ is c.in-SaveCheckpoint.is) c.save_checkpoint.ensures.answers

pub returns-in-SaveCheckpoint-clause-crash : goal.returns-in-SaveCheckpoint-clause-crash
returns-in-SaveCheckpoint-clause-crash g c words is =
    leaves_by g.H.Host.moment g.H.Host.left_since words _ c.args.host.now c.save_checkpoint.new.host (g.H.Host.told c.args.host.now) (of words c.args.command _ is c.in-SaveCheckpoint.is) (λ s left h. h) c.save_checkpoint.ensures.crash

pub returns-in-SaveCheckpoint-clause-complete : goal.returns-in-SaveCheckpoint-clause-complete
returns-in-SaveCheckpoint-clause-complete g c words is =
    complete_by words _ (g.H.Host.told c.args.host.now) (g.H.Host.counts c.args.host.now) (g.H.Host.counts c.save_checkpoint.new.host) c.save_checkpoint.result
    (of words c.args.command _ is c.in-SaveCheckpoint.is) c.save_checkpoint.ensures.complete

pub returns-in-DeleteCheckpoint-clause-answers : goal.returns-in-DeleteCheckpoint-clause-answers
returns-in-DeleteCheckpoint-clause-answers g c words is =
    answers_by words _ (g.H.Host.told c.args.host.now) (g.H.Host.told c.delete_checkpoint.new.host) (g.H.Host.counts c.args.host.now) (g.H.Host.counts c.delete_checkpoint.new.host) c.delete_checkpoint.result
    (of words c.args.command _ is c.in-DeleteCheckpoint.is) c.delete_checkpoint.ensures.answers

pub returns-in-DeleteCheckpoint-clause-crash : goal.returns-in-DeleteCheckpoint-clause-crash
returns-in-DeleteCheckpoint-clause-crash g c words is =
    leaves_by g.H.Host.moment g.H.Host.left_since words _ c.args.host.now c.delete_checkpoint.new.host (g.H.Host.told c.args.host.now) (of words c.args.command _ is c.in-DeleteCheckpoint.is) (λ s left h. h) c.delete_checkpoint.ensures.crash

pub returns-in-DeleteCheckpoint-clause-complete : goal.returns-in-DeleteCheckpoint-clause-complete
returns-in-DeleteCheckpoint-clause-complete g c words is =
    complete_by words _ (g.H.Host.told c.args.host.now) (g.H.Host.counts c.args.host.now) (g.H.Host.counts c.delete_checkpoint.new.host) c.delete_checkpoint.result
    (of words c.args.command _ is c.in-DeleteCheckpoint.is) c.delete_checkpoint.ensures.complete

pub returns-in-Plan-clause-answers : goal.returns-in-Plan-clause-answers
returns-in-Plan-clause-answers g c words is =
    answers_by words _ (g.H.Host.told c.args.host.now) (g.H.Host.told c.dry_run.new.host) (g.H.Host.counts c.args.host.now) (g.H.Host.counts c.dry_run.new.host) c.dry_run.result
    (of words c.args.command _ is c.in-Plan.is) c.dry_run.ensures.does.answers

pub returns-in-Plan-clause-crash : goal.returns-in-Plan-clause-crash
returns-in-Plan-clause-crash g c words is =
    leaves_by g.H.Host.moment g.H.Host.left_since words _ c.args.host.now c.dry_run.new.host (g.H.Host.told c.args.host.now) (of words c.args.command _ is c.in-Plan.is) (λ s left h. h) c.dry_run.ensures.does.crash

pub returns-in-Plan-clause-complete : goal.returns-in-Plan-clause-complete
returns-in-Plan-clause-complete g c words is =
    complete_by words _ (g.H.Host.told c.args.host.now) (g.H.Host.counts c.args.host.now) (g.H.Host.counts c.dry_run.new.host) c.dry_run.result
    (of words c.args.command _ is c.in-Plan.is) c.dry_run.ensures.does.complete

pub returns-in-Change-clause-answers : goal.returns-in-Change-clause-answers
returns-in-Change-clause-answers g c words is =
    answers_by words _ (g.H.Host.told c.args.host.now) (g.H.Host.told c.change.new.host) (g.H.Host.counts c.args.host.now) (g.H.Host.counts c.change.new.host) c.change.result
    (of words c.args.command _ is c.in-Change.is) c.change.ensures.answers

pub returns-in-Change-clause-crash : goal.returns-in-Change-clause-crash
returns-in-Change-clause-crash g c words is =
    changes_by g.H.Host.moment g.H.Host.left_since words _ _ c.args.host.now c.change.new.host (g.H.Host.told c.args.host.now) (of words c.args.command _ is c.in-Change.is) c.change.ensures.crash

pub returns-in-Change-clause-complete : goal.returns-in-Change-clause-complete
returns-in-Change-clause-complete g c words is =
    complete_by words _ (g.H.Host.told c.args.host.now) (g.H.Host.counts c.args.host.now) (g.H.Host.counts c.change.new.host) c.change.result
    (of words c.args.command _ is c.in-Change.is) c.change.ensures.complete

pub returns-in-Status-clause-answers : goal.returns-in-Status-clause-answers
returns-in-Status-clause-answers g c words is =
    answers_by words (Some status) (g.H.Host.told c.args.host.now) (g.H.Host.told c.status.new.host) (g.H.Host.counts c.args.host.now) (g.H.Host.counts c.status.new.host) c.status.result
    (of words c.args.command _ is c.in-Status.is) c.status.ensures.answers

pub returns-in-Status-clause-crash : goal.returns-in-Status-clause-crash
returns-in-Status-clause-crash g c words is =
    leaves_by g.H.Host.moment g.H.Host.left_since words (Some status) c.args.host.now c.status.new.host (g.H.Host.told c.args.host.now) (of words c.args.command _ is c.in-Status.is) (λ s left h. h) c.status.ensures.crash

pub returns-in-Status-clause-complete : goal.returns-in-Status-clause-complete
returns-in-Status-clause-complete g c words is =
    complete_by words (Some status) (g.H.Host.told c.args.host.now) (g.H.Host.counts c.args.host.now) (g.H.Host.counts c.status.new.host) c.status.result
    (of words c.args.command _ is c.in-Status.is) c.status.ensures.complete

pub returns-in-Abandon-clause-answers : goal.returns-in-Abandon-clause-answers
returns-in-Abandon-clause-answers g c words is =
    answers_by words (Some abandon) (g.H.Host.told c.args.host.now) (g.H.Host.told c.abandon.new.host) (g.H.Host.counts c.args.host.now) (g.H.Host.counts c.abandon.new.host) c.abandon.result
    (of words c.args.command _ is c.in-Abandon.is) c.abandon.ensures.answers

pub returns-in-Abandon-clause-crash : goal.returns-in-Abandon-clause-crash
returns-in-Abandon-clause-crash g c words is =
    leaves_by g.H.Host.moment g.H.Host.left_since words (Some abandon) c.args.host.now c.abandon.new.host (g.H.Host.told c.args.host.now) (of words c.args.command _ is c.in-Abandon.is) (λ s left h. h) c.abandon.ensures.crash

pub returns-in-Abandon-clause-complete : goal.returns-in-Abandon-clause-complete
returns-in-Abandon-clause-complete g c words is =
    complete_by words (Some abandon) (g.H.Host.told c.args.host.now) (g.H.Host.counts c.args.host.now) (g.H.Host.counts c.abandon.new.host) c.abandon.result
    (of words c.args.command _ is c.in-Abandon.is) c.abandon.ensures.complete

pub returns-in-Demo-clause-answers : goal.returns-in-Demo-clause-answers
returns-in-Demo-clause-answers g c words is =
    answers_by words _ (g.H.Host.told c.args.host.now) (g.H.Host.told c.demo.new.host) (g.H.Host.counts c.args.host.now) (g.H.Host.counts c.demo.new.host) c.demo.result
    (of words c.args.command _ is c.in-Demo.is) c.demo.ensures.does.answers

pub returns-in-Demo-clause-crash : goal.returns-in-Demo-clause-crash
returns-in-Demo-clause-crash g c words is =
    leaves_by g.H.Host.moment g.H.Host.left_since words _ c.args.host.now c.demo.new.host (g.H.Host.told c.args.host.now) (of words c.args.command _ is c.in-Demo.is) (λ s left h. h) c.demo.ensures.does.crash

pub returns-in-Demo-clause-complete : goal.returns-in-Demo-clause-complete
returns-in-Demo-clause-complete g c words is =
    complete_by words _ (g.H.Host.told c.args.host.now) (g.H.Host.counts c.args.host.now) (g.H.Host.counts c.demo.new.host) c.demo.result
    (of words c.args.command _ is c.in-Demo.is) c.demo.ensures.does.complete

pub returns-in-CheckPlan-clause-answers : goal.returns-in-CheckPlan-clause-answers
returns-in-CheckPlan-clause-answers g c words is =
    answers_by words _ (g.H.Host.told c.args.host.now) (g.H.Host.told c.check_plan.new.host) (g.H.Host.counts c.args.host.now) (g.H.Host.counts c.check_plan.new.host) c.check_plan.result
    (of words c.args.command _ is c.in-CheckPlan.is) c.check_plan.ensures.answers

pub returns-in-CheckPlan-clause-crash : goal.returns-in-CheckPlan-clause-crash
returns-in-CheckPlan-clause-crash g c words is =
    leaves_by g.H.Host.moment g.H.Host.left_since words _ c.args.host.now c.check_plan.new.host (g.H.Host.told c.args.host.now) (of words c.args.command _ is c.in-CheckPlan.is) (λ s left h. h) c.check_plan.ensures.crash

pub returns-in-CheckPlan-clause-complete : goal.returns-in-CheckPlan-clause-complete
returns-in-CheckPlan-clause-complete g c words is =
    complete_by words _ (g.H.Host.told c.args.host.now) (g.H.Host.counts c.args.host.now) (g.H.Host.counts c.check_plan.new.host) c.check_plan.result
    (of words c.args.command _ is c.in-CheckPlan.is) c.check_plan.ensures.complete

-- ---- a refusal leaves the files

pub returns-in-Unknown-clause-early : goal.returns-in-Unknown-clause-early
returns-in-Unknown-clause-early g c words is any =
    query_keeps_all g.H.Host.moment g.H.Host.left_since words _ (g.H.Host.told c.args.host.now) c.args.host.now
    c.refuse_words.new.host (of words c.args.command _ is c.in-Unknown.is) tt (returns-in-Unknown-clause-crash g c words is)

pub returns-in-Ok-clause-early : goal.returns-in-Ok-clause-early
returns-in-Ok-clause-early g c words is any =
    query_keeps_all g.H.Host.moment g.H.Host.left_since words _ (g.H.Host.told c.args.host.now) c.args.host.now
    c.show.new.host (of words c.args.command _ is c.in-Preview.is) tt (returns-in-Ok-clause-crash g c words is)

pub returns-in-Err-clause-early : goal.returns-in-Err-clause-early
returns-in-Err-clause-early g c words is any =
    query_keeps_all g.H.Host.moment g.H.Host.left_since words _ (g.H.Host.told c.args.host.now) c.args.host.now
    c.say.new.host (of words c.args.command _ is c.in-Preview.is) tt (returns-in-Err-clause-crash g c words is)

pub returns-in-Check-clause-early : goal.returns-in-Check-clause-early
returns-in-Check-clause-early g c words is any =
    query_keeps_all g.H.Host.moment g.H.Host.left_since words _ (g.H.Host.told c.args.host.now) c.args.host.now
    c.check.new.host (of words c.args.command _ is c.in-Check.is) tt (returns-in-Check-clause-crash g c words is)

pub returns-in-ListCheckpoints-clause-early : goal.returns-in-ListCheckpoints-clause-early
returns-in-ListCheckpoints-clause-early g c words is any =
    query_keeps_all g.H.Host.moment g.H.Host.left_since words _ (g.H.Host.told c.args.host.now) c.args.host.now
    c.list_checkpoints.new.host (of words c.args.command _ is c.in-ListCheckpoints.is) tt (returns-in-ListCheckpoints-clause-crash g c words is)

pub returns-in-MigrateCheckpoints-clause-early : goal.returns-in-MigrateCheckpoints-clause-early
returns-in-MigrateCheckpoints-clause-early g c words is any = c.migrate_checkpoints.ensures.early any

pub returns-in-SaveCheckpoint-clause-early : goal.returns-in-SaveCheckpoint-clause-early
returns-in-SaveCheckpoint-clause-early g c words is any = c.save_checkpoint.ensures.early any

pub returns-in-DeleteCheckpoint-clause-early : goal.returns-in-DeleteCheckpoint-clause-early
returns-in-DeleteCheckpoint-clause-early g c words is any = c.delete_checkpoint.ensures.early any

pub returns-in-Plan-clause-early : goal.returns-in-Plan-clause-early
returns-in-Plan-clause-early g c words is any =
    query_keeps_all g.H.Host.moment g.H.Host.left_since words _ (g.H.Host.told c.args.host.now) c.args.host.now
    c.dry_run.new.host (of words c.args.command _ is c.in-Plan.is) tt (returns-in-Plan-clause-crash g c words is)

pub returns-in-Change-clause-early : goal.returns-in-Change-clause-early
returns-in-Change-clause-early g c words is any =
    early_keeps_all g.H.Host.moment g.H.Host.left_since (task_view c.in-Change.task) c.in-Change.options.budget
    (g.H.Host.told c.args.host.now) c.args.host.now c.change.new.host (c.change.ensures.early any)

pub returns-in-Status-clause-early : goal.returns-in-Status-clause-early
returns-in-Status-clause-early g c words is any =
    query_keeps_all g.H.Host.moment g.H.Host.left_since words _ (g.H.Host.told c.args.host.now) c.args.host.now
    c.status.new.host (of words c.args.command _ is c.in-Status.is) tt (returns-in-Status-clause-crash g c words is)

pub returns-in-Abandon-clause-early : goal.returns-in-Abandon-clause-early
returns-in-Abandon-clause-early g c words is any = c.abandon.ensures.early any

pub returns-in-Demo-clause-early : goal.returns-in-Demo-clause-early
returns-in-Demo-clause-early g c words is any =
    query_keeps_all g.H.Host.moment g.H.Host.left_since words _ (g.H.Host.told c.args.host.now) c.args.host.now
    c.demo.new.host (of words c.args.command _ is c.in-Demo.is) tt (returns-in-Demo-clause-crash g c words is)

pub returns-in-CheckPlan-clause-early : goal.returns-in-CheckPlan-clause-early
returns-in-CheckPlan-clause-early g c words is any =
    query_keeps_all g.H.Host.moment g.H.Host.left_since words _ (g.H.Host.told c.args.host.now) c.args.host.now
    c.check_plan.new.host (of words c.args.command _ is c.in-CheckPlan.is) tt (returns-in-CheckPlan-clause-crash g c words is)

-- ---- what is pending

pub returns-in-Unknown-clause-settles : goal.returns-in-Unknown-clause-settles
returns-in-Unknown-clause-settles g c words is =
    never_settles g.H.Host.moment g.H.Host.left_since words c.args.host.now c.refuse_words.new.host _
    (g.H.Host.told c.args.host.now) (of words c.args.command _ is c.in-Unknown.is) tt

pub returns-in-Ok-clause-settles : goal.returns-in-Ok-clause-settles
returns-in-Ok-clause-settles g c words is =
    never_settles g.H.Host.moment g.H.Host.left_since words c.args.host.now c.show.new.host _
    (g.H.Host.told c.args.host.now) (of words c.args.command _ is c.in-Preview.is) tt

pub returns-in-Err-clause-settles : goal.returns-in-Err-clause-settles
returns-in-Err-clause-settles g c words is =
    never_settles g.H.Host.moment g.H.Host.left_since words c.args.host.now c.say.new.host _
    (g.H.Host.told c.args.host.now) (of words c.args.command _ is c.in-Preview.is) tt

pub returns-in-Check-clause-settles : goal.returns-in-Check-clause-settles
returns-in-Check-clause-settles g c words is =
    never_settles g.H.Host.moment g.H.Host.left_since words c.args.host.now c.check.new.host _
    (g.H.Host.told c.args.host.now) (of words c.args.command _ is c.in-Check.is) tt

pub returns-in-ListCheckpoints-clause-settles : goal.returns-in-ListCheckpoints-clause-settles
returns-in-ListCheckpoints-clause-settles g c words is =
    never_settles g.H.Host.moment g.H.Host.left_since words c.args.host.now c.list_checkpoints.new.host _
    (g.H.Host.told c.args.host.now) (of words c.args.command _ is c.in-ListCheckpoints.is) tt

pub returns-in-MigrateCheckpoints-clause-settles : goal.returns-in-MigrateCheckpoints-clause-settles
returns-in-MigrateCheckpoints-clause-settles g c words is =
    never_settles g.H.Host.moment g.H.Host.left_since words c.args.host.now c.migrate_checkpoints.new.host _
    (g.H.Host.told c.args.host.now) (of words c.args.command _ is c.in-MigrateCheckpoints.is) tt

pub returns-in-SaveCheckpoint-clause-settles : goal.returns-in-SaveCheckpoint-clause-settles
returns-in-SaveCheckpoint-clause-settles g c words is =
    never_settles g.H.Host.moment g.H.Host.left_since words c.args.host.now c.save_checkpoint.new.host _
    (g.H.Host.told c.args.host.now) (of words c.args.command _ is c.in-SaveCheckpoint.is) tt

pub returns-in-DeleteCheckpoint-clause-settles : goal.returns-in-DeleteCheckpoint-clause-settles
returns-in-DeleteCheckpoint-clause-settles g c words is =
    never_settles g.H.Host.moment g.H.Host.left_since words c.args.host.now c.delete_checkpoint.new.host _
    (g.H.Host.told c.args.host.now) (of words c.args.command _ is c.in-DeleteCheckpoint.is) tt

pub returns-in-Plan-clause-settles : goal.returns-in-Plan-clause-settles
returns-in-Plan-clause-settles g c words is =
    never_settles g.H.Host.moment g.H.Host.left_since words c.args.host.now c.dry_run.new.host _
    (g.H.Host.told c.args.host.now) (of words c.args.command _ is c.in-Plan.is) tt

pub returns-in-Status-clause-settles : goal.returns-in-Status-clause-settles
returns-in-Status-clause-settles g c words is =
    never_settles g.H.Host.moment g.H.Host.left_since words c.args.host.now c.status.new.host _
    (g.H.Host.told c.args.host.now) (of words c.args.command _ is c.in-Status.is) tt

pub returns-in-Abandon-clause-settles : goal.returns-in-Abandon-clause-settles
returns-in-Abandon-clause-settles g c words is =
    never_settles g.H.Host.moment g.H.Host.left_since words c.args.host.now c.abandon.new.host _
    (g.H.Host.told c.args.host.now) (of words c.args.command _ is c.in-Abandon.is) tt

pub returns-in-Demo-clause-settles : goal.returns-in-Demo-clause-settles
returns-in-Demo-clause-settles g c words is =
    never_settles g.H.Host.moment g.H.Host.left_since words c.args.host.now c.demo.new.host _
    (g.H.Host.told c.args.host.now) (of words c.args.command _ is c.in-Demo.is) tt

pub returns-in-CheckPlan-clause-settles : goal.returns-in-CheckPlan-clause-settles
returns-in-CheckPlan-clause-settles g c words is =
    never_settles g.H.Host.moment g.H.Host.left_since words c.args.host.now c.check_plan.new.host _
    (g.H.Host.told c.args.host.now) (of words c.args.command _ is c.in-CheckPlan.is) tt

pub returns-in-Change-clause-settles : goal.returns-in-Change-clause-settles
returns-in-Change-clause-settles g c words is =
    settles g.H.Host.moment g.H.Host.left_since words c.args.host.now c.change.new.host (task_view c.in-Change.task)
    c.in-Change.options.budget (g.H.Host.told c.args.host.now)
    (of words c.args.command _ is c.in-Change.is) c.change.ensures.settles

-- ---- what is pending is settled by another command that writes

pub returns-in-Unknown-clause-settles_writes : goal.returns-in-Unknown-clause-settles_writes
returns-in-Unknown-clause-settles_writes g c words is =
    never_writes g.H.Host.moment g.H.Host.left_since words c.args.host.now c.refuse_words.new.host _
    (g.H.Host.told c.args.host.now) (of words c.args.command _ is c.in-Unknown.is) tt

pub returns-in-Ok-clause-settles_writes : goal.returns-in-Ok-clause-settles_writes
returns-in-Ok-clause-settles_writes g c words is =
    never_writes g.H.Host.moment g.H.Host.left_since words c.args.host.now c.show.new.host _
    (g.H.Host.told c.args.host.now) (of words c.args.command _ is c.in-Preview.is) (λ writes. writes)

pub returns-in-Err-clause-settles_writes : goal.returns-in-Err-clause-settles_writes
returns-in-Err-clause-settles_writes g c words is =
    never_writes g.H.Host.moment g.H.Host.left_since words c.args.host.now c.say.new.host _
    (g.H.Host.told c.args.host.now) (of words c.args.command _ is c.in-Preview.is) (λ writes. writes)

pub returns-in-Check-clause-settles_writes : goal.returns-in-Check-clause-settles_writes
returns-in-Check-clause-settles_writes g c words is =
    never_writes g.H.Host.moment g.H.Host.left_since words c.args.host.now c.check.new.host _
    (g.H.Host.told c.args.host.now) (of words c.args.command _ is c.in-Check.is) (λ writes. writes)

pub returns-in-ListCheckpoints-clause-settles_writes : goal.returns-in-ListCheckpoints-clause-settles_writes
returns-in-ListCheckpoints-clause-settles_writes g c words is =
    never_writes g.H.Host.moment g.H.Host.left_since words c.args.host.now c.list_checkpoints.new.host _
    (g.H.Host.told c.args.host.now) (of words c.args.command _ is c.in-ListCheckpoints.is) (λ writes. writes)

pub returns-in-MigrateCheckpoints-clause-settles_writes : goal.returns-in-MigrateCheckpoints-clause-settles_writes
returns-in-MigrateCheckpoints-clause-settles_writes g c words is =
    settles_migration g.H.Host.moment g.H.Host.left_since words c.args.host.now c.migrate_checkpoints.new.host
    (g.H.Host.told c.args.host.now) (of words c.args.command _ is c.in-MigrateCheckpoints.is) c.migrate_checkpoints.ensures.settles

pub returns-in-SaveCheckpoint-clause-settles_writes : goal.returns-in-SaveCheckpoint-clause-settles_writes
returns-in-SaveCheckpoint-clause-settles_writes g c words is =
    settles_writes g.H.Host.moment g.H.Host.left_since words c.args.host.now c.save_checkpoint.new.host _
    (g.H.Host.told c.args.host.now) (of words c.args.command _ is c.in-SaveCheckpoint.is) (λ s left h. h) c.save_checkpoint.ensures.settles

pub returns-in-DeleteCheckpoint-clause-settles_writes : goal.returns-in-DeleteCheckpoint-clause-settles_writes
returns-in-DeleteCheckpoint-clause-settles_writes g c words is =
    settles_writes g.H.Host.moment g.H.Host.left_since words c.args.host.now c.delete_checkpoint.new.host _
    (g.H.Host.told c.args.host.now) (of words c.args.command _ is c.in-DeleteCheckpoint.is) (λ s left h. h) c.delete_checkpoint.ensures.settles

pub returns-in-Plan-clause-settles_writes : goal.returns-in-Plan-clause-settles_writes
returns-in-Plan-clause-settles_writes g c words is =
    never_writes g.H.Host.moment g.H.Host.left_since words c.args.host.now c.dry_run.new.host _
    (g.H.Host.told c.args.host.now) (of words c.args.command _ is c.in-Plan.is) (λ writes. writes)

pub returns-in-Status-clause-settles_writes : goal.returns-in-Status-clause-settles_writes
returns-in-Status-clause-settles_writes g c words is =
    never_writes g.H.Host.moment g.H.Host.left_since words c.args.host.now c.status.new.host _
    (g.H.Host.told c.args.host.now) (of words c.args.command _ is c.in-Status.is) (λ writes. writes)

pub returns-in-Abandon-clause-settles_writes : goal.returns-in-Abandon-clause-settles_writes
returns-in-Abandon-clause-settles_writes g c words is =
    settles_writes g.H.Host.moment g.H.Host.left_since words c.args.host.now c.abandon.new.host _
    (g.H.Host.told c.args.host.now) (of words c.args.command _ is c.in-Abandon.is) (λ s left h. h) c.abandon.ensures.settles

pub returns-in-Demo-clause-settles_writes : goal.returns-in-Demo-clause-settles_writes
returns-in-Demo-clause-settles_writes g c words is =
    never_writes g.H.Host.moment g.H.Host.left_since words c.args.host.now c.demo.new.host _
    (g.H.Host.told c.args.host.now) (of words c.args.command _ is c.in-Demo.is) (λ writes. writes)

pub returns-in-CheckPlan-clause-settles_writes : goal.returns-in-CheckPlan-clause-settles_writes
returns-in-CheckPlan-clause-settles_writes g c words is =
    never_writes g.H.Host.moment g.H.Host.left_since words c.args.host.now c.check_plan.new.host _
    (g.H.Host.told c.args.host.now) (of words c.args.command _ is c.in-CheckPlan.is) (λ writes. writes)

pub returns-in-Change-clause-settles_writes : goal.returns-in-Change-clause-settles_writes
returns-in-Change-clause-settles_writes g c words is =
    never_writes g.H.Host.moment g.H.Host.left_since words c.args.host.now c.change.new.host _
    (g.H.Host.told c.args.host.now) (of words c.args.command _ is c.in-Change.is) (λ writes. writes)

-- ---- a change that was stopped

pub returns-in-Unknown-clause-resumes : goal.returns-in-Unknown-clause-resumes
returns-in-Unknown-clause-resumes g c words is =
    never_resumes words (g.H.Host.told c.args.host.now) (g.H.Host.counts c.args.host.now) (g.H.Host.counts c.refuse_words.new.host) c.refuse_words.result (of words c.args.command _ is c.in-Unknown.is)

pub returns-in-Ok-clause-resumes : goal.returns-in-Ok-clause-resumes
returns-in-Ok-clause-resumes g c words is =
    resumes c.listed_moves_have_models.ensures c.asked_has_one_answer.ensures words (g.H.Host.told c.args.host.now)
    (g.H.Host.counts c.args.host.now) (g.H.Host.counts c.show.new.host) c.show.result (returns-in-Ok-clause-complete g c words is)

pub returns-in-Err-clause-resumes : goal.returns-in-Err-clause-resumes
returns-in-Err-clause-resumes g c words is =
    resumes c.listed_moves_have_models.ensures c.asked_has_one_answer.ensures words (g.H.Host.told c.args.host.now)
    (g.H.Host.counts c.args.host.now) (g.H.Host.counts c.say.new.host) c.say.result (returns-in-Err-clause-complete g c words is)

pub returns-in-Check-clause-resumes : goal.returns-in-Check-clause-resumes
returns-in-Check-clause-resumes g c words is =
    resumes c.listed_moves_have_models.ensures c.asked_has_one_answer.ensures words (g.H.Host.told c.args.host.now)
    (g.H.Host.counts c.args.host.now) (g.H.Host.counts c.check.new.host) c.check.result (returns-in-Check-clause-complete g c words is)

pub returns-in-ListCheckpoints-clause-resumes : goal.returns-in-ListCheckpoints-clause-resumes
returns-in-ListCheckpoints-clause-resumes g c words is =
    resumes c.listed_moves_have_models.ensures c.asked_has_one_answer.ensures words (g.H.Host.told c.args.host.now)
    (g.H.Host.counts c.args.host.now) (g.H.Host.counts c.list_checkpoints.new.host) c.list_checkpoints.result (returns-in-ListCheckpoints-clause-complete g c words is)

pub returns-in-MigrateCheckpoints-clause-resumes : goal.returns-in-MigrateCheckpoints-clause-resumes
returns-in-MigrateCheckpoints-clause-resumes g c words is =
    resumes c.listed_moves_have_models.ensures c.asked_has_one_answer.ensures words (g.H.Host.told c.args.host.now)
    (g.H.Host.counts c.args.host.now) (g.H.Host.counts c.migrate_checkpoints.new.host) c.migrate_checkpoints.result (returns-in-MigrateCheckpoints-clause-complete g c words is)

pub returns-in-SaveCheckpoint-clause-resumes : goal.returns-in-SaveCheckpoint-clause-resumes
returns-in-SaveCheckpoint-clause-resumes g c words is =
    resumes c.listed_moves_have_models.ensures c.asked_has_one_answer.ensures words (g.H.Host.told c.args.host.now)
    (g.H.Host.counts c.args.host.now) (g.H.Host.counts c.save_checkpoint.new.host) c.save_checkpoint.result (returns-in-SaveCheckpoint-clause-complete g c words is)

pub returns-in-DeleteCheckpoint-clause-resumes : goal.returns-in-DeleteCheckpoint-clause-resumes
returns-in-DeleteCheckpoint-clause-resumes g c words is =
    resumes c.listed_moves_have_models.ensures c.asked_has_one_answer.ensures words (g.H.Host.told c.args.host.now)
    (g.H.Host.counts c.args.host.now) (g.H.Host.counts c.delete_checkpoint.new.host) c.delete_checkpoint.result (returns-in-DeleteCheckpoint-clause-complete g c words is)

pub returns-in-Plan-clause-resumes : goal.returns-in-Plan-clause-resumes
returns-in-Plan-clause-resumes g c words is =
    resumes c.listed_moves_have_models.ensures c.asked_has_one_answer.ensures words (g.H.Host.told c.args.host.now)
    (g.H.Host.counts c.args.host.now) (g.H.Host.counts c.dry_run.new.host) c.dry_run.result (returns-in-Plan-clause-complete g c words is)

pub returns-in-Change-clause-resumes : goal.returns-in-Change-clause-resumes
returns-in-Change-clause-resumes g c words is =
    resumes c.listed_moves_have_models.ensures c.asked_has_one_answer.ensures words (g.H.Host.told c.args.host.now)
    (g.H.Host.counts c.args.host.now) (g.H.Host.counts c.change.new.host) c.change.result (returns-in-Change-clause-complete g c words is)

pub returns-in-Status-clause-resumes : goal.returns-in-Status-clause-resumes
returns-in-Status-clause-resumes g c words is =
    resumes c.listed_moves_have_models.ensures c.asked_has_one_answer.ensures words (g.H.Host.told c.args.host.now)
    (g.H.Host.counts c.args.host.now) (g.H.Host.counts c.status.new.host) c.status.result (returns-in-Status-clause-complete g c words is)

pub returns-in-Abandon-clause-resumes : goal.returns-in-Abandon-clause-resumes
returns-in-Abandon-clause-resumes g c words is =
    resumes c.listed_moves_have_models.ensures c.asked_has_one_answer.ensures words (g.H.Host.told c.args.host.now)
    (g.H.Host.counts c.args.host.now) (g.H.Host.counts c.abandon.new.host) c.abandon.result (returns-in-Abandon-clause-complete g c words is)

pub returns-in-Demo-clause-resumes : goal.returns-in-Demo-clause-resumes
returns-in-Demo-clause-resumes g c words is =
    resumes c.listed_moves_have_models.ensures c.asked_has_one_answer.ensures words (g.H.Host.told c.args.host.now)
    (g.H.Host.counts c.args.host.now) (g.H.Host.counts c.demo.new.host) c.demo.result (returns-in-Demo-clause-complete g c words is)

pub returns-in-CheckPlan-clause-resumes : goal.returns-in-CheckPlan-clause-resumes
returns-in-CheckPlan-clause-resumes g c words is =
    resumes c.listed_moves_have_models.ensures c.asked_has_one_answer.ensures words (g.H.Host.told c.args.host.now)
    (g.H.Host.counts c.args.host.now) (g.H.Host.counts c.check_plan.new.host) c.check_plan.result (returns-in-CheckPlan-clause-complete g c words is)

-- ---- whether the words are a command

pub returns-in-Unknown-clause-usage : goal.returns-in-Unknown-clause-usage
returns-in-Unknown-clause-usage g c said = ap form_view c.in-Unknown.is

pub returns-in-Ok-clause-only_usage : goal.returns-in-Ok-clause-only_usage
returns-in-Ok-clause-only_usage g c none = told_usage c.args.command _ c.show.result c.in-Preview.is refl none

pub returns-in-Err-clause-only_usage : goal.returns-in-Err-clause-only_usage
returns-in-Err-clause-only_usage g c none = told_usage c.args.command _ c.say.result c.in-Preview.is refl none

pub returns-in-Check-clause-only_usage : goal.returns-in-Check-clause-only_usage
returns-in-Check-clause-only_usage g c none = told_usage c.args.command _ c.check.result c.in-Check.is refl none

pub returns-in-ListCheckpoints-clause-only_usage : goal.returns-in-ListCheckpoints-clause-only_usage
returns-in-ListCheckpoints-clause-only_usage g c none = told_usage c.args.command _ c.list_checkpoints.result c.in-ListCheckpoints.is refl none

pub returns-in-MigrateCheckpoints-clause-only_usage : goal.returns-in-MigrateCheckpoints-clause-only_usage
returns-in-MigrateCheckpoints-clause-only_usage g c none = told_usage c.args.command _ c.migrate_checkpoints.result c.in-MigrateCheckpoints.is refl none

pub returns-in-SaveCheckpoint-clause-only_usage : goal.returns-in-SaveCheckpoint-clause-only_usage
returns-in-SaveCheckpoint-clause-only_usage g c none = told_usage c.args.command _ c.save_checkpoint.result c.in-SaveCheckpoint.is refl none

pub returns-in-DeleteCheckpoint-clause-only_usage : goal.returns-in-DeleteCheckpoint-clause-only_usage
returns-in-DeleteCheckpoint-clause-only_usage g c none = told_usage c.args.command _ c.delete_checkpoint.result c.in-DeleteCheckpoint.is refl none

pub returns-in-Plan-clause-only_usage : goal.returns-in-Plan-clause-only_usage
returns-in-Plan-clause-only_usage g c none = told_usage c.args.command _ c.dry_run.result c.in-Plan.is refl none

pub returns-in-Change-clause-only_usage : goal.returns-in-Change-clause-only_usage
returns-in-Change-clause-only_usage g c none = told_usage c.args.command _ c.change.result c.in-Change.is refl none

pub returns-in-Status-clause-only_usage : goal.returns-in-Status-clause-only_usage
returns-in-Status-clause-only_usage g c none = told_usage c.args.command _ c.status.result c.in-Status.is refl none

pub returns-in-Abandon-clause-only_usage : goal.returns-in-Abandon-clause-only_usage
returns-in-Abandon-clause-only_usage g c none = told_usage c.args.command _ c.abandon.result c.in-Abandon.is refl none

pub returns-in-Demo-clause-only_usage : goal.returns-in-Demo-clause-only_usage
returns-in-Demo-clause-only_usage g c none = told_usage c.args.command _ c.demo.result c.in-Demo.is refl none

pub returns-in-CheckPlan-clause-only_usage : goal.returns-in-CheckPlan-clause-only_usage
returns-in-CheckPlan-clause-only_usage g c none = told_usage c.args.command _ c.check_plan.result c.in-CheckPlan.is refl none

-- ---- the commands that only read, of which each says all in one record

pub returns-in-Check-clause-cause : goal.returns-in-Check-clause-cause
returns-in-Check-clause-cause g c = c.check.ensures.cause

pub returns-in-Check-clause-counts : goal.returns-in-Check-clause-counts
returns-in-Check-clause-counts g c = c.check.ensures.counts

pub returns-in-Check-clause-goes : goal.returns-in-Check-clause-goes
returns-in-Check-clause-goes g c = c.check.ensures.goes

pub returns-in-Check-clause-usage : goal.returns-in-Check-clause-usage
returns-in-Check-clause-usage g c said = absurd (c.check.ensures.form said)

pub returns-in-ListCheckpoints-clause-cause : goal.returns-in-ListCheckpoints-clause-cause
returns-in-ListCheckpoints-clause-cause g c = c.list_checkpoints.ensures.cause

pub returns-in-ListCheckpoints-clause-counts : goal.returns-in-ListCheckpoints-clause-counts
returns-in-ListCheckpoints-clause-counts g c = c.list_checkpoints.ensures.counts

pub returns-in-ListCheckpoints-clause-goes : goal.returns-in-ListCheckpoints-clause-goes
returns-in-ListCheckpoints-clause-goes g c = c.list_checkpoints.ensures.goes

pub returns-in-ListCheckpoints-clause-usage : goal.returns-in-ListCheckpoints-clause-usage
returns-in-ListCheckpoints-clause-usage g c said = absurd (c.list_checkpoints.ensures.form said)

pub returns-in-Plan-clause-cause : goal.returns-in-Plan-clause-cause
returns-in-Plan-clause-cause g c = c.dry_run.ensures.does.cause

pub returns-in-Plan-clause-counts : goal.returns-in-Plan-clause-counts
returns-in-Plan-clause-counts g c = c.dry_run.ensures.does.counts

pub returns-in-Plan-clause-goes : goal.returns-in-Plan-clause-goes
returns-in-Plan-clause-goes g c = c.dry_run.ensures.does.goes

pub returns-in-Plan-clause-usage : goal.returns-in-Plan-clause-usage
returns-in-Plan-clause-usage g c said = absurd (c.dry_run.ensures.does.form said)

pub returns-in-Status-clause-cause : goal.returns-in-Status-clause-cause
returns-in-Status-clause-cause g c = c.status.ensures.cause

pub returns-in-Status-clause-counts : goal.returns-in-Status-clause-counts
returns-in-Status-clause-counts g c = c.status.ensures.counts

pub returns-in-Status-clause-goes : goal.returns-in-Status-clause-goes
returns-in-Status-clause-goes g c = c.status.ensures.goes

pub returns-in-Status-clause-usage : goal.returns-in-Status-clause-usage
returns-in-Status-clause-usage g c said = absurd (c.status.ensures.form said)

pub returns-in-Demo-clause-cause : goal.returns-in-Demo-clause-cause
returns-in-Demo-clause-cause g c = c.demo.ensures.does.cause

pub returns-in-Demo-clause-counts : goal.returns-in-Demo-clause-counts
returns-in-Demo-clause-counts g c = c.demo.ensures.does.counts

pub returns-in-Demo-clause-goes : goal.returns-in-Demo-clause-goes
returns-in-Demo-clause-goes g c = c.demo.ensures.does.goes

pub returns-in-Demo-clause-usage : goal.returns-in-Demo-clause-usage
returns-in-Demo-clause-usage g c said = absurd (c.demo.ensures.does.form said)

pub returns-in-CheckPlan-clause-cause : goal.returns-in-CheckPlan-clause-cause
returns-in-CheckPlan-clause-cause g c = c.check_plan.ensures.cause

pub returns-in-CheckPlan-clause-counts : goal.returns-in-CheckPlan-clause-counts
returns-in-CheckPlan-clause-counts g c = c.check_plan.ensures.counts

pub returns-in-CheckPlan-clause-goes : goal.returns-in-CheckPlan-clause-goes
returns-in-CheckPlan-clause-goes g c = c.check_plan.ensures.goes

pub returns-in-CheckPlan-clause-usage : goal.returns-in-CheckPlan-clause-usage
returns-in-CheckPlan-clause-usage g c said = absurd (c.check_plan.ensures.form said)
