use Rattle.command_runs.proofs.lists.run_next.Goals as goal

pub returns-clause-run : goal.returns-clause-run
returns-clause-run g c = record {
  ran = c.in_ok-next.ran;
  added = c.in_ok-push.ensures.items;
  run = c.in_ok-next.ensures.runs;
  leads = c.in_ok-next.ensures.leads;
}
