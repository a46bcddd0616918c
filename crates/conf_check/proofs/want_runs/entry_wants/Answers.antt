use Rattle.std.proofs.Common.{◌↔◌, length, sym, ap, ◌∙◌, subst}
use Rattle.conf_doc.specs.declared.configuration.Config.{Config}
use Rattle.yang_model.specs.ModelSets.{ModelSet}
use Rattle.conf_check.specs.FirstWants.{start_of}
use Rattle.conf_check.specs.Rows.{IsEntryAt}
use Rattle.conf_check.specs.WantRuns.{IsWantAhead}
use Rattle.conf_check.specs.Wants.{IsWantAt}
use Rattle.conf_check.specs.declared.want_iter.WantIter.{WantIter}
use Rattle.conf_check.proofs.RemainingWants.{absent_ahead, entry_ahead}
use Rattle.conf_check.proofs.want_runs.entry_wants.Goals as goal
use Rattle.conf_check.proofs.want_runs.entry_wants.Goals.{in-Some, in-None}

pub returns-clause-ahead : goal.returns-clause-ahead
returns-clause-ahead c = λ p w.
    let s : WantIter = c.of_entry.result in
    let Ahead : ModelSet → Config → Type 0 = λ m d.
    IsWantAhead s p w ↔ (IsEntryAt c.args.config.now c.args.table.now c.args.key.now p.table p.key × IsWantAt m d p w) in
    let there : Ahead s.models.now s.config.now = elim c.match-place_of_entry.branch [
      | in-Some a ↦
          entry_ahead s c.of_entry.ensures.one c.args.table.now c.args.key.now c.args.config.now a.in-Some.table a.in-Some.key
          (c.of_entry.ensures.from ∙ a.from-is ∙ a.start_of_entry-from.ensures) a.in-Some.ensures p w
      | in-None a ↦
          absent_ahead s c.of_entry.ensures.one c.args.table.now c.args.key.now c.args.config.now
          (c.of_entry.ensures.from ∙ a.from-is ∙ a.start_of_entry-from-in-None.ensures ∙ ap (λ n. start_of n 0) a.len.ensures.len
          ∙ ap (λ d. start_of (length d) 0) (sym c.of_entry.ensures.config))
          a.in-None.ensures p w
    ] in
    subst (λ d. Ahead c.args.models.now d) c.of_entry.ensures.config (subst (λ m. Ahead m s.config.now) c.of_entry.ensures.models there)
