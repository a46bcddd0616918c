-- A plan has no fault.
use Rattle.std.proofs.Common.{ℕ, List, inl, inr, subst}
use Rattle.conf_doc.specs.WellFormed.{IsConfig}
use Rattle.conf_doc.specs.declared.configuration.Config.{Config}
use Rattle.move_core.specs.Listed.{IsListed}
use Rattle.move_core.specs.Moves.{IsDefined}
use Rattle.move_core.specs.Plans.{IsAllowed, IsPlan, IsWay}
use Rattle.move_core.specs.Rulebook.{Rulebook}
use Rattle.move_core.specs.declared.moves.Move.{Move}
use Rattle.plan_check.specs.Checks.{BreaksAt, IsFirstFault, Meets}
use Rattle.plan_texts.specs.declared.causes.NoWhy.{NoWhy}
use Rattle.plan_texts.specs.declared.causes.NoWhy.TheVariants.{NotDefined, NotListed, Rule1, Rule2, Rule3, Rule4, Rule5, Same, WrongEnd}
use Rattle.plan_check.proofs.WayLemmas.{one_end, way_cut}

module _ (book : Rulebook) (goal : Config) (listed_defined : (cur : Config) (m : Move) → IsConfig cur → IsListed book cur goal m → IsDefined cur m) where
  -- an allowed move meets all
  pub all_met : (cur : Config) (m : Move) → IsConfig cur → IsAllowed book goal cur m → (why : NoWhy) → Meets book goal cur m why
  all_met cur m formed is NotDefined = listed_defined cur m formed is.listed
  all_met cur m formed is NotListed = is.listed
  all_met cur m formed is Same = is.differs
  all_met cur m formed is Rule1 = is.rules.full
  all_met cur m formed is Rule2 = is.rules.no_dependency
  all_met cur m formed is Rule3 = is.rules.no_empty
  all_met cur m formed is Rule4 = is.rules.create_only
  all_met cur m formed is Rule5 = is.rules.required
  all_met cur m formed is WrongEnd = tt

  -- no step of a way is at fault
  pub no_break : (start : Config) (ms : List Move) (end : Config) (step : ℕ) (why : NoWhy) → IsWay book goal start ms end → ¬ BreaksAt book start goal ms step why
  no_break start ms end step why way breaks =
      let cut = way_cut book goal start breaks.before breaks.mv breaks.rest end (subst (λ ns. IsWay book goal start ns end) breaks.is way) in
      let same = one_end book goal start breaks.before cut.0 breaks.cur cut.1 breaks.way in
      let allowed = subst (λ c. IsAllowed book goal c breaks.mv) same cut.2 in
      breaks.cause.broken (all_met breaks.cur breaks.mv breaks.formed allowed why)

  pub no_fault : (start : Config) (ms : List Move) (step : ℕ) (why : NoWhy) → IsPlan book start goal ms → ¬ IsFirstFault book start goal ms step why
  no_fault start ms step why plan (inl breaks) = no_break start ms goal step why plan breaks
  no_fault start ms step why plan (inr ends) = ends.1.other (one_end book goal start ms ends.1.end goal ends.1.way plan)
