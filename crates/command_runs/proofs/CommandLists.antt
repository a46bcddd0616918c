-- A command behind others: all of them ran, and lead on.
use Rattle.std.proofs.Common.{◌≡◌, List, [], ◌∷◌, ◌++◌, refl, sym, subst}
use Rattle.host_core.specs.MemoryHost.{MemoryHost}
use Rattle.host_core.specs.State.{State}
use Rattle.conf_doc.specs.declared.configuration.Config.{Config}
use Rattle.gcu_words.specs.ScopeForm.{IsUnscoped}
use Rattle.command_runs.specs.Adding.{AddsRun}
use Rattle.command_runs.specs.Histories.{AllLead, AllStandFor}
use Rattle.command_runs.specs.Runs.{AreRun, AreUnscoped}
use Rattle.command_runs.specs.declared.stops.Ran.{Ran}
use Rattle.command_runs.specs.declared.stops.Stop.{Stop}
use Rattle.command_runs.proofs.NextConfigurations.{ReadsAsIs, all_lead_more, runs_more}

pub none_run : (host : MemoryHost) (rans : List Ran) → rans ≡ [] → AreRun [] host host rans
none_run host rans e = subst (λ (rs : List Ran). AreRun [] host host rs) (sym e) refl

-- no command more, and so none before it
front_unscoped : (stops : List Stop) (stop : Stop) → AreUnscoped (stops ++ stop ∷ [])
    → AreUnscoped stops × IsUnscoped stop.words
front_unscoped [] stop (last, none) = (tt, last)
front_unscoped (s ∷ stops) stop (first, rest) = let both = front_unscoped stops stop rest in ((first, both.0), both.1)

pub none_lead : (s : State) (rans : List Ran) → rans ≡ [] → (before : List Config) → AllStandFor before s
    → AllLead before rans s
none_lead s rans e before all = subst (λ (rs : List Ran). AllLead before rs s) (sym e) (before, refl, all)

pub added_runs : (stops : List Stop) (stop : Stop) (host now next : MemoryHost) (old new : List Ran)
    → AreRun stops host now old → AddsRun stop now next old new → AreRun (stops ++ stop ∷ []) host next new
added_runs stops stop host now next old new are adds =
    subst (λ (rs : List Ran). AreRun (stops ++ stop ∷ []) host next rs) (sym adds.added)
    (runs_more stops host now next old stop adds.ran are adds.run)

pub added_leads : ReadsAsIs
    → (stops : List Stop) (stop : Stop) (now next : MemoryHost) (old new : List Ran) (before : List Config)
    → AddsRun stop now next old new → (AreUnscoped stops → AllLead before old now.state)
    → AreUnscoped (stops ++ stop ∷ []) → AllLead before new next.state
added_leads reads stops stop now next old new before adds lead none =
    let both = front_unscoped stops stop none in
    subst (λ (rs : List Ran). AllLead before rs next.state) (sym adds.added)
    (all_lead_more reads stop now next old adds.ran before adds.run (adds.leads both.1) (lead both.0))
