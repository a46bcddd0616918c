-- Where commits lead, and what sessions keep when one is made.
use Rattle.std.proofs.Common.{◌≡◌, ℕ, zero, suc, List, [], ◌∷◌, ◌++◌, length, sym, ap, subst}
use Rattle.conf_doc.specs.declared.configuration.Config.{Config}
use Rattle.move_core.specs.Contexts.{IsValidIn, rulebook}
use Rattle.move_core.specs.Moves.{step}
use Rattle.move_core.specs.Plans.{IsAllowed, conf}
use Rattle.move_core.specs.Rulebook.{Rulebook}
use Rattle.sessions.specs.Runs.{moves_of}
use Rattle.sessions.specs.Worlds.{IsKept, Leads, WorldState}
use Rattle.sessions.specs.declared.commits.Commit.{Commit}

-- the configuration at the end is valid, as the first one is
pub leads_to_valid : (book : Rulebook) (c : Config) (ks : List Commit) (x : Config)
    → book.IsValid c → Leads book c ks x → book.IsValid x
leads_to_valid book c [] x valid leads = let P : Config → Type 0 = λ d. book.IsValid d in subst P (sym leads) valid
leads_to_valid book c (k ∷ ks) x valid leads = leads_to_valid book (step c k.mv) ks x leads.0.rules.full leads.1

-- the configuration now is valid
pub kept_is_valid : (w : WorldState) → IsKept w → IsValidIn w.ctx w.config
kept_is_valid w kept = leads_to_valid (rulebook w.ctx) w.opening w.commits w.config kept.valid kept.leads

-- one more commit leads one step further
pub Leads-push : (book : Rulebook) (c : Config) (ks : List Commit) (k : Commit) (x : Config)
    → Leads book c ks x → IsAllowed book k.goal x k.mv → Leads book c (ks ++ k ∷ []) (step x k.mv)
Leads-push book c [] k x leads allowed =
    let P : Config → Type 0 = λ d. IsAllowed book k.goal d k.mv in
    (subst P leads allowed, ap (λ d. step d k.mv) leads)
Leads-push book c (j ∷ ks) k x leads allowed = (leads.0, Leads-push book (step c j.mv) ks k x leads.1 allowed)

-- each configuration on the way is valid
pub each_is_valid : (book : Rulebook) (c : Config) (ks : List Commit) (x : Config) (i : ℕ)
    → book.IsValid c → Leads book c ks x → book.IsValid (conf c (moves_of ks) i)
each_is_valid book c [] x i valid leads = valid
each_is_valid book c (k ∷ ks) x zero valid leads = valid
each_is_valid book c (k ∷ ks) x (suc i) valid leads =
    each_is_valid book (step c k.mv) ks x i leads.0.rules.full leads.1

-- the last one is where they lead
pub last_is_end : (book : Rulebook) (c : Config) (ks : List Commit) (x : Config)
    → Leads book c ks x → conf c (moves_of ks) (length ks) ≡ x
last_is_end book c [] x leads = sym leads
last_is_end book c (k ∷ ks) x leads = last_is_end book (step c k.mv) ks x leads.1
