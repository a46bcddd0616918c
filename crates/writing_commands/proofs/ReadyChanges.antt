-- What makes a change ready.
use Rattle.std.proofs.Common.{◌≡◌, ◌<◌, ◌≤◌, ℕ, suc, ◌+◌, Bool, true, false, List, [], ◌∷◌, length, map, All, sym, ap, ◌∙◌, subst, arith}
use Rattle.std.specs.Prelude.{if◌then◌else◌}
use Rattle.std.proofs.lemmas.List.{length-map}
use Rattle.std.proofs.lemmas.List.Elements.{All-cons, All-nil}
use Rattle.conf_doc.specs.WellFormed.{IsConfig}
use Rattle.conf_doc.specs.declared.configuration.Config.{Config}
use Rattle.conf_store.specs.Files.{last_step}
use Rattle.conf_store.specs.declared.loaded.Stored.{Stored}
use Rattle.move_core.specs.Contexts.{IsValidIn, rulebook}
use Rattle.move_core.specs.Listed.{IsListed}
use Rattle.move_core.specs.Moves.{IsDefined, place, step}
use Rattle.move_core.specs.Plans.{IsWay}
use Rattle.move_core.specs.Services.{is_tied, services_of, table_of, tied_from}
use Rattle.move_core.specs.declared.contexts.Ctx.{Ctx}
use Rattle.move_core.specs.declared.moves.Move.{Move}
use Rattle.move_core.specs.declared.settings.ServiceTie.{ServiceTie}
use Rattle.move_core.specs.declared.settings.Settings.{Settings}
use Rattle.change_apply.specs.Change.{AreDefined, ArePositions, Change, restarts_at, restarts_of, steps}
use Rattle.gcu_words.specs.Options.{most_budget}
use Rattle.gcu_words.specs.Scripts.{most_lines}
use Rattle.sessions.specs.Runs.{moves_of}
use Rattle.sessions.specs.Worlds.{Leads, WorldState}
use Rattle.sessions.specs.declared.commits.Commit.{Commit}
use Rattle.gcu_requests.specs.ReadScripts.{operating_of}
use Rattle.gcu_requests.specs.Request.{Operating}
use Rattle.gcu_requests.specs.declared.session_preparing.Operating as code
use Rattle.operators.specs.Runs.{IsOperated}
use Rattle.operators.proofs.WorldInvariants.{operated_ctx, operated_few, operated_kept, operated_opening}
use Rattle.writing_commands.specs.FaultLines.{AreFaultLines, AreNamed}
use Rattle.writing_commands.specs.Doing.{HasBytes, IsReadyRun, change_by}
use Rattle.writing_commands.specs.declared.changing.ReadyChange.{ReadyChange}
use Rattle.writing_commands.proofs.FaultTexts.{all_named}

-- each listed move is defined where it stands
abbrev pub AreListedDefined : Ctx → Type 0
AreListedDefined ctx =
    (cur goal : Config) (m : Move) → IsConfig cur → IsListed (rulebook ctx) cur goal m → IsDefined cur m

-- so each move of a plan is
pub plan_defined : (ctx : Ctx) → AreListedDefined ctx → (goal c : Config) (ms : List Move) (x : Config)
    → IsWay (rulebook ctx) goal c ms x → AreDefined c ms
plan_defined ctx law goal c [] x way = tt
plan_defined ctx law goal c (m ∷ ms) x way =
    (λ formed. law c goal m formed way.0.listed, plan_defined ctx law goal (step c m) ms x way.1)

-- so each move of commits is
pub commits_defined : (ctx : Ctx) → AreListedDefined ctx → (c : Config) (ks : List Commit) (x : Config)
    → Leads (rulebook ctx) c ks x → AreDefined c (moves_of ks)
commits_defined ctx law c [] x leads = tt
commits_defined ctx law c (k ∷ ks) x leads =
    (λ formed. law c k.goal k.mv formed leads.0.listed, commits_defined ctx law (step c k.mv) ks x leads.1)

-- the commits of a script are, and there are few enough of them
module _ (p : Operating) (text : List ℕ) (after : WorldState) (told : IsOperated p text after)
    (valid : IsValidIn p.ctx p.start) (law : AreListedDefined p.ctx) where
  pub run_defined : AreDefined p.start (moves_of after.commits)
  run_defined =
      let kept = operated_kept p text after told valid in
      let from : Leads (rulebook p.ctx) after.opening after.commits after.config =
      subst (λ (x : Ctx). Leads (rulebook x) after.opening after.commits after.config) (operated_ctx p text after told)
      kept.leads in
      commits_defined p.ctx law p.start after.commits after.config
      (subst (λ (x : Config). Leads (rulebook p.ctx) x after.commits after.config) (operated_opening p text after told)
      from)

pub few_commits : (p : Operating) (text : List ℕ) (after : WorldState) → IsOperated p text after
    → length p.lines ≤ most_lines → length (moves_of after.commits) ≤ last_step
unfolding last_step
few_commits p text after told few =
    let each = operated_few p text after told in
    let same = length-map after.commits (λ (k : Commit). k.mv) in
    omega (arith, each, same, few)

-- a plan within the greatest budget has few enough steps
pub few_steps : (n budget : ℕ) → n < budget → budget ≤ most_budget → n ≤ last_step
unfolding last_step
few_steps n budget less most = omega (arith, less, most)

-- ---- services

one_tied : (i n : ℕ) (b : Bool) (is : List ℕ) → i < n → All (λ j. j < n) is
    → All (λ j. j < n) (if b then i ∷ is else is)
one_tied i n true is low h = All-cons (λ j. j < n) i is low h
one_tied i n false is low h = h

tied_within : (i : ℕ) (table : List ℕ) (ties : List ServiceTie)
    → All (λ j. j < i + length ties) (tied_from i table ties)
tied_within i table [] = All-nil (λ j. j < i + 0)
tied_within i table (tie ∷ ties) =
    let same : suc i + length ties ≡ i + suc (length ties) = omega arith in
    one_tied i (i + suc (length ties)) (is_tied table tie) (tied_from (suc i) table ties) (omega arith)
    (subst (λ (n : ℕ). All (λ j. j < n) (tied_from (suc i) table ties)) same (tied_within (suc i) table ties))

-- the services of moves are positions in the rules file
pub are_positions : (settings : Settings) (ms : List Move) → All (ArePositions settings) (map (services_of settings) ms)
are_positions settings [] = All-nil (ArePositions settings)
are_positions settings (m ∷ ms) =
    let same : 0 + length settings.services ≡ length settings.services = omega arith in
    All-cons (ArePositions settings) (services_of settings m) (map (services_of settings) ms)
    (subst (λ (n : ℕ). All (λ j. j < n) (services_of settings m)) same
    (tied_within 0 (table_of (place m)) settings.services))
    (are_positions settings ms)

-- ---- bytes

pub has_bytes : (ready : ReadyChange) (settings : Settings) (what : Stored) (ms : List Move)
    → ready.ready ≡ change_by settings what ms
    → ready.steps ≡ length ms → AreFaultLines (map (restarts_of settings) (map (services_of settings) ms)) ready.lines
    → HasBytes ready
has_bytes ready settings what ms is many lines = record {
  steps_are = many ∙ ap steps (sym is);
  long = ap (λ (c : Change). length c.restarts) is
      ∙ length-map (map (services_of settings) ms) (restarts_of settings) ∙ length-map ms (services_of settings)
      ∙ ap steps (sym is);
  lines_are = subst (λ (c : Change). AreFaultLines c.restarts ready.lines) (sym is) lines;
  settings = settings;
  named =
      λ k. subst (λ (c : Change). AreNamed settings (restarts_at c k)) (sym is)
      (all_named settings (map (services_of settings) ms) k);
}

-- ---- commits

-- a change of the commits that a script made, behind what its operators are told, is ready
pub run_is_ready : (p : code.Operating) (ready : ReadyChange) (text : List ℕ) (after : WorldState)
    (settings : Settings) (what : Stored) (ms : List Move)
    → IsOperated (operating_of p) text after → settings ≡ after.ctx.settings → what ≡ p.stored
    → ms ≡ moves_of after.commits
    → ready.ready ≡ change_by settings what ms → ready.text.items ≡ text → ready.closes ≡ false → IsReadyRun p ready
run_is_ready p ready text after settings what ms told by loaded moves is prints closes =
    let same : settings ≡ p.ctx.settings = by ∙ ap (λ (x : Ctx). x.settings)
    (operated_ctx (operating_of p) text after told) in
    record {
      moves = ms;
      work = (after, subst (λ (t : List ℕ). IsOperated (operating_of p) t after) (sym prints) told, moves);
      change =
          is ∙ ap (λ (s : Settings). change_by s what ms) same
          ∙ ap (λ (x : Stored). change_by p.ctx.settings x ms) loaded;
      closes = closes;
    }

-- its moves are defined, and few enough
pub run_moves : (p : code.Operating) (text : List ℕ) (after : WorldState) (what : Stored) (ms : List Move)
    → IsOperated (operating_of p) text after → IsValidIn p.ctx p.stored.config
    → AreListedDefined p.ctx → what ≡ p.stored → ms ≡ moves_of after.commits → AreDefined what.config ms
run_moves p text after what ms told valid law loaded moves =
    subst (λ (x : Stored). AreDefined x.config ms) (sym loaded)
    (subst (λ (x : List Move). AreDefined p.stored.config x) (sym moves)
    (run_defined (operating_of p) text after told valid law))

pub run_few : (p : code.Operating) (text : List ℕ) (after : WorldState) (ms : List Move)
    → IsOperated (operating_of p) text after → length p.script ≤ most_lines
    → ms ≡ moves_of after.commits → length ms ≤ last_step
run_few p text after ms told few moves =
    subst (λ (x : List Move). length x ≤ last_step) (sym moves) (few_commits (operating_of p) text after told few)
