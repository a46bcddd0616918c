-- Scopes that are done, one that changes, and those behind it.
use Rattle.std.proofs.Common.{◌≡◌, ℕ, zero, suc, ◌<◌, List, [], ◌∷◌, ◌++◌, refl, sym, ap, ◌∙◌, arith}
use Rattle.std.specs.FinMap.{get}
use Rattle.std.specs.List.{AllByRecursion}
use Rattle.host_core.specs.State.{Files}
use Rattle.conf_store.specs.Files.{intent_file}
use Rattle.change_apply.specs.Change.{steps}
use Rattle.change_apply.specs.Crashes.{KeepsOthers}
use Rattle.scopes.specs.Files.{file_name}
use Rattle.scopes.specs.Scopes.{IsScope, most_asics}
use Rattle.scopes.specs.Seeing.{get-seen}
use Rattle.scopes.specs.Views.{seen_files}
use Rattle.scopes.specs.declared.scope.Scope.TheVariants.{Asic}
use Rattle.scope_changes.specs.Ends.{AreParted, IsDone}
use Rattle.scope_changes.specs.Stages.{IsAppliedIn}
use Rattle.scope_changes.specs.Works.{AreInOrder, IsOutside, KeepsOutside, Precedes, ScopeWork}
use Rattle.scope_changes.proofs.Lists.{both, each, front_of_all, one_more}
use Rattle.scope_changes.proofs.OtherScopes.{AsicsApart, HostApart, done_kept, due_kept, files_behind, kept_but, other_outside}

-- ---- the order

-- a scope, those before it, and those behind it
pub record IsPlaced (done : List ScopeWork) (w : ScopeWork) (due : List ScopeWork) : Type 0 where
  pub there : IsScope w.scope
  pub before : AllByRecursion (λ v. IsScope v.scope × Precedes v.scope w.scope) done
  pub behind : AllByRecursion (λ v. IsScope v.scope × Precedes w.scope v.scope) due

scopes_there : (works : List ScopeWork) → AreInOrder works → AllByRecursion (λ v. IsScope v.scope) works
scopes_there [] order = tt
scopes_there (w ∷ works) order = (order.0, scopes_there works order.2)

pub placed : (done : List ScopeWork) (w : ScopeWork) (due : List ScopeWork) → AreInOrder (done ++ w ∷ due) → IsPlaced done w due
placed [] w due order = record {
  there = order.0;
  before = tt;
  behind =
      both (λ v. IsScope v.scope) (λ v. Precedes w.scope v.scope) (λ v. IsScope v.scope × Precedes w.scope v.scope)
      (λ v is before. (is, before)) due (scopes_there due order.2) order.1;
}
placed (v ∷ done) w due order =
    let rest = placed done w due order.2 in
    record {
      there = rest.there;
      before = ((order.0, (front_of_all (λ u. Precedes v.scope u.scope) done due w order.1).1), rest.before);
      behind = rest.behind;
    }

-- ---- files

-- no file of the others is changed, and none at all where there are no steps
abbrev pub KeepsBeside : ScopeWork → Files → Files → Type 0
KeepsBeside w before after =
    (name : List ℕ) → (0 < steps w.change → IsOutside w.scope name) → get after name ≡ get before name

-- a finished change is one
pub applied_beside : (w : ScopeWork) (f g : Files) → IsAppliedIn w.scope w.change f g → KeepsBeside w f g
applied_beside w f g applied = by (steps w.change) refl
  where
    by : (n : ℕ) → steps w.change ≡ n → KeepsBeside w f g
    by zero none name out = files_behind w.scope f g (applied.applied.none none) applied.others name
    by (suc n) is name out =
        let some : 0 < steps w.change = omega (arith, is) in
        kept_but w.scope f g (applied.applied.some some).others applied.others name (out some)

-- and ends in what is asked
pub applied_done : (w : ScopeWork) (start f g : Files) → seen_files w.scope f ≡ seen_files w.scope start → IsAppliedIn w.scope w.change f g → IsDone start g w
applied_done w start f g same applied = record {
  stands = applied.applied.stands;
  whole = λ some.
      let whole = applied.applied.some some in
      record { config_text = whole.config_text; steps = whole.steps; folded = whole.folded; intent = whole.intent };
  kept = λ none. ap (λ (files : Files). get files intent_file) (applied.applied.none none ∙ same);
}

module _ (asics : AsicsApart) (host : HostApart) (done : List ScopeWork) (w : ScopeWork) (due : List ScopeWork) (is : IsPlaced done w due)
    (start f g : Files) where
  -- while one changes, those before it stay done and those behind it as they were
  pub parted_within : KeepsBeside w f g → AreParted done (w ∷ due) done start f → AreParted done due (done ++ w ∷ []) start g
  parted_within keeps parted = record {
    finished =
        both (λ v. IsScope v.scope × Precedes v.scope w.scope) (IsDone start f) (IsDone start g)
        (λ v at now. done_kept asics host w.scope v.scope is.there at.0 at.1 v.change start f g (λ name out. keeps name (λ some. out)) now)
        done is.before parted.finished;
    unbegun =
        both (λ v. IsScope v.scope × Precedes w.scope v.scope) (λ v. seen_files v.scope f ≡ seen_files v.scope start) (λ v. seen_files v.scope g ≡ seen_files v.scope start)
        (λ v at now. due_kept asics host w.scope v.scope is.there at.0 at.1 f g (λ name out. keeps name (λ some. out)) ∙ now)
        due is.behind parted.unbegun.1;
    others = λ name out.
        let apart = front_of_all (λ v. 0 < steps v.change → IsOutside v.scope name) done [] w out in
        keeps name apart.1 ∙ parted.others name apart.0;
  }

  -- once it is done there is one more
  pub parted_behind : KeepsBeside w f g → IsDone start g w → AreParted done (w ∷ due) done start f → AreParted (done ++ w ∷ []) due (done ++ w ∷ []) start g
  parted_behind keeps now parted =
      let within = parted_within keeps parted in
      record { finished = one_more (IsDone start g) done w within.finished now; unbegun = within.unbegun; others = within.others }

-- at first all are as before
pub parted_first : (works : List ScopeWork) (start : Files) → AreParted [] works [] start start
parted_first works start = record { finished = tt; unbegun = same works; others = λ name out. refl }
  where
    same : (works : List ScopeWork) → AllByRecursion (λ w. seen_files w.scope start ≡ seen_files w.scope start) works
    same [] = tt
    same (w ∷ works) = (refl, same works)

-- each ASIC keeps the files that a change has nothing to do with
pub asics_keep : AsicsApart → HostApart → (works : List ScopeWork) (n : ℕ) (before after : Files) → AreInOrder works → n < most_asics
    → KeepsOutside works before after → KeepsOthers (seen_files (Asic n) before) (seen_files (Asic n) after)
asics_keep asics host works n before after order less keeps name other apart =
    get-seen (Asic n) after name
    ∙ keeps (file_name (Asic n) name)
    (each (λ v. IsScope v.scope) (λ v. 0 < steps v.change → IsOutside v.scope (file_name (Asic n) name))
    (λ v there some. other_outside asics host v.scope n there less name other apart) works (scopes_there works order))
    ∙ sym (get-seen (Asic n) before name)
