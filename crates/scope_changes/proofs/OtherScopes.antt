-- The files of different scopes: what the change of one scope leaves of another.
use Rattle.std.proofs.Common.{◌≡◌, ◌≢◌, ℕ, ◌<◌, Bool, true, false, cond, List, ◌++◌, Option, Some, None, Ok, refl, sym, ap, ◌∙◌, subst, arith, nat_eq, eq-eqb}
use Rattle.std.proofs.lemmas.Bool.{eqb-true}
use Rattle.std.specs.FinMap.{get}
use Rattle.std.specs.Str.{bytes_eq}
use Rattle.host_core.specs.State.{Files}
use Rattle.conf_store.specs.Files.{config_file, folded_file, intent_file, is_step_name, scratch, step_name}
use Rattle.conf_store.specs.Folds.{IsOther}
use Rattle.conf_store.specs.Stored.{stored}
use Rattle.conf_store.proofs.Entries.{same_steps}
use Rattle.conf_store.proofs.FoldResults.{same_stored}
use Rattle.change_apply.specs.Change.{Change, goal}
use Rattle.change_apply.specs.Crashes as changes
use Rattle.scopes.specs.Files.{asic_begin, asic_config, config_name, file_name, is_of_host, plain_name}
use Rattle.scopes.specs.Renaming.{known, named}
use Rattle.scopes.specs.Scopes.{IsScope, most_asics}
use Rattle.scopes.specs.Seeing.{get-seen, same_seen}
use Rattle.scopes.specs.Views.{AreOthersSame, seen_files}
use Rattle.scopes.specs.declared.scope.Scope.{Scope}
use Rattle.scopes.specs.declared.scope.Scope.TheVariants.{Localhost, Asic}
use Rattle.scope_changes.specs.Ends.{IsDone, IsOneFile}
use Rattle.scope_changes.specs.Works.{IsOutside, Precedes, ScopeWork}

-- ---- the files that a change in a scope leaves

-- the files that a change of that scope has nothing to do with are as before
abbrev pub KeepsBut : Scope → Files → Files → Type 0
KeepsBut scope before after = (name : List ℕ) → IsOutside scope name → get after name ≡ get before name

pub kept_but : (scope : Scope) (f g : Files) → changes.KeepsOthers (seen_files scope f) (seen_files scope g) → AreOthersSame scope f g → KeepsBut scope f g
kept_but scope f g keeps same name out = by (plain_name scope name) refl
  where
    by : (o : Option (List ℕ)) → plain_name scope name ≡ o → get g name ≡ get f name
    by None none = same name none
    by (Some p) some =
        let is : name ≡ file_name scope p = named scope name p some in
        let other = out p some in
        ap (get g) is ∙ sym (get-seen scope g p) ∙ keeps p other.0 other.1 ∙ get-seen scope f p ∙ sym (ap (get f) is)

-- files are the same where those of the scope are, and those of others
pub files_behind : (scope : Scope) (f g : Files) → seen_files scope g ≡ seen_files scope f → AreOthersSame scope f g → (name : List ℕ) → get g name ≡ get f name
files_behind scope f g shown same name = by (plain_name scope name) refl
  where
    by : (o : Option (List ℕ)) → plain_name scope name ≡ o → get g name ≡ get f name
    by None none = same name none
    by (Some p) some =
        let is : name ≡ file_name scope p = named scope name p some in
        ap (get g) is ∙ sym (get-seen scope g p) ∙ ap (λ (files : Files). get files p) shown ∙ get-seen scope f p ∙ sym (ap (get f) is)

-- no file of an ASIC has the name of a step file
no_step : (n : ℕ) (plain : List ℕ) (b : Bool) → is_step_name (cond b (asic_config n) (asic_begin n ++ plain)) ≡ false
no_step n plain true = refl
no_step n plain false = refl

-- a step file is none of an ASIC
step_outside : (m : ℕ) (name : List ℕ) → is_step_name name ≡ true → IsOutside (Asic m) name
step_outside m name a_step plain some =
    let isnt : is_step_name name ≡ false = ap is_step_name (named (Asic m) name plain some) ∙ no_step m plain (bytes_eq plain config_name) in
    absurd cc

-- ---- by the laws of scopes

-- no file is that of two ASICs
abbrev pub AsicsApart : Type 0
AsicsApart =
    (m n : ℕ) → m < most_asics → n < most_asics → m ≢ n → (plain : List ℕ)
    → plain_name (Asic m) (file_name (Asic n) plain) ≡ None

-- the files of the host are no ASIC's
abbrev pub HostApart : Type 0
HostApart = (n : ℕ) → n < most_asics → (name : List ℕ) → is_of_host name ≡ true → plain_name (Asic n) name ≡ None

module _ (asics : AsicsApart) (host : HostApart) where
  not_of_host : (n : ℕ) → n < most_asics → (plain name : List ℕ) → is_of_host name ≡ true → file_name (Asic n) plain ≢ name
  not_of_host n less plain name of is =
      let none : plain_name (Asic n) name ≡ None = host n less name of in
      let some : plain_name (Asic n) name ≡ Some plain = ap (plain_name (Asic n)) (sym is) ∙ known (Asic n) plain in
      absurd cc

  -- a change over all files has nothing to do with those of an ASIC
  asic_other : (n : ℕ) → n < most_asics → (plain : List ℕ) → IsOther (file_name (Asic n) plain) × (file_name (Asic n) plain ≢ intent_file)
  asic_other n less plain = (
    record {
      not_scratch = not_of_host n less plain scratch refl;
      not_config = not_of_host n less plain config_file refl;
      not_folded = not_of_host n less plain folded_file refl;
      not_step = no_step n plain (bytes_eq plain config_name);
    },
    not_of_host n less plain intent_file refl,
  )

  -- nor has that of another scope
  asic_outside : (a : Scope) (n : ℕ) → IsScope a → n < most_asics → a ≢ Asic n → (plain : List ℕ) → IsOutside a (file_name (Asic n) plain)
  asic_outside Localhost n there less apart plain p some =
      subst (λ (name : List ℕ). IsOther name × (name ≢ intent_file)) (named Localhost (file_name (Asic n) plain) p some) (asic_other n less plain)
  asic_outside (Asic m) n there less apart plain p some =
      let none : plain_name (Asic m) (file_name (Asic n) plain) ≡ None = asics m n there less (λ (e : m ≡ n). apart (ap Asic e)) plain in
      absurd cc

  host_outside : (m : ℕ) → m < most_asics → (name : List ℕ) → is_of_host name ≡ true → IsOutside (Asic m) name
  host_outside m less name of plain some =
      let none : plain_name (Asic m) name ≡ None = host m less name of in
      absurd cc

  two_scopes : (n : ℕ) → Localhost ≢ Asic n
  two_scopes n e = absurd cc

  -- the files of an ASIC that a change has nothing to do with are outside of every scope
  pub other_outside : (a : Scope) (n : ℕ) → IsScope a → n < most_asics → (plain : List ℕ) → IsOther plain → plain ≢ intent_file
      → IsOutside a (file_name (Asic n) plain)
  other_outside Localhost n there less plain other apart = asic_outside Localhost n there less (two_scopes n) plain
  other_outside (Asic m) n there less plain other apart = by (nat_eq m n) refl
    where
      by : (b : Bool) → nat_eq m n ≡ b → IsOutside (Asic m) (file_name (Asic n) plain)
      by true is = λ p some.
          let same : m ≡ n = eqb-true m n is in
          let both : Some p ≡ Some plain = sym some ∙ ap (λ k. plain_name (Asic k) (file_name (Asic n) plain)) same ∙ known (Asic n) plain in
          let one : p ≡ plain = cc in
          subst (λ (name : List ℕ). IsOther name × (name ≢ intent_file)) (sym one) (other, apart)
      by false isnt =
          asic_outside (Asic m) n there less (λ (e : Asic m ≡ Asic n). let same : m ≡ n = cc in let is : nat_eq m n ≡ true = eq-eqb m n same in absurd cc) plain

  -- so the files of an ASIC stay while another scope changes
  asic_kept : (a : Scope) (n : ℕ) → IsScope a → n < most_asics → a ≢ Asic n → (f g : Files) → KeepsBut a f g → seen_files (Asic n) g ≡ seen_files (Asic n) f
  asic_kept a n there less apart f g keeps =
      same_seen (Asic n) g f (λ q. keeps (file_name (Asic n) q) (asic_outside a n there less apart q))

  two_asics : (m n : ℕ) → m < n → Asic m ≢ Asic n
  two_asics m n less e = let same : m ≡ n = cc in absurd (omega (arith, less, same))

  -- a scope behind one that changes shows the same
  pub due_kept : (a v : Scope) → IsScope a → IsScope v → Precedes a v → (f g : Files) → KeepsBut a f g → seen_files v g ≡ seen_files v f
  due_kept Localhost Localhost there is before f g keeps = absurd before
  due_kept (Asic m) Localhost there is before f g keeps = absurd before
  due_kept Localhost (Asic n) there is before f g keeps = asic_kept Localhost n there is (two_scopes n) f g keeps
  due_kept (Asic m) (Asic n) there is before f g keeps = asic_kept (Asic m) n there is (two_asics m n before) f g keeps

  abbrev work : Scope → Change → ScopeWork
  work scope change = record { scope = scope; change = change }

  host_done : (m : ℕ) → m < most_asics → (c : Change) (start f g : Files) → KeepsBut (Asic m) f g → IsDone start f (work Localhost c) → IsDone start g (work Localhost c)
  host_done m less c start f g keeps done = record {
    stands =
        same_stored (seen_files Localhost f) (seen_files Localhost g) (at folded_file refl) (at config_file refl)
        (λ n. at (step_name n) refl)
        ∙ done.stands;
    whole = λ some.
        let one = done.whole some in
        record {
          config_text = at config_file refl ∙ one.config_text;
          steps = same_steps (seen_files Localhost g) (seen_files Localhost f) (λ q a_step. kept q (step_outside m q a_step)) ∙ one.steps;
          folded = at folded_file refl ∙ one.folded;
          intent = at intent_file refl ∙ one.intent;
        };
    kept = λ none. at intent_file refl ∙ done.kept none;
  }
    where
      kept : (q : List ℕ) → IsOutside (Asic m) q → get (seen_files Localhost g) q ≡ get (seen_files Localhost f) q
      kept q out = get-seen Localhost g q ∙ keeps q out ∙ sym (get-seen Localhost f q)

      at : (q : List ℕ) → is_of_host q ≡ true → get (seen_files Localhost g) q ≡ get (seen_files Localhost f) q
      at q of = kept q (host_outside m less q of)

  asic_done : (n : ℕ) (c : Change) (start f g : Files) → seen_files (Asic n) g ≡ seen_files (Asic n) f → IsDone start f (work (Asic n) c) → IsDone start g (work (Asic n) c)
  asic_done n c start f g same done = record {
    stands = subst (λ (files : Files). stored files ≡ Ok (goal c)) (sym same) done.stands;
    whole = λ some. subst (IsOneFile (goal c)) (sym same) (done.whole some);
    kept = λ none. ap (λ (files : Files). get files intent_file) same ∙ done.kept none;
  }

  -- a scope that is done stays so while one behind it changes
  pub done_kept : (a v : Scope) → IsScope a → IsScope v → Precedes v a → (c : Change) (start f g : Files) → KeepsBut a f g → IsDone start f (work v c) → IsDone start g (work v c)
  done_kept Localhost Localhost there is before c start f g keeps done = absurd before
  done_kept Localhost (Asic n) there is before c start f g keeps done = absurd before
  done_kept (Asic m) Localhost there is before c start f g keeps done = host_done m there c start f g keeps done
  done_kept (Asic m) (Asic n) there is before c start f g keeps done =
      asic_done n c start f g (asic_kept (Asic m) n there is (λ e. two_asics n m before (sym e)) f g keeps) done
