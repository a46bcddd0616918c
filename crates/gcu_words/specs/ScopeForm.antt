-- Which words are a command over the files of one ASIC, by the option `--scope`, and which are about no scope.
use Rattle.std.specs.Prelude.{◌≡◌, ◌<◌, ℕ, List, [], ◌∷◌, codes, Bool, ◌&&◌, ◌||◌, if◌then◌else◌, IsSome, Option, Some, None}
use Rattle.gcu_words.specs.Words.{is_word}
use Rattle.scopes.specs.Scopes.{most_asics, scope_name}
use Rattle.scopes.specs.declared.scope.Scope.{Scope}
use Rattle.scopes.specs.declared.scope.Scope.TheVariants.{Asic}
use Rattle.gcu_words.specs.Form.{form}
use Rattle.gcu_words.specs.FormView.{form_view}
use Rattle.gcu_words.specs.ScopesForm.{scopes_form}
use Rattle.gcu_words.specs.declared.scope_form.ScopeForm.{ScopeForm}

-- the word before the name of a scope
abbrev pub scope_word : List ℕ
scope_word = codes "--scope"

-- the command that goes on with a change that was stopped
abbrev pub resume_word : List ℕ
resume_word = codes "resume"

-- the commands that have to do with a change that was stopped
abbrev pub takes_scope : List ℕ → Bool
takes_scope command =
    is_word command (codes "status") || is_word command resume_word
    || is_word command (codes "abandon")

-- the name of a scope, and the words without the option
abbrev pub Cut : Type 0
Cut = List ℕ × List (List ℕ)

-- the two options that go on with a change, in either order
abbrev pub cut_options : (a b c d : List ℕ) → Option Cut
cut_options a b c d =
    if is_word a scope_word then Some (b, resume_word ∷ c ∷ d ∷ [])
    else if is_word c scope_word then Some (d, resume_word ∷ a ∷ b ∷ [])
    else None

-- what the words of a command have with the option, which each takes at most once
abbrev pub cut_scope : List (List ℕ) → Option Cut
cut_scope (command ∷ option ∷ name ∷ []) =
    if takes_scope command && is_word option scope_word then Some (name, command ∷ []) else None
cut_scope (command ∷ a ∷ b ∷ c ∷ d ∷ []) =
    if is_word command resume_word then cut_options a b c d else None
cut_scope other = None

-- the words are a command over the files of an ASIC, and without the option they are these
pub record IsScoped (words : List (List ℕ)) (scope : Scope) (plain : List (List ℕ)) : Type 0 where
  pub number : ℕ
  pub is_there : number < most_asics
  pub is : scope ≡ Asic number
  pub cut : cut_scope words ≡ Some (scope_name scope, plain)
  pub command : IsSome (form plain)

-- the words name no scope by the option
abbrev pub HasNoScope : List (List ℕ) → Type 0
HasNoScope words = (scope : Scope) (plain : List (List ℕ)) → ¬ IsScoped words scope plain

-- the words are about no scope: they name none by the option, and are no change of several
abbrev pub IsUnscoped : List (List ℕ) → Type 0
IsUnscoped words = HasNoScope words × (scopes_form words ≡ None)

-- the words are no command
abbrev pub IsNoCommand : List (List ℕ) → Type 0
IsNoCommand words = IsUnscoped words × (form words ≡ None)

-- a command over the files of an ASIC, as the code keeps it
abbrev pub IsReadScoped : List (List ℕ) → ScopeForm → Type 0
IsReadScoped words read =
    (plain : List (List ℕ)) × IsScoped words read.scope plain × (form plain ≡ form_view read.form)
