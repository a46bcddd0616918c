-- Which words are a change of several scopes.
use Rattle.std.specs.Prelude.{ℕ, List, ◌∷◌, codes, Bool, ◌&&◌, if◌then◌else◌, Option, Some, None}
use Rattle.gcu_words.specs.Options.{Options, options}
use Rattle.gcu_words.specs.Words.{is_positional, is_word}
use Rattle.gcu_words.specs.declared.scopes_form.ScopesForm as code

-- the path of the patch, the budget that the plan of each scope is searched for by, and whether the plans are
-- only printed
pub record ScopesForm : Type 0 where
  pub path : List ℕ
  pub budget : ℕ
  pub dry_run : Bool

-- with these options
abbrev pub scopes_given : List ℕ → Option Options → Option ScopesForm
scopes_given path None = None
scopes_given path (Some given) =
    Some (record { path = path; budget = given.budget; dry_run = given.dry_run })

-- the change that the words are
abbrev pub scopes_form : List (List ℕ) → Option ScopesForm
scopes_form (command ∷ path ∷ ws) =
    if is_word command (codes "apply-scopes") && is_positional path
    then scopes_given path (options ws)
    else None
scopes_form other = None

-- the same as the code keeps it
abbrev pub scopes_view : code.ScopesForm → ScopesForm
scopes_view read =
    record {
      path = read.patch.now;
      budget = read.options.budget;
      dry_run = read.options.dry_run;
    }
