-- A walk over names that keeps those of step files.
use Rattle.std.proofs.Common.{◌≡◌, ℕ, true, false, cond, Bool, List, [], ◌∷◌, ◌++◌, append_assoc, append-nil, refl, sym, ap, ◌∙◌}
use Rattle.std.specs.Prelude.{filter}
use Rattle.std.proofs.lemmas.Bool.{and_from}
use Rattle.std.proofs.lemmas.List.Elements.{filter-append}
use Rattle.std.proofs.lemmas.List.Sums.{AllPass-from_list_all}
use Rattle.std.specs.List.{AllPass, list_all}
use Rattle.conf_store.specs.Files.{is_step_name}

-- these were kept so far, and those are left
pub record NamesWalk (all left kept : List (List ℕ)) : Type 0 where
  pub same : filter is_step_name all ≡ kept ++ filter is_step_name left

pub names_begin : (all left : List (List ℕ)) → left ≡ all → NamesWalk all left []
names_begin all left e = record { same = ap (filter is_step_name) (sym e) }

pub names_next : (all left kept : List (List ℕ)) → NamesWalk all left kept → (name : List ℕ) (rest new : List (List ℕ)) → left ≡ name ∷ rest
    → new ≡ kept ++ filter is_step_name (name ∷ []) → NamesWalk all rest new
names_next all left kept walk name rest new is kept_more = record {
  same =
      walk.same ∙ ap (λ (l : List (List ℕ)). kept ++ filter is_step_name l) is
      ∙ ap (λ (l : List (List ℕ)). kept ++ l) (filter-append is_step_name (name ∷ []) rest)
      ∙ sym (append_assoc kept (filter is_step_name (name ∷ [])) (filter is_step_name rest))
      ∙ ap (λ (l : List (List ℕ)). l ++ filter is_step_name rest) (sym kept_more);
}

pub names_end : (all left kept : List (List ℕ)) → NamesWalk all left kept → left ≡ [] → kept ≡ filter is_step_name all
names_end all left kept walk none =
    sym (walk.same ∙ ap (λ (l : List (List ℕ)). kept ++ filter is_step_name l) none ∙ append-nil kept)

all_kept : (names : List (List ℕ)) → list_all is_step_name (filter is_step_name names) ≡ true
all_kept [] = refl
all_kept (n ∷ names) = by (is_step_name n) refl (all_kept names)
  where
    by : (b : Bool) → is_step_name n ≡ b → list_all is_step_name (filter is_step_name names) ≡ true
        → list_all is_step_name (cond b (n ∷ filter is_step_name names) (filter is_step_name names)) ≡ true
    by true is rest = and_from _ _ is rest
    by false isnt rest = rest

-- what is kept is of steps
pub kept_pass : (names kept : List (List ℕ)) → kept ≡ filter is_step_name names → AllPass is_step_name kept
kept_pass names kept e = AllPass-from_list_all is_step_name kept (ap (list_all is_step_name) e ∙ all_kept names)
