-- What a scope shows of the files, and how changes of them change it.
use Rattle.std.proofs.Common.{◌≡◌, ℕ, Bool, true, false, cond, List, [], ◌∷◌, map, Option, Some, None, option_map, refl, sym, ap, ◌∙◌}
use Rattle.std.specs.Cmp.{tied_itself}
use Rattle.std.specs.Cmp.Lexicographic.{nat_list_cmp_total}
use Rattle.std.specs.FinMap as finmap
use Rattle.std.specs.FinMap.{entries, from_entries, get}
use Rattle.std.specs.List.{cons_option, filter_map}
use Rattle.std.specs.Ordering.{eq_by_cmp, is_eq}
use Rattle.host_core.specs.Names.{name_cmp}
use Rattle.host_core.specs.State.{Files, rename, with_file}
use Rattle.host_core.proofs.EntriesOfFiles.{get-with_file, same_files, tie_of}
use Rattle.scopes.specs.Files.{file_name, plain_name}
use Rattle.scopes.specs.Views.{seen_files, shown}
use Rattle.scopes.specs.declared.scope.Scope.{Scope}
use Rattle.scopes.specs.Renaming.{known, named, one_name}

-- the same name?
abbrev pub is_name : List ℕ → List ℕ → Bool
is_name = eq_by_cmp name_cmp

-- equal names are the same
pub same_name : (p q : List ℕ) → p ≡ q → is_name p q ≡ true
same_name p q e = ap (is_name p) (sym e) ∙ ap is_eq (tied_itself nat_list_cmp_total p)

-- names that are not equal
pub other_name : (p q : List ℕ) → (p ≡ q → ⊥) → is_name p q ≡ false
other_name p q apart = by (is_name p q) refl
  where
    by : (b : Bool) → is_name p q ≡ b → is_name p q ≡ false
    by true is = absurd (apart (tie_of p q is))
    by false isnt = isnt

module _ (scope : Scope) where
  -- a file of the folder is that of a plain name as the plain names are equal
  alike : (p q : List ℕ) → is_name (file_name scope p) (file_name scope q) ≡ is_name p q
  alike p q = by (is_name p q) refl
    where
      by : (b : Bool) → is_name p q ≡ b → is_name (file_name scope p) (file_name scope q)
          ≡ is_name p q
      by true is = same_name _ _ (ap (file_name scope) (tie_of p q is)) ∙ sym is
      by false isnt =
          other_name _ _ (λ e. let is : is_name p q ≡ true = same_name p q (one_name scope p q e) in
          absurd cc) ∙ sym isnt

  -- a file that the scope does not have is none of its files
  not_there : (name q : List ℕ) → plain_name scope name ≡ None → is_name (file_name scope q) name
      ≡ false
  not_there name q none =
      other_name _ _ (λ e. let some : plain_name scope name
      ≡ Some q = ap (plain_name scope) (sym e) ∙ known scope q in absurd cc)

  found : (q : List ℕ) (es : List (List ℕ × List ℕ))
      → finmap.find name_cmp q (filter_map (shown scope) es)
      ≡ finmap.find name_cmp (file_name scope q) es
  found q [] = refl
  found q (e ∷ es) = by (plain_name scope e.0) refl (found q es)
    where
      by : (o : Option (List ℕ)) → plain_name scope e.0 ≡ o
          → finmap.find name_cmp q (filter_map (shown scope) es)
          ≡ finmap.find name_cmp (file_name scope q) es
          → finmap.find name_cmp q (cons_option (option_map (λ plain. (plain, e.1)) o)
          (filter_map (shown scope) es))
          ≡ cond (is_name (file_name scope q) e.0) (Some e.1)
          (finmap.find name_cmp (file_name scope q) es)
      by None none rest =
          rest ∙ sym (ap (λ b. cond b (Some e.1) (finmap.find name_cmp (file_name scope q) es))
          (not_there e.0 q none))
      by (Some p) some rest =
          ap (cond (is_name q p) (Some e.1)) rest
          ∙ ap (λ b. cond b (Some e.1) (finmap.find name_cmp (file_name scope q) es))
          (sym (alike q p) ∙ ap (is_name (file_name scope q)) (sym (named scope e.0 p some)))

  -- a scope shows under a plain name what its file holds
  pub get-seen : (files : Files) (q : List ℕ) → get (seen_files scope files) q
      ≡ get files (file_name scope q)
  get-seen files q =
      finmap.get-from_entries nat_list_cmp_total (filter_map (shown scope) (entries files)) q
      ∙ found q (entries files)
      ∙ sym (finmap.get-entries files (file_name scope q))

  -- files that are the same where the scope has them show the same
  pub same_seen : (f g : Files)
      → ((q : List ℕ) → get f (file_name scope q) ≡ get g (file_name scope q))
      → seen_files scope f ≡ seen_files scope g
  same_seen f g same = same_files _ _ (λ q. get-seen f q ∙ same q ∙ sym (get-seen g q))

  -- ---- changes

  -- other content of one of the files
  pub seen-with_file : (plain : List ℕ) (content : Option (List ℕ)) (files : Files)
      → seen_files scope (with_file (file_name scope plain) content files)
      ≡ with_file plain content (seen_files scope files)
  seen-with_file plain content files = same_files _ _ (λ q.
      get-seen _ q
      ∙ get-with_file (file_name scope plain) content files (file_name scope q)
      ∙ ap (λ b. cond b content (get files (file_name scope q))) (alike q plain)
      ∙ ap (cond (is_name q plain) content) (sym (get-seen files q))
      ∙ sym (get-with_file plain content (seen_files scope files) q))

  -- other content of a file that the scope does not have
  pub seen-without : (name : List ℕ) (content : Option (List ℕ)) (files : Files)
      → plain_name scope name ≡ None
      → seen_files scope (with_file name content files) ≡ seen_files scope files
  seen-without name content files none = same_seen _ _ (λ q.
      get-with_file name content files (file_name scope q)
      ∙ ap (λ b. cond b content (get files (file_name scope q))) (not_there name q none))

  -- another name of one of the files
  pub seen-rename : (old new : List ℕ) (files : Files)
      → seen_files scope (rename (file_name scope old) (file_name scope new) files)
      ≡ rename old new (seen_files scope files)
  seen-rename old new files =
      seen-with_file new (get files (file_name scope old))
      (with_file (file_name scope old) None files)
      ∙ ap (with_file new (get files (file_name scope old))) (seen-with_file old None files)
      ∙ ap (λ content. with_file new content (with_file old None (seen_files scope files)))
      (sym (get-seen files old))

  -- ---- files of the folder that show given ones

  -- a file where the scope has it
  abbrev placed : List ℕ × List ℕ → List ℕ × List ℕ
  placed file = (file_name scope file.0, file.1)

  -- the folder with these files of the scope alone
  abbrev pub folder : Files → Files
  folder files = from_entries (map placed (entries files))

  found_placed : (q : List ℕ) (es : List (List ℕ × List ℕ))
      → finmap.find name_cmp (file_name scope q) (map placed es) ≡ finmap.find name_cmp q es
  found_placed q [] = refl
  found_placed q (e ∷ es) =
      ap (λ b. cond b (Some e.1) (finmap.find name_cmp (file_name scope q) (map placed es)))
      (alike q e.0)
      ∙ ap (cond (is_name q e.0) (Some e.1)) (found_placed q es)

  pub seen-folder : (files : Files) → seen_files scope (folder files) ≡ files
  seen-folder files = same_files _ _ (λ q.
      get-seen _ q
      ∙ finmap.get-from_entries nat_list_cmp_total (map placed (entries files)) (file_name scope q)
      ∙ found_placed q (entries files)
      ∙ sym (finmap.get-entries files q))
