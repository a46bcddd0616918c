-- What calls change, as a scope shows it.
use Rattle.std.proofs.Common.{◌≡◌, true, inl, inr, ℕ, List, Option, Some, None, option_map, Result, Ok, Err, Vec, Global, refl, sym, ap, ◌∙◌, subst}
use Rattle.std.specs.FinMap.{get}
use Rattle.std.specs.Option.{option_map_or}
use Rattle.std.specs.Prelude.{IfOk, IfSome, IsSome, OnOk, OnErr}
use Rattle.host_core.specs.State.{Files, Pending, settled, dirty, listing, State, CanMove, CanWrite, ListsOrNot, with_file, rename, after_write, with_pending, after_listing, printed}
use Rattle.scopes.specs.Files.{file_name, plain_name}
use Rattle.scopes.specs.Renaming.{known, named}
use Rattle.scopes.specs.Seeing.{get-seen, seen-rename, seen-with_file}
use Rattle.scopes.specs.Views.{is_clean, seen, seen_files, seen_pending, tells_clean}
use Rattle.scopes.specs.declared.scope.Scope.{Scope}

-- what either answer gives
pub either : {T F A B P : Type 0} (r : Result T F) → OnOk r A → OnErr r B → (A → P) → (B → P) → P
either (Ok x) a b f g = f a
either (Err e) a b f g = g b

-- with nothing pending a crash undoes nothing
pub clean_host : (o : Option State) → IfSome o (λ s. s.pending ≡ settled) → tells_clean o ≡ true
clean_host None is = refl
clean_host (Some s) is = ap is_clean is

-- and where it undoes nothing, nothing is pending
pub settled_host : (o : Option State) → tells_clean o ≡ true → IfSome o (λ s. s.pending ≡ settled)
settled_host None is = tt
settled_host (Some s) is = by s.pending is
  where
    by : (p : Pending) → is_clean p ≡ true → p ≡ settled
    by settled is = refl
    by (dirty name) is = absurd cc
    by (listing before) is = absurd cc

module _ (scope : Scope) where
  -- a change of the state is one of what the scope shows
  abbrev pub Shows : (State → State) → (State → State) → Type 0
  Shows inner outer = (s : State) → seen scope (inner s) ≡ outer (seen scope s)

  pub told_by : (inner outer : State → State) → Shows inner outer → (o n : Option State) → n ≡ option_map inner o
      → option_map (seen scope) n ≡ option_map outer (option_map (seen scope) o)
  told_by inner outer shows o n is = ap (option_map (seen scope)) is ∙ by o
    where
      by : (o : Option State) → option_map (seen scope) (option_map inner o) ≡ option_map outer (option_map (seen scope) o)
      by None = refl
      by (Some s) = ap (λ (t : State). Some t) (shows s)

  -- ---- when calls may be made

  clean : (p : Pending) (files : Files) → seen_pending scope p files ≡ settled → p ≡ settled
  clean settled files is = refl
  clean (dirty name) files is = by (plain_name scope name) is
    where
      by : (o : Option (List ℕ)) → option_map_or dirty o (listing (seen_files scope files)) ≡ settled → dirty name ≡ settled
      by None is = absurd cc
      by (Some plain) is = absurd cc
  clean (listing before) files is = absurd cc

  soiled : (p : Pending) (files : Files) (plain : List ℕ) → seen_pending scope p files ≡ dirty plain → p ≡ dirty (file_name scope plain)
  soiled settled files plain is = absurd cc
  soiled (dirty name) files plain is = by (plain_name scope name) refl is
    where
      by : (o : Option (List ℕ)) → plain_name scope name ≡ o → option_map_or dirty o (listing (seen_files scope files)) ≡ dirty plain
          → dirty name ≡ dirty (file_name scope plain)
      by None none is = absurd cc
      by (Some found) some is =
          let one : found ≡ plain = cc in
          ap dirty (named scope name found some ∙ ap (file_name scope) one)
  soiled (listing before) files plain is = absurd cc

  module _ (file plain : List ℕ) (is : file ≡ file_name scope plain) where
    pub can_write : (o : Option State) → IfSome (option_map (seen scope) o) (CanWrite plain) → IfSome o (CanWrite file)
    can_write None ready = tt
    can_write (Some s) (inl none) = inl (clean s.pending s.files none)
    can_write (Some s) (inr some) = inr (soiled s.pending s.files plain some ∙ ap dirty (sym is))

    pub can_move : (o : Option State) → IfSome (option_map (seen scope) o) (CanMove plain) → IfSome o (CanMove file)
    can_move None ready = tt
    can_move (Some s) ready =
        (clean s.pending s.files ready.0, subst (λ c. IsSome c) (get-seen scope s.files plain ∙ ap (get s.files) (sym is)) ready.1)

    -- ---- one file

    read_seen : (x : Option (List ℕ)) (o : Option State) → IfSome o (λ s. x ≡ get s.files file)
        → IfSome (option_map (seen scope) o) (λ s. x ≡ get s.files plain)
    read_seen x None found = tt
    read_seen x (Some s) found = found ∙ ap (get s.files) is ∙ sym (get-seen scope s.files plain)

    pub read_found : {E : Type 0} (r : Result (Option (Vec ℕ Global)) E) (o : Option State)
        → IfOk r (λ x. IfSome o (λ s. option_map (λ (v : Vec ℕ Global). v.items) x ≡ get s.files file))
        → IfOk r (λ x. IfSome (option_map (seen scope) o) (λ s. option_map (λ (v : Vec ℕ Global). v.items) x ≡ get s.files plain))
    read_found (Ok x) o found = read_seen (option_map (λ (v : Vec ℕ Global). v.items) x) o found
    read_found (Err e) o found = tt

    has : plain_name scope file ≡ Some plain
    has = ap (plain_name scope) is ∙ known scope plain

    pub seen_with : (content : Option (List ℕ)) (files : Files) → seen_files scope (with_file file content files) ≡ with_file plain content (seen_files scope files)
    seen_with content files = ap (λ f. seen_files scope (with_file f content files)) is ∙ seen-with_file scope plain content files

    pub shows_write : (content : Option (List ℕ)) → Shows (after_write file content) (after_write plain content)
    shows_write content s = λ i. record {
      inputs = s.inputs;
      files = seen_with content s.files i;
      pending = option_map_or dirty (has i) (listing (seen_files scope (with_file file content s.files)));
      output = s.output;
      restarts = s.restarts;
    }

    pub shows_soil : Shows (with_pending (dirty file)) (with_pending (dirty plain))
    shows_soil s = λ i. record {
      inputs = s.inputs;
      files = seen_files scope s.files;
      pending = option_map_or dirty (has i) (listing (seen_files scope s.files));
      output = s.output;
      restarts = s.restarts;
    }

  pub shows_settle : Shows (with_pending settled) (with_pending settled)
  shows_settle s = refl

  -- with nothing pending it changes nothing
  pub settles_itself : (o : Option State) → IfSome o (λ s. s.pending ≡ settled)
      → option_map (seen scope) o ≡ option_map (with_pending settled) (option_map (seen scope) o)
  settles_itself None clean = refl
  settles_itself (Some s) clean = ap (λ (t : State). Some t) (λ i. record {
    inputs = s.inputs;
    files = seen_files scope s.files;
    pending = seen_pending scope (clean i) s.files;
    output = s.output;
    restarts = s.restarts;
  })

  pub shows_print : (bytes : List ℕ) → Shows (printed bytes) (printed bytes)
  shows_print bytes s = refl

  -- ---- the folder's names

  pub shows_list : (inner outer : Files → Files) → ((files : Files) → seen_files scope (inner files) ≡ outer (seen_files scope files))
      → Shows (after_listing inner) (after_listing outer)
  shows_list inner outer shows s = λ i. record {
    inputs = s.inputs;
    files = shows s.files i;
    pending = listing (seen_files scope s.files);
    output = s.output;
    restarts = s.restarts;
  }

  pub lists_or_not : (inner outer : Files → Files) → ((files : Files) → seen_files scope (inner files) ≡ outer (seen_files scope files))
      → (o n : Option State) → ListsOrNot inner o n → ListsOrNot outer (option_map (seen scope) o) (option_map (seen scope) n)
  lists_or_not inner outer shows o n (inl done) = inl (told_by (after_listing inner) (after_listing outer) (shows_list inner outer shows) o n done)
  lists_or_not inner outer shows o n (inr undone) =
      inr (told_by (after_listing (λ files. files)) (after_listing (λ files. files)) (shows_list (λ files. files) (λ files. files) (λ files. refl)) o n undone)

  pub seen_move : (old new p q : List ℕ) → old ≡ file_name scope p → new ≡ file_name scope q → (files : Files)
      → seen_files scope (rename old new files) ≡ rename p q (seen_files scope files)
  seen_move old new p q is_old is_new files =
      ap (λ o. seen_files scope (rename o new files)) is_old
      ∙ ap (λ n. seen_files scope (rename (file_name scope p) n files)) is_new
      ∙ seen-rename scope p q files
