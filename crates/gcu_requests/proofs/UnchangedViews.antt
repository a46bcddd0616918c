-- What is so of a host where a scope shows no change of it.
use Rattle.std.proofs.Common.{◌≡◌, ◌⊎◌, ⊎_elim, ℕ, List, Option, Some, None, IfSome, option_map, refl, sym, ap, ◌∙◌, subst}
use Rattle.std.specs.FinMap.{get}
use Rattle.std.specs.Option.{option_map_or}
use Rattle.std.specs.Prelude.{is_some}
use Rattle.host_core.proofs.EntriesOfFiles.{same_files}
use Rattle.host_core.specs.Crashes.{Image, Left, MayLeave, MayLeaveNow}
use Rattle.host_core.specs.State.{Files, Pending, State, dirty, listing, settled}
use Rattle.scopes.specs.Files.{file_name, plain_name}
use Rattle.scopes.specs.Renaming.{named}
use Rattle.scopes.specs.Seeing.{get-seen}
use Rattle.scopes.specs.Views.{AreOthersSame, AreOthersSettled, IsSeen, seen, seen_files, seen_left, seen_pending}
use Rattle.scopes.specs.declared.scope.Scope.{Scope}

module _ (scope : Scope) where
  -- nothing is pending in the folder where the scope shows that nothing is
  settled_behind : (p : Pending) (files : Files) → seen_pending scope p files ≡ settled → p ≡ settled
  settled_behind settled files is = refl
  settled_behind (dirty name) files is = by (plain_name scope name) is
    where
      by : (o : Option (List ℕ)) → option_map_or dirty o (listing (seen_files scope files)) ≡ settled
          → dirty name ≡ settled
      by None e = absurd cc
      by (Some plain) e = absurd cc
  settled_behind (listing before) files is = absurd cc

  -- files are the same where those of the scope are, and those of others
  pub files_behind : (f g : Files) → seen_files scope g ≡ seen_files scope f → AreOthersSame scope f g → g ≡ f
  files_behind f g shown others = same_files g f each
    where
      at : (name : List ℕ) (o : Option (List ℕ)) → plain_name scope name ≡ o → get g name ≡ get f name
      at name None none = others name none
      at name (Some plain) some =
          let is : name ≡ file_name scope plain = named scope name plain some in
          ap (λ (n : List ℕ). get g n) is
          ∙ sym (get-seen scope g plain)
          ∙ ap (λ (files : Files). get files plain) shown
          ∙ get-seen scope f plain
          ∙ sym (ap (λ (n : List ℕ). get f n) is)

      each : (name : List ℕ) → get g name ≡ get f name
      each name = at name (plain_name scope name) refl

  clean_others : (s : State) → s.pending ≡ settled → AreOthersSettled scope s
  clean_others s clean left image =
      let is : left ≡ s.files = subst (λ p. Image p s.files left) clean image in
      λ name none. ap (λ (files : Files). get files name) is

  state_behind : (s t : State) → s.pending ≡ settled → seen scope t ≡ seen scope s → AreOthersSame scope s.files t.files
      → t ≡ s
  state_behind s t clean shown others =
      let inputs : t.inputs ≡ s.inputs = ap (λ (v : State). v.inputs) shown in
      let output : t.output ≡ s.output = ap (λ (v : State). v.output) shown in
      let restarts : t.restarts ≡ s.restarts = ap (λ (v : State). v.restarts) shown in
      let files : t.files ≡ s.files = files_behind s.files t.files (ap (λ (v : State). v.files) shown) others in
      let before : seen_pending scope s.pending s.files ≡ settled = ap (λ (p : Pending). seen_pending scope p s.files)
      clean in
      let now : seen_pending scope t.pending t.files ≡ settled = ap (λ (v : State). v.pending) shown ∙ before in
      let pending : t.pending ≡ s.pending = settled_behind t.pending t.files now ∙ sym clean in
      λ i. record { inputs = inputs i; files = files i; pending = pending i; output = output i; restarts = restarts i }

  -- a host tells the same where a view of it does
  pub told_behind : (o q : Option State) → IfSome o (λ s. s.pending ≡ settled) → is_some q ≡ is_some o
      → option_map (seen scope) q ≡ option_map (seen scope) o
      → IfSome o (λ s. AreOthersSettled scope s
      → IfSome q (λ t. AreOthersSame scope s.files t.files × AreOthersSettled scope t))
      → q ≡ o
  told_behind None None clean tells shown keeps = refl
  told_behind None (Some t) clean tells shown keeps = absurd cc
  told_behind (Some s) None clean tells shown keeps = absurd cc
  told_behind (Some s) (Some t) clean tells shown keeps =
      let same : seen scope t ≡ seen scope s = cc in
      ap Some (state_behind s t clean same (keeps (clean_others s clean)).0)

  -- ---- crashes

  -- what is left of the scope's files, and of the others, is what is left
  left_behind : (s : State) (left whole : Left) → s.pending ≡ settled → MayLeave s whole
      → seen_left scope left ≡ seen_left scope whole
      → AreOthersSame scope s.files left.files → MayLeave s left
  left_behind s left whole clean may shown others =
      let there : whole.files ≡ s.files = subst (λ p. Image p s.files whole.files) clean may.files in
      let files : left.files ≡ s.files =
      files_behind s.files left.files (ap (λ (l : Left). l.files) shown ∙ ap (seen_files scope) there) others in
      record {
        files = subst (λ p. Image p s.files left.files) (sym clean) files;
        output = ap (λ (l : Left). l.output) shown ∙ may.output;
        restarts = ap (λ (l : Left). l.restarts) shown ∙ may.restarts;
      }

  -- Where a crash since some moment left what is there, and a view shows nothing else since, it still does.
  pub stays_behind : (o : Option State) (Before After : Left → Type 0)
      → IfSome o (λ s. s.pending ≡ settled)
      → ((left : Left) → Before left → MayLeaveNow o left)
      → ((left : Left) → IsSeen scope After left → IsSeen scope Before left ⊎ MayLeaveNow (option_map (seen scope) o)
      left)
      → IfSome o (λ s. AreOthersSettled scope s → (left : Left) → After left → Before left
      ⊎ AreOthersSame scope s.files left.files)
      → (left : Left) → After left → MayLeaveNow o left
  stays_behind None Before After clean now view keeps left after = tt
  stays_behind (Some s) Before After clean now view keeps left after =
      ⊎_elim (now left) (λ others. ⊎_elim (by others) (within others) (view (seen_left scope left) (left, after, refl)))
      (keeps (clean_others s clean) left after)
    where
      by : AreOthersSame scope s.files left.files → IsSeen scope Before (seen_left scope left) → MayLeave s left
      by others (whole, before, is) = left_behind s left whole clean (now whole before) is others

      -- what may be left of the view may be left of the folder
      within : AreOthersSame scope s.files left.files → MayLeave (seen scope s) (seen_left scope left) → MayLeave s left
      within others may =
          let image = subst
          (λ p. Image (seen_pending scope p s.files) (seen_files scope s.files) (seen_files scope left.files)) clean
          may.files in
          record {
            files = subst (λ p. Image p s.files left.files) (sym clean) (files_behind s.files left.files image others);
            output = may.output;
            restarts = may.restarts;
          }
