-- What calls leave of the files of others, and when.
use Rattle.std.proofs.Common.{◌≡◌, ◌⊎◌, inl, inr, ⊎_elim, ℕ, ◌≤◌, false, cond, List, [], ◌∷◌, Option, Some, None, option_map, refl, sym, ap, ◌∙◌, subst}
use Rattle.std.specs.FinMap.{get}
use Rattle.std.specs.Prelude.{IfSome, is_some}
use Rattle.host_core.specs.Crashes.{Elapses, Left, MayLeave, MayLeaveInPrint, MayLeaveNow}
use Rattle.host_core.specs.State.{Files, IsFront, settled, dirty, State, with_file, rename, after_write, with_pending, after_listing, ListsOrNot, PrintsPart, printed, after_restart}
use Rattle.host_core.proofs.EntriesOfFiles.{get-with_file}
use Rattle.scopes.specs.Files.{file_name, plain_name}
use Rattle.scopes.specs.Laws.{came_itself, front_of}
use Rattle.scopes.specs.Renaming.{known}
use Rattle.scopes.specs.Seeing.{is_name, other_name}
use Rattle.scopes.specs.Views.{AreOthersSame, AreOthersSettled, CameBefore, KeepsOthers}
use Rattle.scopes.specs.declared.scope.Scope.{Scope}

module _ (scope : Scope) where
  -- a change of the state leaves the files of others, nothing of them is pending, and what came out grows
  pub record Stays (change : State → State) : Type 0 where
    pub others : (s : State) → AreOthersSettled scope s
        → AreOthersSame scope s.files (change s).files × AreOthersSettled scope (change s)
    pub grows : (s : State) → CameBefore s (change s).output (change s).restarts

  pub stays : Stays (λ s. s)
  stays = record { others = λ s clean. ((λ name none. refl), clean); grows = came_itself }

  pub settle_stays : Stays (with_pending settled)
  settle_stays = record {
    others = λ s clean. ((λ name none. refl), (λ left is name none. ap (λ f. get f name) is));
    grows = came_itself;
  }

  pub print_stays : (bytes : List ℕ) → Stays (printed bytes)
  print_stays bytes = record {
    others = λ s clean. ((λ name none. refl), clean);
    grows = λ s. (front_of s.output bytes, (came_itself s).1);
  }

  pub restart_stays : (service : List ℕ) → Stays (after_restart service)
  restart_stays service = record {
    others = λ s clean. ((λ name none. refl), clean);
    grows = λ s. ((came_itself s).0, front_of s.restarts (service ∷ []));
  }

  pub list_stays : (change : Files → Files) → ((files : Files) → AreOthersSame scope files (change files)) → Stays (after_listing change)
  list_stays change each = record { others = λ s clean. (each s.files, left_of s); grows = came_itself }
    where
      left_of : (s : State) → AreOthersSettled scope (after_listing change s)
      left_of s left (inl is) = λ name none. ap (λ f. get f name) is ∙ sym (each s.files name none)
      left_of s left (inr is) = λ name none. ap (λ f. get f name) is

  module _ (file plain : List ℕ) (is : file ≡ file_name scope plain) where
    apart : (name : List ℕ) → plain_name scope name ≡ None → is_name name file ≡ false
    apart name none =
        other_name name file (λ e. let some : plain_name scope name ≡ Some plain = ap (plain_name scope) (e ∙ is) ∙ known scope plain in absurd cc)

    -- other content of a file of the scope
    pub one_stays : (content : Option (List ℕ)) (files : Files) → AreOthersSame scope files (with_file file content files)
    one_stays content files name none =
        get-with_file file content files name ∙ ap (λ b. cond b content (get files name)) (apart name none)

    pub write_stays : (content : Option (List ℕ)) → Stays (after_write file content)
    write_stays content = record {
      others = λ s clean. (
        one_stays content s.files,
        (λ left image name none. ap (λ f. get f name) image.1 ∙ one_stays image.0 (with_file file content s.files) name none),
      );
      grows = came_itself;
    }

    pub soil_stays : Stays (with_pending (dirty file))
    soil_stays = record {
      others = λ s clean.
          ((λ name none. refl), (λ left image name none. ap (λ f. get f name) image.1 ∙ one_stays image.0 s.files name none));
      grows = came_itself;
    }

  pub move_stays : (old new p q : List ℕ) → old ≡ file_name scope p → new ≡ file_name scope q → (files : Files)
      → AreOthersSame scope files (rename old new files)
  move_stays old new p q is_old is_new files name none =
      one_stays new q is_new (get files old) (with_file old None files) name none ∙ one_stays old p is_old None files name none

  -- ---- a host

  module _ {H : Type 0} (told : H → Option State) (moment : H → ℕ) (left_since : H → ℕ → Left → Type 0) (old new : H) where
    same_kind : (change : State → State) (o : Option State) → is_some (option_map change o) ≡ is_some o
    same_kind change None = refl
    same_kind change (Some s) = refl

    keeps : (these : Left → Type 0) (change : State → State) → Stays change → told new ≡ option_map change (told old)
        → Elapses moment left_since old new these
        → ((s : State) → told old ≡ Some s → AreOthersSettled scope s → (left : Left) → these left → AreOthersSame scope s.files left.files)
        → ((s : State) → told old ≡ Some s → (left : Left) → these left → CameBefore s left.output left.restarts)
        → KeepsOthers told moment left_since scope old new
    keeps these change each is time images came = record {
      later = time.later;
      tells = ap is_some is ∙ same_kind change (told old);
      now = so (told old) (told new) is;
      ever = ever (told old) refl;
      grows = grown (told old) (told new) is;
      holds = held (told old) refl;
    }
      where
        grown : (o n : Option State) → n ≡ option_map change o → IfSome o (λ s. IfSome n (λ t. CameBefore s t.output t.restarts))
        grown None n is = tt
        grown (Some s) n is = subst (λ m. IfSome m (λ t. CameBefore s t.output t.restarts)) (sym is) (each.grows s)

        held : (o : Option State) → told old ≡ o
            → IfSome o (λ s. (t : ℕ) (left : Left) → t ≤ moment old → left_since new t left
            → left_since old t left ⊎ CameBefore s left.output left.restarts)
        held None e = tt
        held (Some s) e = λ t left le since.
            ⊎_elim (λ before. inl before) (λ one. inr (came s e left one)) (time.nothing_else t left le since)

        so : (o n : Option State) → n ≡ option_map change o
            → IfSome o (λ s. AreOthersSettled scope s → IfSome n (λ t. AreOthersSame scope s.files t.files × AreOthersSettled scope t))
        so None n is = tt
        so (Some s) n is = λ clean. subst (λ m. IfSome m (λ t. AreOthersSame scope s.files t.files × AreOthersSettled scope t)) (sym is) (each.others s clean)

        ever : (o : Option State) → told old ≡ o
            → IfSome o (λ s. AreOthersSettled scope s → (t : ℕ) (left : Left) → t ≤ moment old → left_since new t left
            → left_since old t left ⊎ AreOthersSame scope s.files left.files)
        ever None e = tt
        ever (Some s) e = λ clean t left le since.
            ⊎_elim (λ before. inl before) (λ one. inr (images s e clean left one)) (time.nothing_else t left le since)

    -- a call with a moment before it and one after it
    pub keeps_now : (change : State → State) → Stays change → told new ≡ option_map change (told old)
        → Elapses moment left_since old new (MayLeaveNow (told new)) → KeepsOthers told moment left_since scope old new
    keeps_now change each is time = keeps (MayLeaveNow (told new)) change each is time images came
      where
        came : (s : State) → told old ≡ Some s → (left : Left) → MayLeaveNow (told new) left → CameBefore s left.output left.restarts
        came s e left may =
            let may : MayLeave (change s) left = subst (λ n. MayLeaveNow n left) (is ∙ ap (option_map change) e) may in
            let grown = each.grows s in (
              subst (IsFront s.output) (sym may.output) grown.0,
              subst (IsFront s.restarts) (sym may.restarts) grown.1,
            )

        images : (s : State) → told old ≡ Some s → AreOthersSettled scope s → (left : Left) → MayLeaveNow (told new) left → AreOthersSame scope s.files left.files
        images s e clean left may =
            let may : MayLeave (change s) left = subst (λ n. MayLeaveNow n left) (is ∙ ap (option_map change) e) may in
            let kept = each.others s clean in
            λ name none. kept.1 left.files may.files name none ∙ kept.0 name none

    -- a call that changes nothing
    pub keeps_same : told new ≡ told old → Elapses moment left_since old new (MayLeaveNow (told new)) → KeepsOthers told moment left_since scope old new
    keeps_same is = keeps_now (λ s. s) stays (is ∙ itself (told old))
      where
        itself : (o : Option State) → o ≡ option_map (λ s. s) o
        itself None = refl
        itself (Some s) = refl

    -- a change of the folder's names that was done or not
    pub keeps_listing : (change : Files → Files) → ((files : Files) → AreOthersSame scope files (change files)) → ListsOrNot change (told old) (told new)
        → Elapses moment left_since old new (MayLeaveNow (told new)) → KeepsOthers told moment left_since scope old new
    keeps_listing change each (inl done) = keeps_now (after_listing change) (list_stays change each) done
    keeps_listing change each (inr undone) = keeps_now (after_listing (λ files. files)) (list_stays (λ files. files) (λ files name none. refl)) undone

    -- a call that prints
    pub keeps_print : (bytes : List ℕ) → PrintsPart bytes (told old) (told new)
        → Elapses moment left_since old new (MayLeaveInPrint bytes (told old)) → KeepsOthers told moment left_since scope old new
    keeps_print bytes (part, rest, is, done) time = keeps (MayLeaveInPrint bytes (told old)) (printed part) (print_stays part) done time images came
      where
        came : (s : State) → told old ≡ Some s → (left : Left) → MayLeaveInPrint bytes (told old) left → CameBefore s left.output left.restarts
        came s e left (front, behind, whole, may) =
            let may : MayLeave (printed front s) left = subst (λ n. MayLeaveNow n left) (ap (option_map (printed front)) e) may in (
              subst (IsFront s.output) (sym may.output) (front_of s.output front),
              subst (IsFront s.restarts) (sym may.restarts) (came_itself s).1,
            )

        images : (s : State) → told old ≡ Some s → AreOthersSettled scope s → (left : Left) → MayLeaveInPrint bytes (told old) left → AreOthersSame scope s.files left.files
        images s e clean left (front, behind, whole, may) =
            let may : MayLeave (printed front s) left = subst (λ n. MayLeaveNow n left) (ap (option_map (printed front)) e) may in
            clean left.files may.files
