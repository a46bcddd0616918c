-- The states through which a file is put.
use Rattle.std.proofs.Common.{◌≡◌, ℕ, List, Option, Some, None, inl, inr, ⊎_elim, refl, sym, ap, ◌∙◌, subst, option_map}
use Rattle.std.specs.Prelude.{IfSome, IsSome}
use Rattle.host_core.specs.State.{CanMove, CanWrite, Files, ListsOrNot, State, after_listing, after_write, dirty, listing, rename, settled, with_file, with_pending}
use Rattle.conf_store.specs.Changes.{Changes, IsSettled, Leads}
use Rattle.conf_store.specs.Files.{scratch, without_scratch}
use Rattle.conf_store.specs.Puts.{IsPutOrNot, IsSame, after_put, put}
use Rattle.conf_store.proofs.FileMaps.{get_there, gone_twice, with_twice}

-- a write of the scratch file changes nothing else
hidden : (content : Option (List ℕ)) (files : Files) → IsSame files (with_file scratch content files)
hidden content files = with_twice scratch content None files

module _ (name bytes : List ℕ) where
  abbrev P : Files → Files → Type 0
  P = IsPutOrNot name bytes

  pub not_yet : (files : Files) → P files files
  not_yet files = inl refl

  abbrev scratched : Files → Files
  scratched files = with_file scratch (Some bytes) files

  -- the rename puts the file
  renamed : (files : Files) → rename scratch name (scratched files) ≡ put name bytes files
  renamed files =
      ap (λ (content : Option (List ℕ)). with_file name content (with_file scratch None (scratched files))) (get_there scratch (Some bytes) files)
      ∙ ap (with_file name (Some bytes)) (with_twice scratch (Some bytes) None files)

  is_put : (files : Files) → P files (put name bytes files)
  is_put files = inr (gone_twice scratch name (Some bytes) files)

  -- after the write, in part or whole
  leads_write : (content : Option (List ℕ)) (s : State) → Leads P s (after_write scratch content s)
  leads_write content s = record {
    inputs = refl;
    output = refl;
    restarts = refl;
    reads = inl (hidden content s.files);
    images = λ files image. inl (ap without_scratch image.1 ∙ hidden image.0 (with_file scratch content s.files) ∙ hidden content s.files);
  }

  leads_settled : (s : State) (files : Files) → P s.files files → Leads P s (record s { files = files; pending = settled })
  leads_settled s files has = record {
    inputs = refl;
    output = refl;
    restarts = refl;
    reads = has;
    images = λ left image. subst (P s.files) (sym image) has;
  }

  leads_listing : (s : State) (before files : Files) → P s.files before → P s.files files
      → Leads P s (record s { files = files; pending = listing before })
  leads_listing s before files had has = record {
    inputs = refl;
    output = refl;
    restarts = refl;
    reads = has;
    images = λ left image. ⊎_elim (λ (e : left ≡ before). subst (P s.files) (sym e) had) (λ (e : left ≡ files). subst (P s.files) (sym e) has) image;
  }

  -- ---- of a host that may not tell its state

  pub may_write : (o : Option State) → IfSome o IsSettled → IfSome o (CanWrite scratch)
  may_write None clean = tt
  may_write (Some s) clean = inl clean

  pub wrote : (o n : Option State) (content : Option (List ℕ)) → n ≡ option_map (after_write scratch content) o → Changes P o n
  wrote None n content e = e
  wrote (Some s) n content e = (_, e, leads_write content s)

  pub may_sync : (o n : Option State) → n ≡ option_map (after_write scratch (Some bytes)) o → IfSome n (CanWrite scratch)
  may_sync None n e = subst (λ (m : Option State). IfSome m (CanWrite scratch)) (sym e) tt
  may_sync (Some s) n e = subst (λ (m : Option State). IfSome m (CanWrite scratch)) (sym e) (inr refl)

  pub not_synced : (o n m : Option State) → n ≡ option_map (after_write scratch (Some bytes)) o
      → m ≡ option_map (with_pending (dirty scratch)) n → Changes P o m
  not_synced None n m e f = f ∙ ap (option_map (with_pending (dirty scratch))) e
  not_synced (Some s) n m e f = (_, f ∙ ap (option_map (with_pending (dirty scratch))) e, leads_write (Some bytes) s)

  -- the scratch file is on the disk
  abbrev pub after_sync : State → State
  after_sync s = with_pending settled (after_write scratch (Some bytes) s)

  pub is_synced : (o n m : Option State) → n ≡ option_map (after_write scratch (Some bytes)) o
      → m ≡ option_map (with_pending settled) n → m ≡ option_map after_sync o
  is_synced None n m e f = f ∙ ap (option_map (with_pending settled)) e
  is_synced (Some s) n m e f = f ∙ ap (option_map (with_pending settled)) e

  pub synced : (o m : Option State) → m ≡ option_map after_sync o → Changes P o m
  synced None m e = e
  synced (Some s) m e = (_, e, leads_settled s (scratched s.files) (inl (hidden (Some bytes) s.files)))

  pub may_rename : (o m : Option State) → m ≡ option_map after_sync o → IfSome m (CanMove scratch)
  may_rename None m e = subst (λ (x : Option State). IfSome x (CanMove scratch)) (sym e) tt
  may_rename (Some s) m e =
      subst (λ (x : Option State). IfSome x (CanMove scratch)) (sym e)
      (refl, subst (λ (c : Option (List ℕ)). IsSome c) (sym (get_there scratch (Some bytes) s.files)) refl)

  -- done or not
  pub not_renamed : (o m n : Option State) → m ≡ option_map after_sync o → ListsOrNot (rename scratch name) m n → Changes P o n
  not_renamed None m n e either =
      ⊎_elim (λ f. f ∙ ap (option_map (after_listing (rename scratch name))) e) (λ f. f ∙ ap (option_map (after_listing (λ files. files))) e) either
  not_renamed (Some s) m n e either =
      ⊎_elim
      (λ f. (_, f ∙ ap (option_map (after_listing (rename scratch name))) e, leads_listing s (scratched s.files) _ (inl (hidden (Some bytes) s.files)) (subst (P s.files) (sym (renamed s.files)) (is_put s.files))))
      (λ f. (_, f ∙ ap (option_map (after_listing (λ files. files))) e, leads_listing s (scratched s.files) _ (inl (hidden (Some bytes) s.files)) (inl (hidden (Some bytes) s.files))))
      either

  -- settled, and then the file is put
  pub is_settled : (o m n k : Option State) → m ≡ option_map after_sync o → n ≡ option_map (after_listing (rename scratch name)) m
      → k ≡ option_map (with_pending settled) n → k ≡ option_map (after_put name bytes) o
  is_settled None m n k e f g = g ∙ ap (option_map (with_pending settled)) (f ∙ ap (option_map (after_listing (rename scratch name))) e)
  is_settled (Some s) m n k e f g =
      g ∙ ap (option_map (with_pending settled)) (f ∙ ap (option_map (after_listing (rename scratch name))) e)
      ∙ ap (λ (files : Files). Some (record s { files = files; pending = settled })) (renamed s.files)

  pub settles : (o k : Option State) → k ≡ option_map (after_put name bytes) o → Changes P o k
  settles None k e = e
  settles (Some s) k e = (_, e, leads_settled s (put name bytes s.files) (is_put s.files))
