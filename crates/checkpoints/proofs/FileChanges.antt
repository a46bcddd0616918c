-- Changes of one checkpoint's file, and what they make of the folder.
use Rattle.std.proofs.Common.{◌≡◌, ℕ, List, true, Option, Some, None, inl, inr, ⊎_elim, refl, sym, ap, ◌∙◌, subst, option_map}
use Rattle.std.specs.FinMap.{get, insert}
use Rattle.std.specs.Prelude.{IfSome, IsSome}
use Rattle.host_core.specs.State.{CanMove, Files, ListsOrNot, State, after_listing, listing, settled, with_file, with_pending}
use Rattle.conf_doc.specs.declared.configuration.Config.{Config}
use Rattle.conf_store.specs.Changes.{Changes, IsSettled, Leads, Settles}
use Rattle.conf_store.specs.Files.{without_scratch}
use Rattle.conf_store.specs.Puts.{IsPutOrNot, after_put, put}
use Rattle.checkpoints.specs.Changes.{IsDeleted, IsDeletedOrNot, IsSaved, IsSavedOrNot, with_point, without_file}
use Rattle.checkpoints.specs.Formats.{content}
use Rattle.checkpoints.specs.Names.{is_good_name, point_file}
use Rattle.checkpoints.specs.Numbers.{next_number}
use Rattle.checkpoints.specs.Points.{points}
use Rattle.checkpoints.specs.Reads.{IsNextText}
use Rattle.checkpoints.specs.declared.content.Content.{Content}
use Rattle.checkpoints.proofs.NumberWrites.{number_put, numbers_put}
use Rattle.checkpoints.proofs.PointMaps.{points_behind, points_same, points_with, points_without}
use Rattle.checkpoints.proofs.StoredConfigurations.{stored_put, stored_same, stored_with}

-- ---- nothing

pub not_deleted : (name : List ℕ) (files : Files) → IsDeletedOrNot name files files
not_deleted name files = record { files = inl refl; points = inl refl; kept = refl }

pub not_saved : (name : List ℕ) (config : Config) (files : Files) → IsSavedOrNot name config files files
not_saved name config files = record { files = inl refl; points = inl refl; kept = refl }

module _ (name : List ℕ) (good : is_good_name name ≡ true) where
  -- ---- one less

  is_deleted : (files : Files) → IsDeleted name files (without_file name files)
  is_deleted files = record { files = refl; points = points_without name good files; kept = stored_with name good None files }

  deleted : (files : Files) → IsDeletedOrNot name files (without_file name files)
  deleted files = record { files = inr refl; points = inr (points_without name good files); kept = stored_with name good None files }

  leads_listing : (s : State) (files : Files) → IsDeletedOrNot name s.files files
      → Leads (IsDeletedOrNot name) s (record s { files = files; pending = listing s.files })
  leads_listing s files has = record {
    inputs = refl;
    output = refl;
    restarts = refl;
    reads = has;
    images = λ left image.
        ⊎_elim (λ (e : left ≡ s.files). subst (IsDeletedOrNot name s.files) (sym e) (not_deleted name s.files))
        (λ (e : left ≡ files). subst (IsDeletedOrNot name s.files) (sym e) has) image;
  }

  -- the removal is done or not
  pub lists : (o p n : Option State) → p ≡ o → ListsOrNot (without_file name) p n → Changes (IsDeletedOrNot name) o n
  lists None p n same either =
      ⊎_elim (λ e. e ∙ ap (option_map (after_listing (without_file name))) same) (λ e. e ∙ ap (option_map (after_listing (λ files. files))) same) either
  lists (Some s) p n same either =
      ⊎_elim
      (λ e. (_, e ∙ ap (option_map (after_listing (without_file name))) same, leads_listing s (without_file name s.files) (deleted s.files)))
      (λ e. (_, e ∙ ap (option_map (after_listing (λ files. files))) same, leads_listing s s.files (not_deleted name s.files))) either

  -- it is done, and lasts
  pub deletes : (o p n k : Option State) → p ≡ o → n ≡ option_map (after_listing (without_file name)) p → k ≡ option_map (with_pending settled) n
      → Settles (IsDeleted name) o k
  deletes None p n k same e f = f ∙ ap (option_map (with_pending settled)) (e ∙ ap (option_map (after_listing (without_file name))) same)
  deletes (Some s) p n k same e f =
      (without_file name s.files, f ∙ ap (option_map (with_pending settled)) (e ∙ ap (option_map (after_listing (without_file name))) same), is_deleted s.files)

  pub deleted_or_not : (f g : Files) → IsDeleted name f g → IsDeletedOrNot name f g
  deleted_or_not f g h = record { files = inr h.files; points = inr h.points; kept = h.kept }

  -- what is deleted is there
  pub may_remove : (o p : Option State) → p ≡ o → IfSome o IsSettled → IfSome o (λ s. IsSome (get s.files (point_file name)))
      → IfSome p (CanMove (point_file name))
  may_remove None p same clean there = subst (λ x. IfSome x (CanMove (point_file name))) (sym same) tt
  may_remove (Some s) p same clean there = subst (λ x. IfSome x (CanMove (point_file name))) (sym same) (clean, there)

  -- ---- one more

  module _ (config : Config) where
    saved_points : (n : ℕ) (bytes : List ℕ) → content bytes ≡ Some (record { config = config; number = n }) → (files : Files)
        → points (with_file (point_file name) (Some bytes) files) ≡ with_point name config (points files)
    saved_points n bytes holds files =
        points_with name good bytes files ∙ ap (λ (o : Option Content). insert (points files) name (option_map (λ (c : Content). c.config) o)) holds

    is_saved : (files : Files) (bytes : List ℕ) → IsNextText config files bytes → IsSaved name config files (put (point_file name) bytes files)
    is_saved files bytes is = record {
      files = ap (λ (b : List ℕ). put (point_file name) b files) is.text;
      points = saved_points (next_number files) bytes is.holds (without_scratch files) ∙ ap (with_point name config) (points_behind files);
      number = number_put name bytes files ∙ ap (option_map (λ (c : Content). c.number)) is.holds;
      numbers = λ other apart. numbers_put name bytes files other apart;
      kept = stored_put name bytes good files;
    }

    -- put or not
    pub saved_or_not : (f : Files) (bytes : List ℕ) → IsNextText config f bytes → (g : Files) → IsPutOrNot (point_file name) bytes f g → IsSavedOrNot name config f g
    saved_or_not f bytes is g (inl same) = record { files = inl same; points = inl (points_same f g same); kept = stored_same f g same }
    saved_or_not f bytes is g (inr same) = record {
      files = inr (same ∙ ap (λ (b : List ℕ). without_scratch (with_file (point_file name) (Some b) f)) is.text);
      points = inr (points_same _ g same ∙ saved_points (next_number f) bytes is.holds f);
      kept = stored_same _ g same ∙ stored_with name good (Some bytes) f;
    }

    -- put, and so it lasts
    pub saves : (bytes : List ℕ) (o p n : Option State) → p ≡ o → IfSome o (λ s. IsNextText config s.files bytes)
        → n ≡ option_map (after_put (point_file name) bytes) p → Settles (IsSaved name config) o n
    saves bytes None p n same is e = e ∙ ap (option_map (after_put (point_file name) bytes)) same
    saves bytes (Some s) p n same is e =
        (put (point_file name) bytes s.files, e ∙ ap (option_map (after_put (point_file name) bytes)) same, is_saved s.files bytes is)

    -- of a host that may tell its state
    pub saved_told : (bytes : List ℕ) (o : Option State) → IfSome o (λ s. IsNextText config s.files bytes)
        → IfSome o (λ s. (g : Files) → IsPutOrNot (point_file name) bytes s.files g → IsSavedOrNot name config s.files g)
    saved_told bytes None is = tt
    saved_told bytes (Some s) is = saved_or_not s.files bytes is
