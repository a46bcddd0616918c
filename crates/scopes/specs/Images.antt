-- What a scope shows of what a crash may leave is what a crash may leave of what it shows.
use Rattle.std.proofs.Common.{◌≡◌, inl, inr, ℕ, List, Option, Some, None, option_map, refl, sym, ap, ◌∙◌, subst}
use Rattle.std.specs.FinMap.{get}
use Rattle.std.specs.Option.{option_map_or}
use Rattle.host_core.specs.Crashes.{Left, Image, MayLeaveNow, MayLeaveInPrint}
use Rattle.host_core.specs.State.{Files, Pending, settled, dirty, listing, State, with_file, printed}
use Rattle.host_core.proofs.EntriesOfFiles.{content_there}
use Rattle.scopes.specs.Files.{plain_name}
use Rattle.scopes.specs.Views.{IsSeen, seen, seen_files, seen_left, seen_pending}
use Rattle.scopes.specs.declared.scope.Scope.{Scope}
use Rattle.scopes.specs.Renaming.{named}
use Rattle.scopes.specs.Seeing.{folder, seen-folder, seen-with_file, seen-without}

module _ (scope : Scope) where
  -- ---- files

  -- other content of a file that the scope has
  one_other : (name plain : List ℕ) (content : Option (List ℕ)) (files : Files)
      → plain_name scope name ≡ Some plain
      → seen_files scope (with_file name content files)
      ≡ with_file plain content (seen_files scope files)
  one_other name plain content files is =
      ap (λ n. seen_files scope (with_file n content files)) (named scope name plain is)
      ∙ seen-with_file scope plain content files

  -- what a scope shows of files that a crash left is left of what it shows
  files_seen : (p : Pending) (files left : Files) → Image p files left
      → Image (seen_pending scope p files) (seen_files scope files) (seen_files scope left)
  files_seen settled files left is = ap (seen_files scope) is
  files_seen (dirty name) files left (content, is) = by (plain_name scope name) refl
    where
      by : (o : Option (List ℕ)) → plain_name scope name ≡ o
          → Image (option_map_or dirty o (listing (seen_files scope files)))
          (seen_files scope files) (seen_files scope left)
      by None none = inr (ap (seen_files scope) is ∙ seen-without scope name content files none)
      by (Some plain) some =
          (content, ap (seen_files scope) is ∙ one_other name plain content files some)
  files_seen (listing before) files left (inl is) = inl (ap (seen_files scope) is)
  files_seen (listing before) files left (inr is) = inr (ap (seen_files scope) is)

  -- what is left of what it shows is shown of something that a crash left
  seen_of : (p : Pending) (files left : Files)
      → Image (seen_pending scope p files) (seen_files scope files) left
      → (whole : Files) × Image p files whole × (left ≡ seen_files scope whole)
  seen_of settled files left is = (files, refl, is)
  seen_of (dirty name) files left image = by (plain_name scope name) refl image
    where
      there : left ≡ seen_files scope files → (whole : Files) × Image (dirty name) files whole
          × (left ≡ seen_files scope whole)
      there is = (files, (get files name, sym (content_there name files)), is)

      by : (o : Option (List ℕ)) → plain_name scope name ≡ o
          → Image (option_map_or dirty o (listing (seen_files scope files)))
          (seen_files scope files) left
          → (whole : Files) × Image (dirty name) files whole × (left ≡ seen_files scope whole)
      by None none (inl is) = there is
      by None none (inr is) = there is
      by (Some plain) some (content, is) = (
        with_file name content files,
        (content, refl),
        is
            ∙ sym (one_other name plain content files some),
      )
  seen_of (listing before) files left (inl is) = (before, inl refl, is)
  seen_of (listing before) files left (inr is) = (files, inr refl, is)

  -- ---- states

  -- what a scope shows of an image is an image of what it shows
  pub may_seen : (o : Option State) (whole : Left) → MayLeaveNow o whole
      → MayLeaveNow (option_map (seen scope) o) (seen_left scope whole)
  may_seen None whole may = tt
  may_seen (Some s) whole may =
      record {
        files = files_seen s.pending s.files whole.files may.files;
        output = may.output;
        restarts = may.restarts;
      }

  -- and each of those is shown of one
  pub seen_may : (o : Option State) (left : Left) → MayLeaveNow (option_map (seen scope) o) left
      → IsSeen scope (MayLeaveNow o) left
  seen_may None left may = (
    record { files = folder scope left.files; output = left.output; restarts = left.restarts },
    tt,
    (λ i. record {
      files = sym (seen-folder scope left.files) i;
      output = left.output;
      restarts = left.restarts;
    }),
  )
  seen_may (Some s) left may =
      let found = seen_of s.pending s.files left.files may.files in (
        record { files = found.0; output = s.output; restarts = s.restarts },
        record { files = found.1; output = refl; restarts = refl },
        (λ i. record { files = found.2 i; output = may.output i; restarts = may.restarts i }),
      )

  -- ---- while bytes are printed

  printed_seen : (part : List ℕ) (o : Option State)
      → option_map (printed part) (option_map (seen scope) o)
      ≡ option_map (seen scope) (option_map (printed part) o)
  printed_seen part None = refl
  printed_seen part (Some s) = refl

  pub print_seen : (bytes : List ℕ) (o : Option State) (whole : Left)
      → MayLeaveInPrint bytes o whole
      → MayLeaveInPrint bytes (option_map (seen scope) o) (seen_left scope whole)
  print_seen bytes o whole (part, rest, is, may) = (
    part,
    rest,
    is,
    subst (λ n. MayLeaveNow n (seen_left scope whole)) (sym (printed_seen part o))
        (may_seen (option_map (printed part) o) whole may),
  )

  pub seen_print : (bytes : List ℕ) (o : Option State) (left : Left)
      → MayLeaveInPrint bytes (option_map (seen scope) o) left
      → IsSeen scope (MayLeaveInPrint bytes o) left
  seen_print bytes o left (part, rest, is, may) =
      let found =
      seen_may (option_map (printed part) o) left
      (subst (λ n. MayLeaveNow n left) (printed_seen part o) may) in
      (found.0, (part, rest, is, found.1), found.2)
