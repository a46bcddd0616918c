-- A checkpoint's file put anew keeps all checkpoints and their numbers.
use Rattle.std.proofs.Common.{◌≡◌, ℕ, List, cond, Option, Some, None, IfSome, inl, inr, ⊎_elim, refl, sym, ap, ◌∙◌, subst, option_map, slice_get}
use Rattle.std.specs.FinMap.{get}
use Rattle.std.specs.Prelude.{option_and_then}
use Rattle.host_core.specs.Crashes.{Left, LeavesOnly}
use Rattle.host_core.specs.State.{Files, State, with_file}
use Rattle.host_core.proofs.Runs as runs
use Rattle.conf_store.specs.Changes.{AreLeft, Changes, Settles}
use Rattle.conf_store.specs.Files.{without_scratch}
use Rattle.conf_store.specs.Puts.{IsPutOrNot, IsSame, after_put, put}
use Rattle.checkpoints.specs.Formats.{number_held}
use Rattle.checkpoints.specs.Migrations.{IsDue, IsRewritten, IsRewrittenOrNot, KeepsOtherFormats, KeepsPoints, NewFile, old_held, old_point}
use Rattle.checkpoints.specs.Names.{point_file}
use Rattle.checkpoints.specs.Numbers.{number}
use Rattle.checkpoints.specs.Points.{Points}
use Rattle.checkpoints.proofs.Moments.{AtAnyMoment, changes_weaker}
use Rattle.checkpoints.proofs.NamesOfFiles.{by_name, files_differ, is_name, other_name, same_name}
use Rattle.checkpoints.proofs.NumberWrites.{files_same, number_behind, others_put, others_with, put_there}
use Rattle.checkpoints.proofs.PointMaps.{get_with, points_anew, points_behind, points_same}
use Rattle.checkpoints.proofs.StoredConfigurations.{stored_behind, stored_same, stored_with}

-- ---- the scratch file

same_keeps : (f g : Files) → IsSame f g → KeepsPoints f g
same_keeps f g same = record {
  points = points_same f g same;
  numbers = λ q. ap (option_and_then number_held) (files_same f g same q);
  kept = stored_same f g same;
}

scratch_keeps : (f : Files) → KeepsPoints f (without_scratch f)
scratch_keeps f = record { points = points_behind f; numbers = number_behind f; kept = stored_behind f }

keeps_both : (f g h : Files) → KeepsPoints f g → KeepsPoints g h → KeepsPoints f h
keeps_both f g h one two = record {
  points = two.points ∙ one.points;
  numbers = λ q. two.numbers q ∙ one.numbers q;
  kept = two.kept ∙ one.kept;
}

same_formats : (f g : Files) → IsSame f g → (q : List ℕ) → old_point g q ≡ old_point f q
same_formats f g same q = ap (option_and_then old_held) (files_same f g same q)

-- it may be put anew as long as the checkpoints are the same
pub due_still : (new : NewFile) (f g : Files) → KeepsPoints f g → IsDue new f → IsDue new g
due_still new f g keeps due = record {
  good = due.good;
  format = due.format;
  point = ap (λ (p : Points). get p new.0) keeps.points ∙ due.point;
  number = keeps.numbers new.0 ∙ due.number;
}

-- ---- the file

module _ (new : NewFile) where
  -- the number of each with this file
  numbers_with : (files : Files) → IsDue new files → (q : List ℕ) → number (with_file (point_file new.0) (Some new.1) files) q ≡ number files q
  numbers_with files due q = ap (option_and_then number_held) (get_with (point_file new.0) (Some new.1) files (point_file q)) ∙ ⊎_elim same differ (by_name q new.0)
    where
      same : q ≡ new.0 → option_and_then number_held (cond (is_name (point_file q) (point_file new.0)) (Some new.1) (get files (point_file q))) ≡ number files q
      same e =
          ap (λ b. option_and_then number_held (cond b (Some new.1) (get files (point_file q)))) (same_name (point_file q) (point_file new.0) (ap point_file e))
          ∙ sym due.number ∙ ap (number files) (sym e)

      differ : (q ≡ new.0 → ⊥) → option_and_then number_held (cond (is_name (point_file q) (point_file new.0)) (Some new.1) (get files (point_file q))) ≡ number files q
      differ apart =
          ap (λ b. option_and_then number_held (cond b (Some new.1) (get files (point_file q)))) (other_name (point_file q) (point_file new.0) (files_differ q new.0 apart))

  with_new : (files : Files) → IsDue new files → KeepsPoints files (with_file (point_file new.0) (Some new.1) files)
  with_new files due = record {
    points = points_anew new.0 due.good new.1 files due.point;
    numbers = numbers_with files due;
    kept = stored_with new.0 due.good (Some new.1) files;
  }

  formats_with : (files : Files) → KeepsOtherFormats new.0 files (with_file (point_file new.0) (Some new.1) files)
  formats_with files other differs = ap (option_and_then old_held) (others_with new.0 (Some new.1) files other differs)

  -- put or not
  pub rewritten_or_not : (files : Files) → IsDue new files → (g : Files) → IsPutOrNot (point_file new.0) new.1 files g → IsRewrittenOrNot new files g
  rewritten_or_not files due g (inl same) = record { files = inl same; formats = λ other differs. same_formats files g same other; same = same_keeps files g same }
  rewritten_or_not files due g (inr same) = record {
    files = inr same;
    formats = λ other differs. same_formats (with_file (point_file new.0) (Some new.1) files) g same other ∙ formats_with files other differs;
    same = keeps_both files (with_file (point_file new.0) (Some new.1) files) g (with_new files due) (same_keeps (with_file (point_file new.0) (Some new.1) files) g same);
  }

  rewritten : (files : Files) → IsDue new files → IsRewritten new files (put (point_file new.0) new.1 files)
  rewritten files due = record {
    files = refl;
    format = ap (option_and_then old_held) (put_there new.0 new.1 files) ∙ due.format;
    formats = λ other differs. ap (option_and_then old_held) (others_put new.0 new.1 files other differs);
    same =
        keeps_both files (without_scratch files) (put (point_file new.0) new.1 files) (scratch_keeps files)
        (with_new (without_scratch files) (due_still new files (without_scratch files) (scratch_keeps files) due));
  }

-- ---- of a host that may tell its state

module _ (all : List NewFile) (i : ℕ) (new : NewFile) (is : slice_get all i ≡ Some new) where
  of_it : (P : NewFile → Type 0) → IfSome (slice_get all i) P → P new
  of_it P h = subst (λ o. IfSome o P) is h

  it_has : (P : NewFile → Type 0) → P new → IfSome (slice_get all i) P
  it_has P h = subst (λ o. IfSome o P) (sym is) h

  -- put, and so it lasts
  pub settles_anew : (o n : Option State) → IfSome o (λ s. IfSome (slice_get all i) (λ x. IsDue x s.files)) → n ≡ option_map (after_put (point_file new.0) new.1) o
      → IfSome (slice_get all i) (λ x. Settles (IsRewritten x) o n)
  settles_anew None n due told = it_has (λ x. Settles (IsRewritten x) None n) told
  settles_anew (Some s) n due told =
      it_has (λ x. Settles (IsRewritten x) (Some s) n)
      (put (point_file new.0) new.1 s.files, told, rewritten new s.files (of_it (λ x. IsDue x s.files) due))

  -- put or not
  pub changes_anew : (o n : Option State) → IfSome o (λ s. IfSome (slice_get all i) (λ x. IsDue x s.files)) → Changes (IsPutOrNot (point_file new.0) new.1) o n
      → IfSome (slice_get all i) (λ x. Changes (IsRewrittenOrNot x) o n)
  changes_anew None n due changes = it_has (λ x. Changes (IsRewrittenOrNot x) None n) changes
  changes_anew (Some s) n due changes =
      it_has (λ x. Changes (IsRewrittenOrNot x) (Some s) n)
      (changes_weaker (IsPutOrNot (point_file new.0) new.1) (IsRewrittenOrNot new) (Some s) (Some s) n (rewritten_or_not new s.files (of_it (λ x. IsDue x s.files) due)) refl changes)

  module _ {H : Type 0} (moment : H → ℕ) (left_since : H → ℕ → Left → Type 0) (before after : H) where
    pub leaves_anew : (o : Option State) → IfSome o (λ s. IfSome (slice_get all i) (λ x. IsDue x s.files))
        → AtAnyMoment moment left_since (IsPutOrNot (point_file new.0) new.1) o before after
        → IfSome o (λ s. IfSome (slice_get all i) (λ x. LeavesOnly moment left_since before after (AreLeft (IsRewrittenOrNot x) s)))
    leaves_anew None due leaves = tt
    leaves_anew (Some s) due leaves =
        it_has (λ x. LeavesOnly moment left_since before after (AreLeft (IsRewrittenOrNot x) s))
        (runs.weaker moment left_since before after (AreLeft (IsPutOrNot (point_file new.0) new.1) s) (AreLeft (IsRewrittenOrNot new) s)
        (λ left h. record { files = rewritten_or_not new s.files (of_it (λ x. IsDue x s.files) due) left.files h.files; output = h.output; restarts = h.restarts }) leaves)
