-- What a pick of a crash leaves.
use Rattle.std.proofs.Common.{◌≡◌, ℕ, inl, inr, List, Option, Some, None, refl, sym, ap, ◌∙◌, cond, Bool, true, false}
use Rattle.std.specs.FinMap.{get}
use Rattle.std.specs.Ordering.{eq_by_cmp}
use Rattle.host_core.specs.Names.{name_cmp}
use Rattle.host_core.specs.Crashes.{Image}
use Rattle.host_core.specs.Picks.{picked}
use Rattle.host_core.specs.State.{Files, Pending, settled, dirty, listing, with_file}
use Rattle.host_core.specs.declared.crash.Pick.{Pick}
use Rattle.host_core.specs.declared.crash.Pick.TheVariants.{Gone, Bytes, Before, After}
use Rattle.host_core.proofs.EntriesOfFiles.{content_there, get-with_file, same_files}

-- what is picked is an image
pub picked_image : (pick : Pick) (pending : Pending) (now : Files) → Image pending now (picked pick pending now)
picked_image Gone settled now = refl
picked_image (Bytes bytes) settled now = refl
picked_image Before settled now = refl
picked_image After settled now = refl
picked_image Gone (dirty name) now = (None, refl)
picked_image (Bytes bytes) (dirty name) now = (Some bytes, refl)
picked_image Before (dirty name) now = (get now name, sym (content_there name now))
picked_image After (dirty name) now = (get now name, sym (content_there name now))
picked_image Gone (listing before) now = inr refl
picked_image (Bytes bytes) (listing before) now = inr refl
picked_image Before (listing before) now = inl refl
picked_image After (listing before) now = inr refl

-- the files as they read are an image
pub same_image : (pending : Pending) (now : Files) → Image pending now now
same_image settled now = refl
same_image (dirty name) now = (get now name, sym (content_there name now))
same_image (listing before) now = inr refl

-- what was set before at the same name is gone
pub content_again : (name : List ℕ) (first second : Option (List ℕ)) (files : Files)
    → with_file name second (with_file name first files) ≡ with_file name second files
content_again name first second files = same_files _ _ (λ q.
    get-with_file name second _ q ∙ ap (cond (eq_by_cmp name_cmp q name) second) (get-with_file name first files q)
    ∙ by q (eq_by_cmp name_cmp q name) ∙ sym (get-with_file name second files q))
  where
    by : (q : List ℕ) (b : Bool) → cond b second (cond b first (get files q)) ≡ cond b second (get files q)
    by q true = refl
    by q false = refl
