-- The documents after the steps are those of the configurations after them.
use Rattle.std.proofs.Common.{◌≡◌, ℕ, zero, suc, ◌+◌, List, Option, Some, None, Result, Ok, Err, refl, sym, ap, ◌∙◌}
use Rattle.std.specs.FinMap.{get}
use Rattle.host_core.specs.Answers.{◌>>=◌}
use Rattle.host_core.specs.State.{Files}
use Rattle.conf_doc.specs.Configuration.{tree}
use Rattle.conf_doc.specs.Document.{Document}
use Rattle.conf_doc.specs.Reading.{Way}
use Rattle.conf_doc.specs.Shaping.{configuration}
use Rattle.conf_doc.specs.declared.configuration.Config.{Config}
use Rattle.patch_core.specs.Apply.{apply_plain}
use Rattle.patch_core.specs.Operation.{Operation}
use Rattle.patch_core.specs.Reading.{patch}
use Rattle.patch_core.specs.declared.errors.ApplyError.{ApplyError}
use Rattle.patch_core.specs.declared.errors.PatchError.{PatchError}
use Rattle.conf_store.specs.Files.{step_name}
use Rattle.conf_store.specs.Stored.{after_steps, or_why, unless_missing as config_unless_missing}
use Rattle.conf_store.specs.Walk.{document_after, documents_after, shaped, unless_missing}
use Rattle.conf_store.specs.declared.errors.StoredWhy.{StoredWhy}
use Rattle.conf_store.specs.declared.errors.StoredWhy.TheVariants.{BadShape, BadStep}
use Rattle.conf_store.proofs.Shaping.{config_back}

-- the configuration that a document is in the end
abbrev pub config_of : Document → Result Config StoredWhy
config_of d = or_why BadShape (configuration d)

module _ (n : ℕ) (files : Files) (behind : Config → Result Config StoredWhy) (later : Document → Result Document StoredWhy)
    (alike : (d : Document) (c : Config) → configuration d ≡ Ok c → behind c ≡ (later d >>= config_of)) where
  -- what the step leaves
  left_alike : (left : Document) (r : Result Config Way) → configuration left ≡ r
      → (or_why (BadStep n) r >>= behind) ≡ ((or_why (BadStep n) r >>= λ _. Ok left) >>= later >>= config_of)
  left_alike left (Ok c) is = alike left c is
  left_alike left (Err way) is = refl

  applied_alike : (r : Result Document ApplyError) → (or_why (BadStep n) r >>= (λ d. or_why (BadStep n) (configuration d)) >>= behind)
      ≡ (or_why (BadStep n) r >>= shaped (BadStep n) >>= later >>= config_of)
  applied_alike (Ok left) = left_alike left (configuration left) refl
  applied_alike (Err e) = refl

  ops_alike : (r : Result (List Operation) PatchError) (d e : Document) → e ≡ d
      → (or_why (BadStep n) r >>= (λ ops. or_why (BadStep n) (apply_plain ops e) >>= λ left. or_why (BadStep n) (configuration left)) >>= behind)
      ≡ (or_why (BadStep n) r >>= (λ ops. document_after n ops d) >>= later >>= config_of)
  ops_alike (Ok ops) d e same =
      ap (λ (x : Document). or_why (BadStep n) (apply_plain ops x) >>= (λ left. or_why (BadStep n) (configuration left)) >>= behind) same
      ∙ applied_alike (apply_plain ops d)
  ops_alike (Err e) d other same = refl

  file_alike : (found : Option (List ℕ)) (d : Document) (c : Config) → configuration d ≡ Ok c
      → config_unless_missing found n behind c ≡ (unless_missing found n later d >>= config_of)
  file_alike None d c is = ap (or_why BadShape) (sym is)
  file_alike (Some bytes) d c is = ops_alike (patch bytes) d (tree c) (config_back d c is)

pub alike : (more n : ℕ) (files : Files) (d : Document) (c : Config) → configuration d ≡ Ok c
    → after_steps more n files c ≡ (documents_after more n files d >>= config_of)
alike zero n files d c is = ap (or_why BadShape) (sym is)
alike (suc more) n files d c is =
    file_alike n files (after_steps more (n + 1) files) (documents_after more (n + 1) files) (alike more (n + 1) files) (get files (step_name n)) d c is
