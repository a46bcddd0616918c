-- The bytes that a configuration is written as hold it.
use Rattle.std.proofs.Common.{◌≡◌, ℕ, List, Some, None, Result, Ok, Err, ap, ◌∙◌}
use Rattle.host_core.specs.Answers.{◌>>=◌}
use Rattle.conf_doc.specs.Configuration.{tree}
use Rattle.conf_doc.specs.Document.{Document}
use Rattle.conf_doc.specs.Reading.{Way, document_of, json, json_checked, kind_checked, reading}
use Rattle.conf_doc.specs.Shaping.{configuration, shape_checked, shaping}
use Rattle.conf_doc.specs.declared.configuration.Config.{Config}
use Rattle.conf_store.specs.Stored.{config_in, or_none, or_why}
use Rattle.conf_store.specs.declared.errors.StoredWhy.TheVariants.{BadJson, BadKind, BadShape}

-- bytes that are read as a configuration's document hold the configuration that it is shaped as
pub text_holds : (bytes : List ℕ) (c : Config) → reading bytes ≡ Ok (tree c) → shaping (tree c) ≡ Ok c → config_in bytes ≡ Ok c
text_holds bytes c reads shapes =
    elim (json bytes) as (λ o. json_checked o ≡ Ok (tree c) → (or_none BadJson o >>= λ v. or_why BadKind (document_of v) >>= λ d. or_why BadShape (configuration d)) ≡ Ok c) [
      | None ↦ λ e. absurd cc
      | Some v ↦ λ e. read_document (document_of v) e
    ] reads
  where
    shape : (r : Result Config Way) → shape_checked r ≡ Ok c → or_why BadShape r ≡ Ok c
    shape (Ok x) e = let same : x ≡ c = cc in ap (λ (y : Config). Ok y) same
    shape (Err way) e = absurd cc

    read_document : (r : Result Document Way) → kind_checked r ≡ Ok (tree c) → (or_why BadKind r >>= λ d. or_why BadShape (configuration d)) ≡ Ok c
    read_document (Ok d) e =
        let same : d ≡ tree c = cc in
        ap (λ (x : Document). or_why BadShape (configuration x)) same ∙ shape (configuration (tree c)) shapes
    read_document (Err way) e = absurd cc
