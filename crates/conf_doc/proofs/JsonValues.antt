-- The JSON value of bytes.
use Rattle.std.proofs.Common.{◌≡◌, ℕ, true, false, if◌then◌else◌, List, Option, Some, None, Ok, IsUtf8, refl, ap, ◌∙◌}
use Rattle.std.specs.Str.{is_utf8}
use Rattle.std.proofs.lemmas.Str.{is_utf8-from_IsUtf8, IsUtf8-from_is_utf8}
use Rattle.serde_json.specs.Data.{Data}
use Rattle.serde_json.specs.Read.{read}
use Rattle.host_core.specs.Answers.{FailsAs}
use Rattle.conf_doc.specs.Reading.{json, json_answer, json_checked, read_fault}
use Rattle.conf_doc.specs.declared.errors.ReadError.{ReadError}
use Rattle.conf_doc.specs.declared.errors.ReadError.TheVariants.{BadJson, BadKind, Memory}

pub json_read : (bytes : List ℕ) (d : Data) → IsUtf8 bytes → read bytes ≡ Some d → json bytes ≡ Some d
json_read bytes d text reads = ap (λ b. if b then read bytes else None) (is_utf8-from_IsUtf8 bytes text) ∙ reads

pub json_unread : (bytes : List ℕ) → (IsUtf8 bytes → read bytes ≡ None) → json bytes ≡ None
json_unread bytes unread =
    elim (is_utf8 bytes) as (λ b. is_utf8 bytes ≡ b → (if b then read bytes else None) ≡ None) [
      | true ↦ λ e. unread (IsUtf8-from_is_utf8 bytes e)
      | false ↦ λ e. refl
    ] refl

pub answered : (o : Option Data) (d : Data) → json_answer o ≡ Ok d → o ≡ Some d
answered None d e = cc
answered (Some v) d e = let same : v ≡ d = cc in ap Some same

-- bytes that no value answers for are no tree either
pub unanswered : (o : Option Data) (e : ReadError) → FailsAs (read_fault e) (json_answer o) → FailsAs (read_fault e) (json_checked o)
unanswered None BadJson f = refl
unanswered None (BadKind place) f = cc
unanswered None Memory f = tt
unanswered (Some d) BadJson f = cc
unanswered (Some d) (BadKind place) f = cc
unanswered (Some d) Memory f = tt
