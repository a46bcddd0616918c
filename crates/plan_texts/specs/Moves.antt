-- Operations and texts as moves.
use Rattle.std.specs.Prelude.{◌≡◌, ◌≢◌, ℕ, List, ◌++◌, Option, Some, IfSome, MatchOption}
use Rattle.conf_doc.specs.Changes.{Fits}
use Rattle.conf_doc.specs.Configuration.{part_tree}
use Rattle.conf_doc.specs.Document.{Document}
use Rattle.conf_doc.specs.Paths.{IsPath}
use Rattle.conf_doc.specs.Texts.{compact}
use Rattle.conf_doc.specs.WellFormed.{AreTexts}
use Rattle.conf_doc.specs.declared.parts.Part.{Part}
use Rattle.patch_core.specs.Operation.{Operation}
use Rattle.patch_core.specs.Writing.{operation_document}
use Rattle.move_core.specs.Operations.{number_text, op}
use Rattle.move_core.specs.declared.moves.Move.{Move}
use Rattle.plan_texts.specs.PlanTexts.{IsMove, IsPart}

-- the place and the part that names and a document are, where they are these
pub record IsPlaceAndPart
    (names : List (List ℕ)) (d : Document) (found : Option (List (List ℕ) × Part))
    : Type 0 where
  pub is :
      IfSome found (λ x.
      (x.0 ≡ names) × IsPath names × AreTexts names × Fits names x.1 × IsPart x.1)
  pub all :
      (p : Part) → IsPath names → Fits names p → IsPart p → d ≡ part_tree p
      → found ≡ Some (names, p)

-- the move that an operation is, where it is one
pub record IsMoveOf (o : Operation) (found : Option Move) : Type 0 where
  pub is : IfSome found IsMove
  pub all : (m : Move) → IsMove m → o ≡ op m → found ≡ Some m

-- the compact text of a move's operation
abbrev pub move_text : Move → List ℕ
move_text m = compact (operation_document (op m))

-- the move that a text is of, or that it is of none
abbrev pub IsMoveIn : List ℕ → Option Move → Type 0
IsMoveIn text found =
    MatchOption found ((m : Move) → IsMove m → text ≢ move_text m)
    (λ m. IsMove m × (text ≡ move_text m))

-- the same of a line with a number
abbrev pub IsStepIn : ℕ → List ℕ → Option Move → Type 0
IsStepIn number line found =
    MatchOption found ((m : Move) → IsMove m → line ≢ number_text number ++ move_text m)
    (λ m. IsMove m × (line ≡ number_text number ++ move_text m))
