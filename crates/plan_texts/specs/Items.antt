-- Items of lists, as the tokens of a pointer tell them.
use Rattle.std.specs.Prelude.{◌≡◌, ◌≢◌, ℕ, ◌<◌, List, [], ◌∷◌, ◌++◌, length, Option, Some, None, IfSome, IsUtf8}
use Rattle.conf_doc.specs.Document.{Document, text}
use Rattle.conf_doc.specs.Paths.{IsPath}
use Rattle.conf_doc.specs.WellFormed.{AreTexts}
use Rattle.move_core.specs.Operations.{index_text}
use Rattle.plan_texts.specs.PlanTexts.{index_end}

-- the index that a token is, where it is one in decimal
pub record IsIndexIn (token : List ℕ) (found : Option ℕ) : Type 0 where
  pub is : IfSome found (λ i. i < index_end)
  pub all : (i : ℕ) → i < index_end → token ≡ index_text i → found ≡ Some i

-- the field and the index that tokens are, where they are these
pub record IsItemIn (tokens : List (List ℕ)) (found : Option (List (List ℕ) × ℕ)) : Type 0 where
  pub is :
      IfSome found (λ x.
      (length tokens ≡ 4) × IsPath x.0 × AreTexts x.0 × (length x.0 ≡ 3) × (x.1 < index_end))
  pub all :
      (p : List (List ℕ)) (i : ℕ) → IsPath p → length p ≡ 3 → i < index_end
      → tokens ≡ p ++ index_text i ∷ [] → found ≡ Some (p, i)

-- the text that a document is, or that it is none
abbrev pub IsTextIn : Document → Option (List ℕ) → Type 0
IsTextIn d None = (t : List ℕ) → d ≢ text t
IsTextIn d (Some t) = (d ≡ text t) × IsUtf8 t
