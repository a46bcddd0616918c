-- The tokens of items and of members, without the closing bracket.
use Rattle.std.specs.Prelude.{◌≡◌, ℕ, List, [], ◌∷◌, ◌++◌}
use Rattle.json.specs.Token.{Token, key}
use Rattle.json.specs.Written.{Written}
use Rattle.conf_doc.specs.Document.{Document}
use Rattle.conf_doc.specs.Texts.{document_tokens}

-- each item as f's document
abbrev pub opened_items : {A : Type 0} → (A → Document) → List A → List Token
opened_items f [] = []
opened_items f (x ∷ xs) = document_tokens (f x) ++ opened_items f xs

-- each name, and what it names as f's document
abbrev pub opened_members : {A : Type 0} → (A → Document) → List (List ℕ × A) → List Token
opened_members f [] = []
opened_members f (p ∷ ps) = key p.0 ∷ (document_tokens (f p.1) ++ opened_members f ps)

-- the writer's text is longer by these tokens
pub record Adds (old new : Written) (ts : List Token) : Type 0 where
  pub before : new.before ≡ old.before
  pub tokens : new.tokens ≡ old.tokens ++ ts
