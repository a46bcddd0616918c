-- What is true of every configuration, at every depth: names rise, none is empty, all texts are UTF-8.
use Rattle.std.specs.Prelude.{ℕ, List, [], ◌∷◌, map, IsUtf8}
use Rattle.conf_doc.specs.Pairs.{IsRising, AreNamed}
use Rattle.conf_doc.specs.declared.configuration.Value.{Value}
use Rattle.conf_doc.specs.declared.configuration.Value.TheVariants.{Text, List as Listed}

-- each is UTF-8
abbrev pub AreTexts : List (List ℕ) → Type 0
AreTexts [] = Unit {0}
AreTexts (t ∷ ts) = IsUtf8 t × AreTexts ts

-- names rise, none is empty, each is a text
pub record IsShaped {A : Type 0} (ps : List (List ℕ × A)) : Type 0 where
  pub rising : IsRising ps
  pub named : AreNamed ps
  pub texts : AreTexts (map (λ p. p.0) ps)

-- P holds of what each name names
abbrev pub Each : {A : Type 0} → (A → Type 0) → List (List ℕ × A) → Type 0
Each P [] = Unit {0}
Each P (p ∷ ps) = P p.1 × Each P ps

-- the text or the texts are UTF-8
abbrev pub IsValue : Value → Type 0
IsValue (Text t) = IsUtf8 t
IsValue (Listed ts) = AreTexts ts

-- fields that keep the rules, with their values
pub record IsEntry (e : List (List ℕ × Value)) : Type 0 where
  pub shaped : IsShaped e
  pub parts : Each IsValue e

-- keys that keep the rules, with their entries
pub record IsTable (t : List (List ℕ × List (List ℕ × Value))) : Type 0 where
  pub shaped : IsShaped t
  pub parts : Each IsEntry t

-- names of tables that keep the rules, with their tables
pub record IsConfig (c : List (List ℕ × List (List ℕ × List (List ℕ × Value)))) : Type 0 where
  pub shaped : IsShaped c
  pub parts : Each IsTable c
