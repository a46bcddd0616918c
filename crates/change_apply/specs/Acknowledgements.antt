-- The lines that acknowledge steps.
use Rattle.std.specs.Prelude.{◌≡◌, ◌≢◌, ℕ, zero, suc, List, [], ◌++◌, codes, decimal}
use Rattle.conf_doc.specs.Texts.{line_feed}

-- the line of a step, counted from 1
abbrev pub ack : ℕ → List ℕ
ack n = codes "applied " ++ decimal n ++ line_feed

-- the lines of the first k steps
abbrev pub acks : ℕ → List ℕ
acks zero = []
acks (suc k) = acks k ++ ack (suc k)

-- the lines of the first k steps were appended, and of the next one perhaps a part, but not all
pub record HasAcknowledged (k : ℕ) (before after : List ℕ) : Type 0 where
  pub part : List ℕ
  pub rest : List ℕ
  pub line : ack (suc k) ≡ part ++ rest
  pub cut : rest ≢ []
  pub printed : after ≡ before ++ acks k ++ part
