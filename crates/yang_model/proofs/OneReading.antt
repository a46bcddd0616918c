-- There are readers that read what they are to read, and no two of them differ.
use Rattle.std.proofs.Common.{◌≡◌, ◌∙◌, ℕ, List, Option, Some, None, refl, sym}
use Rattle.yang_pattern.specs.Decided.{IsDecided}
use Rattle.yang_pattern.specs.Language.{IsPattern, MatchesText}
use Rattle.yang_pattern.proofs.Deciding.{match_told, pattern_told}
use Rattle.yang_pattern.proofs.Decisions.{decided_by}
use Rattle.yang_types.specs.Accepts.{Accepts}
use Rattle.yang_types.specs.DataType.{DataType}
use Rattle.yang_types.proofs.Accepting.{accepts_told}
use Rattle.yang_scope.specs.Modules.{Module}
use Rattle.yang_scope.specs.Paths.{Placed}
use Rattle.xpath_part.specs.Expression.{Expression}
use Rattle.xpath_part.specs.Reading.{read_expression}
use Rattle.xpath_part.proofs.Spelling.{spelled_text, text_spells}
use Rattle.yang_values.proofs.CirclesTold.{circles_told}
use Rattle.yang_values.proofs.WrittenTypes.{told_alike}
use Rattle.yang_must.specs.Musts.{ReadsExpressions}
use Rattle.yang_model.specs.Readers.{Readers, AreTrue}

patterns_told : IsDecided IsPattern
patterns_told = decided_by IsPattern pattern_told

texts_told : (t : DataType) → IsDecided (Accepts t)
texts_told t = decided_by (Accepts t) (accepts_told (λ pattern. decided_by (MatchesText pattern) (match_told pattern)) t)

pub some_readers : Readers
some_readers = record {
  tests = record {
    is_pattern = patterns_told.test;
    accepts = λ t. (texts_told t).test;
    is_on_circle = λ modules. (circles_told modules).test;
  };
  read = read_expression;
}

pub some_are_true : AreTrue some_readers
unfolding some_readers
some_are_true = record {
  tests = record {
    patterns = record { decides = patterns_told.tells };
    texts = record { decides = λ t. (texts_told t).tells };
    circles = λ modules. record { decides = (circles_told modules).tells };
  };
  expressions = record { reads = λ s e. (λ h. text_spells s e h, λ h. spelled_text s e h) };
}

none_some : (e : Expression) → ¬ (None ≡ Some e)
none_some e is = cc

module _ (f g : List ℕ → Option Expression) (reads : ReadsExpressions f) (other : ReadsExpressions g) (s : List ℕ) where
  read_by : (o u : Option Expression) → f s ≡ o → g s ≡ u → o ≡ u
  read_by (Some e) u here there = sym ((other.reads s e).1 ((reads.reads s e).0 here)) ∙ there
  read_by None None here there = refl
  read_by None (Some e) here there = absurd (none_some e (sym here ∙ (reads.reads s e).1 ((other.reads s e).0 there)))

  read_alike : f s ≡ g s
  read_alike = read_by (f s) (g s) refl refl

pub readers_once : (a b : Readers) → AreTrue a → AreTrue b → a ≡ b
readers_once a b p q =
    let patterns : (s : List ℕ) → a.tests.is_pattern s ≡ b.tests.is_pattern s =
    λ s.
    let one = p.tests.patterns.decides s in
    let other = q.tests.patterns.decides s in
    told_alike (a.tests.is_pattern s) (b.tests.is_pattern s) (λ h. other.1 (one.0 h)) (λ h. one.1 (other.0 h)) in
    let texts : (t : DataType) (s : List ℕ) → a.tests.accepts t s ≡ b.tests.accepts t s =
    λ t s.
    let one = p.tests.texts.decides t s in
    let other = q.tests.texts.decides t s in
    told_alike (a.tests.accepts t s) (b.tests.accepts t s) (λ h. other.1 (one.0 h)) (λ h. one.1 (other.0 h)) in
    let circles : (modules : List Module) (x : Placed) → a.tests.is_on_circle modules x ≡ b.tests.is_on_circle modules x =
    λ modules x.
    let one = (p.tests.circles modules).decides x in
    let other = (q.tests.circles modules).decides x in
    told_alike (a.tests.is_on_circle modules x) (b.tests.is_on_circle modules x) (λ h. other.1 (one.0 h)) (λ h. one.1 (other.0 h)) in
    λ i. record {
      tests = record {
        is_pattern = λ s. patterns s i;
        accepts = λ t s. texts t s i;
        is_on_circle = λ modules x. circles modules x i;
      };
      read = λ s. read_alike a.read b.read p.expressions q.expressions s i;
    }
