-- A text spells no more statements than it has bytes.
use Rattle.std.proofs.Common.{◌≡◌, ◌≤◌, ◌<◌, ◌+◌, ◌⊎◌, ℕ, List, [], ◌∷◌, ◌++◌, length, ap, arith, inl, inr}
use Rattle.std.proofs.lemmas.List.{length-append}
use Rattle.yang_text.specs.Declarations.{Declaration, declare, Block, no_more, more, weight, block_weight, total_weight, block_of}
use Rattle.yang_text.specs.Falls.{block_weighs}
use Rattle.yang_text.specs.Grammar.{IsStatement, AreStatements}
use Rattle.yang_text.specs.Limits.{most_open}
use Rattle.yang_text.specs.declared.lexing.Kind.TheVariants.{Semicolon, Open, Close}
use Rattle.yang_text.specs.declared.lexing.Token.{Token}

ends_long : (text : List ℕ) (depth : ℕ) (b : Block) (ts : List Token)
    → ((inner : List Token) → AreStatements text (depth + 1) b inner → block_weight b + block_weight b ≤ length inner)
    → ((b ≡ no_more) × ((end : Token) × (ts ≡ end ∷ []) × (end.kind ≡ Semicolon)))
    ⊎ ((opening : Token) × (inner : List Token) × (closing : Token) × (ts ≡ opening ∷ (inner ++ closing ∷ []))
    × (opening.kind ≡ Open) × (closing.kind ≡ Close) × (depth < most_open) × AreStatements text (depth + 1) b inner)
    → block_weight b + block_weight b + 1 ≤ length ts
ends_long text depth b ts within (inl (none, (end, e, k))) = omega (arith, ap length e, ap block_weight none)
ends_long text depth b ts within (inr (opening, inner, closing, e, ko, kc, low, block)) = omega (arith, ap length e, length-append inner (closing ∷ []), within inner block)

mutual
  statement_long : (text : List ℕ) (depth : ℕ) (d : Declaration) (ts : List Token) → IsStatement text depth d ts → weight d + weight d ≤ length ts
  statement_long text depth (declare k a l s e b) ts (t, args, last, whole, name, argument, end) =
      omega (arith, ap length whole, length-append args last, ends_long text depth b last (λ inner h. statements_long text (depth + 1) b inner h) end)

  statements_long : (text : List ℕ) (depth : ℕ) (b : Block) (ts : List Token) → AreStatements text depth b ts → block_weight b + block_weight b ≤ length ts
  statements_long text depth no_more ts e = omega arith
  statements_long text depth (more d b) ts (xs, ys, whole, first, others) =
      omega (arith, ap length whole, length-append xs ys, statement_long text depth d xs first, statements_long text depth b ys others)

-- each statement has two tokens at least
pub statements_few : (text : List ℕ) (ds : List Declaration) (ts : List Token) (n : ℕ) → AreStatements text 0 (block_of ds) ts → length ts ≤ n + 1 → total_weight ds ≤ n
statements_few text ds ts n h few = omega (arith, statements_long text 0 (block_of ds) ts h, block_weighs ds)
