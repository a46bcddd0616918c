use Rattle.std.proofs.Common.{◌≡◌, ◌∙◌, refl, sym, ap, drop, ◌+◌, ◌∷◌, ℕ, Bool, Option, Some, None, get_or, IsSomeAnd, slice_get}
use Rattle.std.proofs.lemmas.List.{drop_more}
use Rattle.std.proofs.lemmas.Option.{MatchOption-at_some}
use Rattle.yang_pattern.specs.declared.frames.Reader.{Reader}
use Rattle.yang_pattern.specs.declared.symbols.Token.{Token}
use Rattle.yang_pattern.specs.Symbols.{reads_token, symbol_accepts}
use Rattle.yang_pattern.specs.Reading.{start, run, read, Progress, IsReader}
use Rattle.yang_pattern.proofs.Parsing.{run_step, element_at}
use Rattle.yang_pattern.proofs.read_tokens.read_tokens.Goals as goal

pub loop-number-init : goal.loop-number-init
loop-number-init c = (start, c.new-reader.ensures (reads_token c.args.tokens.now), refl)

pub loop-number-preserved : goal.loop-number-preserved
loop-number-preserved c =
    let (s, is, e) = c.loop-number.invariant in
    let ts = c.args.tokens.now in
    let i = c.loop-number.number in
    let t = c.index-tokens-number.result in
    let item : get_or ts i t ≡ t = sym c.index-tokens-number.is in
    let rest = drop (i + 1) ts in
    let here : drop i ts ≡ t ∷ rest = drop_more ts i t c.loop-number-test.true ∙ ap (λ (x : Token). x ∷ rest) item in
    let whole : run (t ∷ rest) s ≡ run ts start = ap (λ xs. run xs s) (sym here) ∙ e in
    let at : slice_get ts i ≡ Some t = element_at ts i t c.loop-number-test.true ∙ ap Some item in
    let reads : (d : ℕ) → reads_token ts i d ≡ symbol_accepts (Some t) d = λ d. ap (λ (o : Option Token). symbol_accepts o d) at in
    let P : Type 0 = (r : ℕ → ℕ → Bool) (p : Progress) → IsReader r c.loop-number.reader p → read t p ≡ None in
    let Q : Reader → Type 0 = λ reader. (r : ℕ → ℕ → Bool) (p : Progress) → ((d : ℕ) → r i d ≡ symbol_accepts (Some t) d) → IsReader r c.loop-number.reader p → IsSomeAnd (read t p) (λ n. IsReader r reader n) in
    let next = MatchOption-at_some P Q c.in-Some.next c.in-Some.is c.in_ok-next.ensures in
    run_step (reads_token ts) t rest s (run ts start) whole c.in-Some.next (next (reads_token ts) s reads is)
