-- The tokens of pieces are those that are read.
use Rattle.std.proofs.Common.{◌≡◌, ◌+◌, ℕ, Bool, true, false, cond, List, [], ◌∷◌, ◌++◌, length, option_to_list, slice_index_or, refl, sym, ap, ◌∙◌, append_assoc, arith, nat_eq, inl, inr, not, ◌&&◌, ◌||◌}
use Rattle.std.proofs.lemmas.Bool.Decides.{nat_tests}
use Rattle.std.proofs.lemmas.List.{length-append}
use Rattle.host_core.specs.Characters.{backslash, close_brace, double_quote, line_feed, open_brace, semicolon, single_quote, slash, star}
use Rattle.yang_text.specs.Bytes.{is_blank, is_word_byte, is_comment_sign, is_escapable, ends_word}
use Rattle.yang_text.specs.Lexing.{lex, advance, window, next_line, open_fault, quiet, brings, blames, outside, outside_signs, in_line, in_block, in_single, in_double}
use Rattle.yang_text.specs.Lexing as lexing
use Rattle.yang_text.specs.Pieces.{Piece, blank, line_comment, block_comment, word, single, double, end_sign, open_sign, close_sign, spelling, text_of, Lacks, EndsLine, IsComment, ends_run, IsRun, IsQuotable, IsFit, AreFit, token_of, feeds, tokens_of}
use Rattle.yang_text.specs.declared.lexing.Kind.{Kind}
use Rattle.yang_text.specs.declared.lexing.Kind.TheVariants as kinds
use Rattle.yang_text.specs.declared.lexing.Mode.{Mode}
use Rattle.yang_text.specs.declared.lexing.Mode.TheVariants.{Outside, Word, Line, Opens, Block, Skip, Single, Double, Escape}
use Rattle.yang_text.specs.declared.lexing.Step.{Step}
use Rattle.yang_text.specs.declared.lexing.Token.{Token}

-- one byte
byte_step : (mode : Mode) (at line b : ℕ) (bs : List ℕ) (step : Step) → advance mode (window at line (b ∷ bs)) ≡ step
    → lex mode at line (b ∷ bs) ≡ option_to_list step.token ++ lex step.mode (at + 1) (next_line line b) bs
unfolding lex
byte_step mode at line b bs step e = ap (λ (s : Step). option_to_list s.token ++ lex s.mode (at + 1) (next_line line b) bs) e

take_then : {A : Type 0} (b : Bool) (x y : A) → b ≡ true → cond b x y ≡ x
take_then true x y e = refl
take_then false x y e = absurd (cc)

take_else : {A : Type 0} (b : Bool) (x y : A) → b ≡ false → cond b x y ≡ y
take_else false x y e = refl
take_else true x y e = absurd (cc)

-- positions and lines further on
moves : (mode : Mode) (at line : ℕ) (n m : ℕ) (bs : List ℕ) (a l : ℕ) → a ≡ at + n → l ≡ line + m → lex mode a l bs ≡ lex mode (at + n) (line + m) bs
moves mode at line n m bs a l e f = ap (λ x. lex mode x l bs) e ∙ ap (λ y. lex mode (at + n) y bs) f

line_on : (line b : ℕ) → (nat_eq b line_feed ≡ false) → next_line line b ≡ line
line_on line b e = take_else (nat_eq b line_feed) _ _ e

feeds_one : (b : ℕ) (bs : List ℕ) (line : ℕ) → next_line line b + feeds bs ≡ line + feeds (b ∷ bs)
feeds_one b bs line = by_test (nat_eq b line_feed) line (feeds bs)
  where
    by_test : (x : Bool) (l n : ℕ) → cond x (l + 1) l + n ≡ l + (cond x 1 0 + n)
    by_test true l n = omega arith
    by_test false l n = omega arith

-- up to the end of the line
line_run : (c after : List ℕ) (at line : ℕ) → Lacks line_feed c → lex Line at line (c ++ after) ≡ lex Line (at + length c) line after
line_run [] after at line h = ap (λ a. lex Line a line after) (let e : at ≡ at + 0 = omega arith in e)
line_run (b ∷ c) after at line (n, h) =
    byte_step Line at line b (c ++ after) (quiet Line) (take_else (nat_eq b line_feed) _ _ n)
    ∙ ap (λ l. lex Line (at + 1) l (c ++ after)) (line_on line b n)
    ∙ line_run c after (at + 1) line h
    ∙ ap (λ a. lex Line a line after) (let e : at + 1 + length c ≡ at + length (b ∷ c) = omega arith in e)

line_end : (after : List ℕ) (at line : ℕ) → EndsLine after → lex Line at line after ≡ lex Outside at line after
unfolding lex
line_end [] at line h = refl
line_end (b ∷ bs) at line h = ap (λ x. lex Line at line (x ∷ bs)) h ∙ sym (ap (λ x. lex Outside at line (x ∷ bs)) h)

lacks_feeds : (c : List ℕ) → Lacks line_feed c → feeds c ≡ 0
lacks_feeds [] h = refl
lacks_feeds (b ∷ c) (n, h) = grind (arith, nat_tests, n, lacks_feeds c h)

or_false : (a b : Bool) → (a || b) ≡ false → (a ≡ false) × (b ≡ false)
or_false true b e = absurd (cc)
or_false false b e = (refl, e)

not_not : (a : Bool) → not (not a) ≡ false → a ≡ false
not_not true e = absurd (cc)
not_not false e = refl

and_or : (a x y : Bool) → (a && (x || y)) ≡ false → ((a && x) ≡ false) × ((a && y) ≡ false)
and_or true true y e = absurd (cc)
and_or true false y e = (refl, e)
and_or false x y e = (refl, refl)

-- a byte with which an unquoted run goes on
record GoesOn (b next : ℕ) : Type 0 where
  blank : is_blank b ≡ false
  double : nat_eq b double_quote ≡ false
  single : nat_eq b single_quote ≡ false
  end : nat_eq b semicolon ≡ false
  opening : nat_eq b open_brace ≡ false
  closing : nat_eq b close_brace ≡ false
  line : (nat_eq b slash && nat_eq next slash) ≡ false
  block : (nat_eq b slash && nat_eq next star) ≡ false
  stray : (nat_eq b star && nat_eq next slash) ≡ false

goes_on : (b next : ℕ) → ends_word b next ≡ false → GoesOn b next
goes_on b next e =
    let (kind, sign) = or_false (not (is_word_byte b)) (is_comment_sign b next) e in
    let (h5, closing) = or_false _ _ (not_not _ kind) in
    let (h4, opening) = or_false _ _ h5 in
    let (h3, end) = or_false _ _ h4 in
    let (h2, apostrophe) = or_false _ _ h3 in
    let (white, quotes) = or_false _ _ h2 in
    let (slashes, stray) = or_false (nat_eq b slash && (nat_eq next slash || nat_eq next star)) (nat_eq b star && nat_eq next slash) sign in
    let (line, block) = and_or (nat_eq b slash) (nat_eq next slash) (nat_eq next star) slashes in
    record { blank = white; double = quotes; single = apostrophe; end = end; opening = opening; closing = closing; line = line; block = block; stray = stray }

no_feed : (b : ℕ) → is_blank b ≡ false → nat_eq b line_feed ≡ false
no_feed b e = (or_false (nat_eq b 32 || nat_eq b 9 || nat_eq b 13) (nat_eq b line_feed) e).1

word_begins : (at line b : ℕ) (bs : List ℕ) → ends_run (b ∷ bs) ≡ false → advance Outside (window at line (b ∷ bs)) ≡ lexing.word at (window at line (b ∷ bs))
word_begins at line b bs e =
    let g = goes_on b (slice_index_or bs 0 line_feed) e in
    take_else (is_blank b) _ _ g.blank ∙ take_else (nat_eq b semicolon) _ _ g.end ∙ take_else (nat_eq b open_brace) _ _ g.opening ∙ take_else (nat_eq b close_brace) _ _ g.closing
    ∙ take_else (nat_eq b double_quote) _ _ g.double ∙ take_else (nat_eq b single_quote) _ _ g.single
    ∙ take_else (nat_eq b slash && nat_eq (slice_index_or bs 0 line_feed) slash) _ _ g.line ∙ take_else (nat_eq b slash && nat_eq (slice_index_or bs 0 line_feed) star) _ _ g.block
    ∙ take_else (nat_eq b star && nat_eq (slice_index_or bs 0 line_feed) slash) _ _ g.stray

-- a token, and what follows it
abbrev ends : Kind → ℕ → ℕ → ℕ → ℕ → ℕ → List ℕ → List Token
ends k l s e a n after = record { kind = k; line = l; start = s; end = e } ∷ lex Outside a n after

ends_at : (k : Kind) (l s e e' a a' n n' : ℕ) (after : List ℕ) → e ≡ e' → a ≡ a' → n ≡ n' → ends k l s e a n after ≡ ends k l s e' a' n' after
ends_at k l s e e' a a' n n' after p q r = λ i. ends k l s (p i) (q i) (r i) after

-- a byte of a run, and the rest of the run
run_tokens : (w after : List ℕ) (b s at line : ℕ) → IsRun w after
    → option_to_list (lexing.word s (window at line (b ∷ (w ++ after)))).token ++ lex (lexing.word s (window at line (b ∷ (w ++ after)))).mode (at + 1) line (w ++ after)
    ≡ ends kinds.Word line s (at + 1 + length w) (at + 1 + length w) line after
run_tokens [] after b s at line e =
    ap (λ (x : Step). option_to_list x.token ++ lex x.mode (at + 1) line after) (take_then (ends_run after) (brings kinds.Word line s (at + 1)) (quiet (Word s)) e)
    ∙ ends_at kinds.Word line s (at + 1) (at + 1 + 0) (at + 1) (at + 1 + 0) line line after (omega arith) (omega arith) refl
run_tokens (c ∷ w) after b s at line (e, h) =
    ap (λ (x : Step). option_to_list x.token ++ lex x.mode (at + 1) line ((c ∷ w) ++ after)) (take_else (ends_run (c ∷ (w ++ after))) (brings kinds.Word line s (at + 1)) (quiet (Word s)) e)
    ∙ byte_step (Word s) (at + 1) line c (w ++ after) (lexing.word s (window (at + 1) line (c ∷ (w ++ after)))) refl
    ∙ ap (λ l. option_to_list (lexing.word s (window (at + 1) line (c ∷ (w ++ after)))).token ++ lex (lexing.word s (window (at + 1) line (c ∷ (w ++ after)))).mode (at + 1 + 1) l (w ++ after))
    (line_on line c (no_feed c (goes_on c (slice_index_or (w ++ after) 0 line_feed) e).blank))
    ∙ run_tokens w after c s (at + 1) line h
    ∙ ends_at kinds.Word line s (at + 1 + 1 + length w) (at + 1 + length (c ∷ w)) (at + 1 + 1 + length w) (at + 1 + length (c ∷ w)) line line after (omega arith) (omega arith) refl

word_feeds : (w after : List ℕ) → IsRun w after → feeds w ≡ 0
word_feeds [] after h = refl
word_feeds (b ∷ w) after (e, h) = grind (arith, nat_tests, no_feed b (goes_on b (slice_index_or (w ++ after) 0 line_feed) e).blank, word_feeds w after h)

first_of : (c x : List ℕ) (d : ℕ) → slice_index_or (c ++ d ∷ x) 0 line_feed ≡ slice_index_or c 0 d
first_of [] x d = refl
first_of (b ∷ c) x d = refl

-- a comment up to its end
block_run : (c after : List ℕ) (l at line : ℕ) → IsComment c → lex (Block l) at line (c ++ star ∷ slash ∷ after) ≡ lex Outside (at + length c + 2) (line + feeds c) after
block_run [] after l at line h =
    byte_step (Block l) at line star (slash ∷ after) (quiet Skip) refl
    ∙ byte_step Skip (at + 1) line slash after (quiet Outside) refl
    ∙ (λ i. lex Outside ((let e : at + 1 + 1 ≡ at + 0 + 2 = omega arith in e) i) ((let e : line ≡ line + 0 = omega arith in e) i) after)
block_run (b ∷ c) after l at line (e, h) =
    byte_step (Block l) at line b (c ++ star ∷ slash ∷ after) (quiet (Block l)) (take_else _ _ _ (ap (λ n. nat_eq b star && nat_eq n slash) (first_of c (slash ∷ after) star) ∙ e))
    ∙ block_run c after l (at + 1) (next_line line b) h
    ∙ (λ i. lex Outside ((let e : at + 1 + length c + 2 ≡ at + length (b ∷ c) + 2 = omega arith in e) i) (feeds_one b c line i) after)

-- single quotes up to their end
single_run : (c after : List ℕ) (l s at line : ℕ) → Lacks single_quote c → lex (Single l s) at line (c ++ single_quote ∷ after) ≡ ends kinds.Single l s (at + length c) (at + length c + 1) (line + feeds c) after
single_run [] after l s at line h =
    byte_step (Single l s) at line single_quote after (brings kinds.Single l s at) refl
    ∙ ends_at kinds.Single l s at (at + 0) (at + 1) (at + 0 + 1) line (line + 0) after (omega arith) (omega arith) (omega arith)
single_run (b ∷ c) after l s at line (e, h) =
    byte_step (Single l s) at line b (c ++ single_quote ∷ after) (quiet (Single l s)) (take_else _ _ _ e)
    ∙ single_run c after l s (at + 1) (next_line line b) h
    ∙ ends_at kinds.Single l s (at + 1 + length c) (at + length (b ∷ c)) (at + 1 + length c + 1) (at + length (b ∷ c) + 1) (next_line line b + feeds c) (line + feeds (b ∷ c)) after (omega arith) (omega arith) (feeds_one b c line)

abbrev double_mode : Bool → ℕ → ℕ → Mode
double_mode false l s = Double l s
double_mode true l s = Escape l s

-- double quotes up to their end
double_run : (c : List ℕ) (behind : Bool) (after : List ℕ) (l s at line : ℕ) → IsQuotable behind c → lex (double_mode behind l s) at line (c ++ double_quote ∷ after) ≡ ends kinds.Double l s (at + length c) (at + length c + 1) (line + feeds c) after
double_run [] false after l s at line h =
    byte_step (Double l s) at line double_quote after (brings kinds.Double l s at) refl
    ∙ ends_at kinds.Double l s at (at + 0) (at + 1) (at + 0 + 1) line (line + 0) after (omega arith) (omega arith) (omega arith)
double_run [] true after l s at line h = absurd h
double_run (b ∷ c) true after l s at line (e, h) =
    byte_step (Escape l s) at line b (c ++ double_quote ∷ after) (quiet (Double l s)) refl
    ∙ double_run c false after l s (at + 1) (next_line line b) h
    ∙ ends_at kinds.Double l s (at + 1 + length c) (at + length (b ∷ c)) (at + 1 + length c + 1) (at + length (b ∷ c) + 1) (next_line line b + feeds c) (line + feeds (b ∷ c)) after (omega arith) (omega arith) (feeds_one b c line)
double_run (b ∷ c) false after l s at line (inr (e, q, h)) =
    byte_step (Double l s) at line b (c ++ double_quote ∷ after) (quiet (Double l s)) (take_else _ _ _ q ∙ take_then (not (nat_eq b backslash)) _ _ (ap not e))
    ∙ double_run c false after l s (at + 1) (next_line line b) h
    ∙ ends_at kinds.Double l s (at + 1 + length c) (at + length (b ∷ c)) (at + 1 + length c + 1) (at + length (b ∷ c) + 1) (next_line line b + feeds c) (line + feeds (b ∷ c)) after (omega arith) (omega arith) (feeds_one b c line)
double_run (b ∷ []) false after l s at line (inl (e, h)) = absurd h
double_run (b ∷ c ∷ cs) false after l s at line (inl (e, h)) =
    byte_step (Double l s) at line b ((c ∷ cs) ++ double_quote ∷ after) (quiet (Escape l s)) (escapes b c (cs ++ double_quote ∷ after) l s at line e h.0)
    ∙ double_run (c ∷ cs) true after l s (at + 1) (next_line line b) h
    ∙ ends_at kinds.Double l s (at + 1 + length (c ∷ cs)) (at + length (b ∷ c ∷ cs)) (at + 1 + length (c ∷ cs) + 1) (at + length (b ∷ c ∷ cs) + 1) (next_line line b + feeds (c ∷ cs)) (line + feeds (b ∷ c ∷ cs)) after (omega arith) (omega arith) (feeds_one b (c ∷ cs) line)
  where
    escapes : (b c : ℕ) (rest : List ℕ) (l s at line : ℕ) → b ≡ backslash → is_escapable c ≡ true → advance (Double l s) (window at line (b ∷ c ∷ rest)) ≡ quiet (Escape l s)
    escapes b c rest l s at line e h =
        ap (λ x. in_double l s (record { at = at; line = line; byte = x; next = c; later = slice_index_or rest 0 line_feed })) e ∙ take_then (is_escapable c) _ _ h

feeds_append : (xs ys : List ℕ) → feeds (xs ++ ys) ≡ feeds xs + feeds ys
feeds_append [] ys = omega arith
feeds_append (x ∷ xs) ys = omega (arith, feeds_append xs ys)

-- a blank
blank_step : (at line b : ℕ) (bs : List ℕ) → is_blank b ≡ true → lex Outside at line (b ∷ bs) ≡ lex Outside (at + 1) (next_line line b) bs
blank_step at line b bs e = byte_step Outside at line b bs (quiet Outside) (take_then (is_blank b) _ _ e)

one_feed : (b line : ℕ) → next_line line b ≡ line + feeds (b ∷ [])
one_feed b line = let e : next_line line b ≡ next_line line b + 0 = omega arith in e ∙ feeds_one b [] line

-- a piece where nothing is open
piece_tokens : (p : Piece) (after : List ℕ) (at line : ℕ) → IsFit p after
    → lex Outside at line (spelling p ++ after) ≡ option_to_list (token_of p at line) ++ lex Outside (at + length (spelling p)) (line + feeds (spelling p)) after
piece_tokens (blank b) after at line e =
    blank_step at line b after e ∙ ap (λ l. lex Outside (at + 1) l after) (one_feed b line)
piece_tokens (line_comment c) after at line (lacks, end) =
    byte_step Outside at line slash (slash ∷ (c ++ after)) (quiet Line) refl
    ∙ byte_step Line (at + 1) line slash (c ++ after) (quiet Line) refl
    ∙ line_run c after (at + 1 + 1) line lacks
    ∙ line_end after (at + 1 + 1 + length c) line end
    ∙ (λ i. lex Outside ((let e : at + 1 + 1 + length c ≡ at + length (slash ∷ slash ∷ c) = omega arith in e) i) ((let e : line ≡ line + feeds (slash ∷ slash ∷ c) = omega (arith, lacks_feeds c lacks) in e) i) after)
piece_tokens (block_comment c) after at line h =
    byte_step Outside at line slash (star ∷ ((c ++ star ∷ slash ∷ []) ++ after)) (quiet (Opens line)) refl
    ∙ byte_step (Opens line) (at + 1) line star ((c ++ star ∷ slash ∷ []) ++ after) (quiet (Block line)) refl
    ∙ ap (λ xs. lex (Block line) (at + 1 + 1) line xs) (append_assoc c (star ∷ slash ∷ []) after)
    ∙ block_run c after line (at + 1 + 1) line h
    ∙ (λ i. lex Outside ((let e : at + 1 + 1 + length c + 2 ≡ at + length (slash ∷ star ∷ (c ++ star ∷ slash ∷ [])) = omega (arith, length-append c (star ∷ slash ∷ [])) in e) i)
    ((let e : line + feeds c ≡ line + feeds (slash ∷ star ∷ (c ++ star ∷ slash ∷ [])) = omega (arith, feeds_append c (star ∷ slash ∷ [])) in e) i) after)
piece_tokens (word []) after at line (n, h) = absurd (n refl)
piece_tokens (word (b ∷ w)) after at line (n, (e, h)) =
    byte_step Outside at line b (w ++ after) (lexing.word at (window at line (b ∷ (w ++ after)))) (word_begins at line b (w ++ after) e)
    ∙ ap (λ l. option_to_list (lexing.word at (window at line (b ∷ (w ++ after)))).token ++ lex (lexing.word at (window at line (b ∷ (w ++ after)))).mode (at + 1) l (w ++ after))
    (line_on line b (no_feed b (goes_on b (slice_index_or (w ++ after) 0 line_feed) e).blank))
    ∙ run_tokens w after b at at line h
    ∙ ends_at kinds.Word line at (at + 1 + length w) (at + length (b ∷ w)) (at + 1 + length w) (at + length (b ∷ w)) line (line + feeds (b ∷ w)) after (omega arith) (omega arith) (omega (arith, word_feeds (b ∷ w) after (e, h)))
piece_tokens (single c) after at line h =
    byte_step Outside at line single_quote ((c ++ single_quote ∷ []) ++ after) (quiet (Single line (at + 1))) refl
    ∙ ap (λ xs. lex (Single line (at + 1)) (at + 1) line xs) (append_assoc c (single_quote ∷ []) after)
    ∙ single_run c after line (at + 1) (at + 1) line h
    ∙ ends_at kinds.Single line (at + 1) (at + 1 + length c) (at + 1 + length c) (at + 1 + length c + 1) (at + length (single_quote ∷ (c ++ single_quote ∷ []))) (line + feeds c) (line + feeds (single_quote ∷ (c ++ single_quote ∷ []))) after
    refl (omega (arith, length-append c (single_quote ∷ []))) (omega (arith, feeds_append c (single_quote ∷ [])))
piece_tokens (double c) after at line h =
    byte_step Outside at line double_quote ((c ++ double_quote ∷ []) ++ after) (quiet (Double line (at + 1))) refl
    ∙ ap (λ xs. lex (Double line (at + 1)) (at + 1) line xs) (append_assoc c (double_quote ∷ []) after)
    ∙ double_run c false after line (at + 1) (at + 1) line h
    ∙ ends_at kinds.Double line (at + 1) (at + 1 + length c) (at + 1 + length c) (at + 1 + length c + 1) (at + length (double_quote ∷ (c ++ double_quote ∷ []))) (line + feeds c) (line + feeds (double_quote ∷ (c ++ double_quote ∷ []))) after
    refl (omega (arith, length-append c (double_quote ∷ []))) (omega (arith, feeds_append c (double_quote ∷ [])))
piece_tokens end_sign after at line h =
    byte_step Outside at line semicolon after (brings kinds.Semicolon line at (at + 1)) refl ∙ ap (λ l. ends kinds.Semicolon line at (at + 1) (at + 1) l after) (let e : line ≡ line + 0 = omega arith in e)
piece_tokens open_sign after at line h =
    byte_step Outside at line open_brace after (brings kinds.Open line at (at + 1)) refl ∙ ap (λ l. ends kinds.Open line at (at + 1) (at + 1) l after) (let e : line ≡ line + 0 = omega arith in e)
piece_tokens close_sign after at line h =
    byte_step Outside at line close_brace after (brings kinds.Close line at (at + 1)) refl ∙ ap (λ l. ends kinds.Close line at (at + 1) (at + 1) l after) (let e : line ≡ line + 0 = omega arith in e)

-- the tokens of pieces are those that are read
pub pieces_tokens : (ps : List Piece) (at line : ℕ) → AreFit ps → lex Outside at line (text_of ps) ≡ tokens_of at line ps
unfolding lex
pieces_tokens [] at line h = refl
pieces_tokens (p ∷ ps) at line (fit, h) =
    piece_tokens p (text_of ps) at line fit
    ∙ ap (λ ts. option_to_list (token_of p at line) ++ ts) (pieces_tokens ps (at + length (spelling p)) (line + feeds (spelling p)) h)
