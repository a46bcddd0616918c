-- A text whose tokens have no fault is made of pieces.
use Rattle.std.proofs.Common.{◌≡◌, ◌+◌, ℕ, Bool, true, false, cond, List, [], ◌∷◌, ◌++◌, Option, Some, None, option_to_list, slice_index_or, refl, sym, ap, ◌∙◌, append_assoc, arith, nat_eq, inl, inr, not, ◌&&◌, ◌||◌}
use Rattle.std.specs.List.{AllByRecursion}
use Rattle.std.proofs.lemmas.Bool.Decides.{nat_tests}
use Rattle.host_core.specs.Characters.{backslash, close_brace, double_quote, line_feed, open_brace, semicolon, single_quote, slash, star}
use Rattle.yang_text.specs.Bytes.{is_blank, is_escapable}
use Rattle.yang_text.specs.Lexing.{lex, tokens, advance, window, next_line, open_fault, quiet, brings, blames, outside, outside_signs, in_line, in_block, in_single, in_double}
use Rattle.yang_text.specs.Lexing as lexing
use Rattle.yang_text.specs.Pieces.{Piece, blank, line_comment, block_comment, word, single, double, end_sign, open_sign, close_sign, spelling, text_of, Lacks, EndsLine, IsComment, ends_run, IsRun, IsQuotable, IsFit, AreFit, IsMadeOf}
use Rattle.yang_text.specs.declared.lexing.Kind.TheVariants as kinds
use Rattle.yang_text.specs.declared.lexing.Mode.{Mode}
use Rattle.yang_text.specs.declared.lexing.Mode.TheVariants.{Outside, Word, Line, Opens, Block, Skip, Single, Double, Escape}
use Rattle.yang_text.specs.declared.lexing.Step.{Step}
use Rattle.yang_text.specs.declared.lexing.Token.{Token}

abbrev pub IsSound : Token → Type 0
IsSound t = t.kind ≡ kinds.Bad → ⊥

Made : List ℕ → Type 0
Made bs = (ps : List Piece) × AreFit ps × (bs ≡ text_of ps)

-- what the bytes are behind what a mode has left open
Has : Mode → List ℕ → Type 0
Has Outside bs = (ps : List Piece) × AreFit ps × (bs ≡ text_of ps)
Has (Word s) bs = ends_run bs ≡ false → (w : List ℕ) × (ps : List Piece) × (bs ≡ w ++ text_of ps) × IsRun w (text_of ps) × AreFit ps
Has Line bs = (c : List ℕ) × (ps : List Piece) × (bs ≡ c ++ text_of ps) × Lacks line_feed c × EndsLine (text_of ps) × AreFit ps
Has (Opens l) bs = slice_index_or bs 0 line_feed ≡ star → (c : List ℕ) × (ps : List Piece) × (bs ≡ star ∷ (c ++ star ∷ slash ∷ text_of ps)) × IsComment c × AreFit ps
Has (Block l) bs = (c : List ℕ) × (ps : List Piece) × (bs ≡ c ++ star ∷ slash ∷ text_of ps) × IsComment c × AreFit ps
Has Skip bs = slice_index_or bs 0 line_feed ≡ slash → (ps : List Piece) × (bs ≡ slash ∷ text_of ps) × AreFit ps
Has (Single l s) bs = (c : List ℕ) × (ps : List Piece) × (bs ≡ c ++ single_quote ∷ text_of ps) × Lacks single_quote c × AreFit ps
Has (Double l s) bs = (c : List ℕ) × (ps : List Piece) × (bs ≡ c ++ double_quote ∷ text_of ps) × IsQuotable false c × AreFit ps
Has (Escape l s) bs = is_escapable (slice_index_or bs 0 line_feed) ≡ true → (c : List ℕ) × (ps : List Piece) × (bs ≡ c ++ double_quote ∷ text_of ps) × IsQuotable true c × AreFit ps

-- a step that has no fault leads back
Leads : Mode → ℕ → List ℕ → Step → Type 0
Leads mode b bs step = AllByRecursion IsSound (option_to_list step.token) → Has step.mode bs → Has mode (b ∷ bs)

split : (Q : Step → Type 0) (b : Bool) (x y : Step) → (b ≡ true → Q x) → (b ≡ false → Q y) → Q (cond b x y)
split Q true x y f g = f refl
split Q false x y f g = g refl

eq_is : (b c : ℕ) → nat_eq b c ≡ true → b ≡ c
eq_is b c e = grind (arith, nat_tests, e)

both_true : (a b : Bool) → (a && b) ≡ true → (a ≡ true) × (b ≡ true)
both_true true b e = (refl, e)
both_true false b e = absurd (cc)

not_true : (a : Bool) → not a ≡ true → a ≡ false
not_true true e = absurd (cc)
not_true false e = refl

not_false : (a : Bool) → not a ≡ false → a ≡ true
not_false true e = refl
not_false false e = absurd (cc)

-- the tests that a byte passes which an unquoted run may hold
combine : (a d s e o c sl n m st : Bool) → a ≡ false → d ≡ false → s ≡ false → e ≡ false → o ≡ false → c ≡ false → (sl && n) ≡ false → (sl && m) ≡ false → (st && n) ≡ false
    → (not (not (a || d || s || e || o || c)) || ((sl && (n || m)) || (st && n))) ≡ false
combine false false false false false false true true m st ha hd hs he ho hc p q r = absurd (cc)
combine false false false false false false true false true st ha hd hs he ho hc p q r = absurd (cc)
combine false false false false false false true false false st ha hd hs he ho hc p q r = r
combine false false false false false false false n m st ha hd hs he ho hc p q r = r
combine true d s e o c sl n m st ha hd hs he ho hc p q r = absurd (cc)
combine false true s e o c sl n m st ha hd hs he ho hc p q r = absurd (cc)
combine false false true e o c sl n m st ha hd hs he ho hc p q r = absurd (cc)
combine false false false true o c sl n m st ha hd hs he ho hc p q r = absurd (cc)
combine false false false false true c sl n m st ha hd hs he ho hc p q r = absurd (cc)
combine false false false false false true sl n m st ha hd hs he ho hc p q r = absurd (cc)

abbrev cons_is : (b c : ℕ) (bs cs : List ℕ) → b ≡ c → bs ≡ cs → b ∷ bs ≡ c ∷ cs
cons_is b c bs cs e f = λ i. e i ∷ f i

-- a run of one byte, and a longer one
run_of_one : (b : ℕ) (bs : List ℕ) → ends_run (b ∷ bs) ≡ false → ends_run bs ≡ true → (ps : List Piece) × AreFit ps × (bs ≡ text_of ps)
    → (w : List ℕ) × (ps : List Piece) × (b ∷ bs ≡ w ++ text_of ps) × IsRun w (text_of ps) × AreFit ps
run_of_one b bs here end (ps, fit, e) = (b ∷ [], ps, ap (λ xs. b ∷ xs) e, (ap (λ xs. ends_run (b ∷ xs)) (sym e) ∙ here, ap (λ xs. ends_run xs) (sym e) ∙ end), fit)

run_of_more : (b : ℕ) (bs : List ℕ) → ends_run (b ∷ bs) ≡ false → (w : List ℕ) × (ps : List Piece) × (bs ≡ w ++ text_of ps) × IsRun w (text_of ps) × AreFit ps
    → (w : List ℕ) × (ps : List Piece) × (b ∷ bs ≡ w ++ text_of ps) × IsRun w (text_of ps) × AreFit ps
run_of_more b bs here (w, ps, e, run, fit) = (b ∷ w, ps, ap (λ xs. b ∷ xs) e, (ap (λ xs. ends_run (b ∷ xs)) (sym e) ∙ here, run), fit)

word_leads : (at line b s : ℕ) (bs : List ℕ) → Leads (Word s) b bs (lexing.word s (window at line (b ∷ bs)))
unfolding Leads Has
word_leads at line b s bs =
    split (Leads (Word s) b bs) (ends_run bs) _ _
    (λ end. λ _ made here. run_of_one b bs here end made)
    (λ on. λ _ more here. run_of_more b bs here (more on))

run_piece : (b : ℕ) (bs : List ℕ) → (w : List ℕ) × (ps : List Piece) × (b ∷ bs ≡ w ++ text_of ps) × IsRun w (text_of ps) × AreFit ps → ends_run (b ∷ bs) ≡ false → (ps : List Piece) × AreFit ps × (b ∷ bs ≡ text_of ps)
run_piece b bs ([], ps, e, run, fit) here = (ps, fit, e)
run_piece b bs (x ∷ w, ps, e, run, fit) here = (word (x ∷ w) ∷ ps, (((λ h. cc), run), fit), e)

begins_run : (at line b : ℕ) (bs : List ℕ) → ends_run (b ∷ bs) ≡ false → Leads Outside b bs (lexing.word at (window at line (b ∷ bs)))
unfolding Leads Has
begins_run at line b bs here = λ sound next. run_piece b bs (word_leads at line b at bs sound next here) here

line_piece : (b : ℕ) (bs : List ℕ) → b ≡ slash → slice_index_or bs 0 line_feed ≡ slash → (c : List ℕ) × (ps : List Piece) × (bs ≡ c ++ text_of ps) × Lacks line_feed c × EndsLine (text_of ps) × AreFit ps
    → (ps : List Piece) × AreFit ps × (b ∷ bs ≡ text_of ps)
line_piece b bs hb hn ([], ps, e, lacks, end, fit) = absurd (no_line (text_of ps) end (ap (λ xs. slice_index_or xs 0 line_feed) (sym e) ∙ hn))
  where
    no_line : (xs : List ℕ) → EndsLine xs → slice_index_or xs 0 line_feed ≡ slash → ⊥
    no_line [] h k = omega (arith, k)
    no_line (x ∷ xs) h k = omega (arith, h, k)
line_piece b bs hb hn (x ∷ c, ps, e, lacks, end, fit) =
    let hx : x ≡ slash = ap (λ xs. slice_index_or xs 0 line_feed) (sym e) ∙ hn in
    (line_comment c ∷ ps, ((lacks.1, end), fit), cons_is b slash bs (slash ∷ (c ++ text_of ps)) hb (e ∙ ap (λ y. y ∷ (c ++ text_of ps)) hx))

block_piece : (b : ℕ) (bs : List ℕ) → b ≡ slash → (c : List ℕ) × (ps : List Piece) × (bs ≡ star ∷ (c ++ star ∷ slash ∷ text_of ps)) × IsComment c × AreFit ps → (ps : List Piece) × AreFit ps × (b ∷ bs ≡ text_of ps)
block_piece b bs hb (c, ps, e, comment, fit) =
    (block_comment c ∷ ps, (comment, fit), cons_is b slash bs (star ∷ ((c ++ star ∷ slash ∷ []) ++ text_of ps)) hb (e ∙ ap (λ xs. star ∷ xs) (sym (append_assoc c (star ∷ slash ∷ []) (text_of ps)))))

signs_lead : (at line b : ℕ) (bs : List ℕ) → is_blank b ≡ false → nat_eq b double_quote ≡ false → nat_eq b single_quote ≡ false → nat_eq b semicolon ≡ false → nat_eq b open_brace ≡ false → nat_eq b close_brace ≡ false
    → Leads Outside b bs (outside_signs (window at line (b ∷ bs)))
unfolding Leads Has
signs_lead at line b bs h1 h2 h3 h4 h5 h6 =
    let n : ℕ = slice_index_or bs 0 line_feed in
    split (Leads Outside b bs) (nat_eq b slash && nat_eq n slash) _ _
    (λ e. let (eb, en) = both_true _ _ e in λ _ next. line_piece b bs (eq_is b 47 eb) (eq_is n 47 en) next)
    (λ k1. split (Leads Outside b bs) (nat_eq b slash && nat_eq n star) _ _
    (λ e. let (eb, en) = both_true _ _ e in λ _ next. block_piece b bs (eq_is b 47 eb) (next (eq_is n 42 en)))
    (λ k2. split (Leads Outside b bs) (nat_eq b star && nat_eq n slash) _ _
    (λ e. λ sound _. absurd (sound.0 refl))
    (λ k3. begins_run at line b bs (combine (is_blank b) (nat_eq b double_quote) (nat_eq b single_quote) (nat_eq b semicolon) (nat_eq b open_brace) (nat_eq b close_brace) (nat_eq b slash) (nat_eq n slash) (nat_eq n star) (nat_eq b star) h1 h2 h3 h4 h5 h6 k1 k2 k3))))

sign_piece : (p : Piece) (c b : ℕ) (bs : List ℕ) → spelling p ≡ c ∷ [] → ((after : List ℕ) → IsFit p after) → b ≡ c → (ps : List Piece) × AreFit ps × (bs ≡ text_of ps) → (ps : List Piece) × AreFit ps × (b ∷ bs ≡ text_of ps)
sign_piece p c b bs is fits e (ps, fit, made) = (p ∷ ps, (fits (text_of ps), fit), cons_is b c bs (text_of ps) e made ∙ ap (λ xs. xs ++ text_of ps) (sym is))

blank_piece : (b : ℕ) (bs : List ℕ) → is_blank b ≡ true → (ps : List Piece) × AreFit ps × (bs ≡ text_of ps) → (ps : List Piece) × AreFit ps × (b ∷ bs ≡ text_of ps)
blank_piece b bs h made = sign_piece (blank b) b b bs refl (λ _. h) refl made

single_piece : (b : ℕ) (bs : List ℕ) → b ≡ single_quote → (c : List ℕ) × (ps : List Piece) × (bs ≡ c ++ single_quote ∷ text_of ps) × Lacks single_quote c × AreFit ps → (ps : List Piece) × AreFit ps × (b ∷ bs ≡ text_of ps)
single_piece b bs hb (c, ps, e, lacks, fit) =
    (single c ∷ ps, (lacks, fit), cons_is b single_quote bs ((c ++ single_quote ∷ []) ++ text_of ps) hb (e ∙ sym (append_assoc c (single_quote ∷ []) (text_of ps))))

double_piece : (b : ℕ) (bs : List ℕ) → b ≡ double_quote → (c : List ℕ) × (ps : List Piece) × (bs ≡ c ++ double_quote ∷ text_of ps) × IsQuotable false c × AreFit ps → (ps : List Piece) × AreFit ps × (b ∷ bs ≡ text_of ps)
double_piece b bs hb (c, ps, e, quotable, fit) =
    (double c ∷ ps, (quotable, fit), cons_is b double_quote bs ((c ++ double_quote ∷ []) ++ text_of ps) hb (e ∙ sym (append_assoc c (double_quote ∷ []) (text_of ps))))

outside_leads : (at line b : ℕ) (bs : List ℕ) → Leads Outside b bs (outside (window at line (b ∷ bs)))
unfolding Leads Has
outside_leads at line b bs =
    let Q : Step → Type 0 = Leads Outside b bs in
    split Q (is_blank b) _ _ (λ e. λ _ made. blank_piece b bs e made)
    (λ h1. split Q (nat_eq b semicolon) _ _ (λ e. λ _ made. sign_piece end_sign semicolon b bs refl (λ _. tt) (eq_is b 59 e) made)
    (λ h4. split Q (nat_eq b open_brace) _ _ (λ e. λ _ made. sign_piece open_sign open_brace b bs refl (λ _. tt) (eq_is b 123 e) made)
    (λ h5. split Q (nat_eq b close_brace) _ _ (λ e. λ _ made. sign_piece close_sign close_brace b bs refl (λ _. tt) (eq_is b 125 e) made)
    (λ h6. split Q (nat_eq b double_quote) _ _ (λ e. λ _ next. double_piece b bs (eq_is b 34 e) next)
    (λ h2. split Q (nat_eq b single_quote) _ _ (λ e. λ _ next. single_piece b bs (eq_is b 39 e) next)
    (λ h3. signs_lead at line b bs h1 h2 h3 h4 h5 h6))))))

line_leads : (at line b : ℕ) (bs : List ℕ) → Leads Line b bs (in_line (window at line (b ∷ bs)))
unfolding Leads Has
line_leads at line b bs =
    split (Leads Line b bs) (nat_eq b line_feed) _ _
    (λ e. λ _ (ps, fit, made). let is : b ≡ 10 = eq_is b 10 e in ([], blank b ∷ ps, ap (λ xs. b ∷ xs) made, tt, is, (ap is_blank is, fit)))
    (λ e. λ _ (c, ps, made, lacks, end, fit). (b ∷ c, ps, ap (λ xs. b ∷ xs) made, (e, lacks), end, fit))

first_of : (c x : List ℕ) (d : ℕ) → slice_index_or (c ++ d ∷ x) 0 line_feed ≡ slice_index_or c 0 d
first_of [] x d = refl
first_of (b ∷ c) x d = refl

block_leads : (at line b l : ℕ) (bs : List ℕ) → Leads (Block l) b bs (in_block l (window at line (b ∷ bs)))
unfolding Leads Has
block_leads at line b l bs =
    split (Leads (Block l) b bs) (nat_eq b star && nat_eq (slice_index_or bs 0 line_feed) slash) _ _
    (λ e. let (eb, en) = both_true _ _ e in λ _ next. closed (eq_is b 42 eb) (next (eq_is (slice_index_or bs 0 line_feed) 47 en)))
    (λ e. λ _ (c, ps, made, comment, fit).
    (b ∷ c, ps, ap (λ xs. b ∷ xs) made, (ap (λ n. nat_eq b star && nat_eq n slash) (sym (first_of c (slash ∷ text_of ps) star) ∙ ap (λ xs. slice_index_or xs 0 line_feed) (sym made)) ∙ e, comment), fit))
  where
    closed : b ≡ star → (ps : List Piece) × (bs ≡ slash ∷ text_of ps) × AreFit ps → (c : List ℕ) × (ps : List Piece) × (b ∷ bs ≡ c ++ star ∷ slash ∷ text_of ps) × IsComment c × AreFit ps
    closed hb (ps, made, fit) = ([], ps, cons_is b star bs (slash ∷ text_of ps) hb made, tt, fit)

single_leads : (at line b l s : ℕ) (bs : List ℕ) → Leads (Single l s) b bs (in_single l s (window at line (b ∷ bs)))
unfolding Leads Has
single_leads at line b l s bs =
    split (Leads (Single l s) b bs) (nat_eq b single_quote) _ _
    (λ e. λ _ (ps, fit, made). ([], ps, cons_is b single_quote bs (text_of ps) (eq_is b 39 e) made, tt, fit))
    (λ e. λ _ (c, ps, made, lacks, fit). (b ∷ c, ps, ap (λ xs. b ∷ xs) made, (e, lacks), fit))

double_leads : (at line b l s : ℕ) (bs : List ℕ) → Leads (Double l s) b bs (in_double l s (window at line (b ∷ bs)))
unfolding Leads Has
double_leads at line b l s bs =
    split (Leads (Double l s) b bs) (nat_eq b double_quote) _ _
    (λ e. λ _ (ps, fit, made). ([], ps, cons_is b double_quote bs (text_of ps) (eq_is b 34 e) made, tt, fit))
    (λ q. split (Leads (Double l s) b bs) (not (nat_eq b backslash)) _ _
    (λ e. λ _ (c, ps, made, quotable, fit). (b ∷ c, ps, ap (λ xs. b ∷ xs) made, inr (not_true _ e, q, quotable), fit))
    (λ e. split (Leads (Double l s) b bs) (is_escapable (slice_index_or bs 0 line_feed)) _ _
    (λ x. λ _ next. escaped (eq_is b 92 (not_false _ e)) (next x))
    (λ x. λ sound _. absurd (sound.0 refl))))
  where
    escaped : b ≡ backslash → (c : List ℕ) × (ps : List Piece) × (bs ≡ c ++ double_quote ∷ text_of ps) × IsQuotable true c × AreFit ps → (c : List ℕ) × (ps : List Piece) × (b ∷ bs ≡ c ++ double_quote ∷ text_of ps) × IsQuotable false c × AreFit ps
    escaped hb (c, ps, made, quotable, fit) = (b ∷ c, ps, ap (λ xs. b ∷ xs) made, inl (hb, quotable), fit)

step_leads : (mode : Mode) (at line b : ℕ) (bs : List ℕ) → Leads mode b bs (advance mode (window at line (b ∷ bs)))
unfolding Leads Has
step_leads Outside at line b bs = outside_leads at line b bs
step_leads (Word s) at line b bs = word_leads at line b s bs
step_leads Line at line b bs = line_leads at line b bs
step_leads (Opens l) at line b bs = λ _ (c, ps, made, comment, fit) is. (c, ps, cons_is b star bs (c ++ star ∷ slash ∷ text_of ps) is made, comment, fit)
step_leads (Block l) at line b bs = block_leads at line b l bs
step_leads Skip at line b bs = λ _ (ps, fit, made) is. (ps, cons_is b slash bs (text_of ps) is made, fit)
step_leads (Single l s) at line b bs = single_leads at line b l s bs
step_leads (Double l s) at line b bs = double_leads at line b l s bs
step_leads (Escape l s) at line b bs = λ _ (c, ps, made, quotable, fit) is. (b ∷ c, ps, ap (λ xs. b ∷ xs) made, (is, quotable), fit)

at_end : (mode : Mode) (at : ℕ) → AllByRecursion IsSound (option_to_list (open_fault mode at)) → Has mode []
unfolding Has
at_end Outside at h = ([], tt, refl)
at_end (Word s) at h = λ e. absurd (cc)
at_end Line at h = ([], [], refl, tt, tt, tt)
at_end (Opens l) at h = absurd (h.0 refl)
at_end (Block l) at h = absurd (h.0 refl)
at_end Skip at h = λ e. absurd (omega (arith, e))
at_end (Single l s) at h = absurd (h.0 refl)
at_end (Double l s) at h = absurd (h.0 refl)
at_end (Escape l s) at h = absurd (h.0 refl)

parts_of : (o : Option Token) (ts : List Token) → AllByRecursion IsSound (option_to_list o ++ ts) → AllByRecursion IsSound (option_to_list o) × AllByRecursion IsSound ts
parts_of None ts h = (tt, h)
parts_of (Some t) ts h = ((h.0, tt), h.1)

split_at : (bs : List ℕ) (mode : Mode) (at line : ℕ) → AllByRecursion IsSound (lex mode at line bs) → Has mode bs
unfolding lex Leads
split_at [] mode at line h = at_end mode at h
split_at (b ∷ bs) mode at line h =
    let (here, others) = parts_of (advance mode (window at line (b ∷ bs))).token _ h in
    step_leads mode at line b bs here (split_at bs (advance mode (window at line (b ∷ bs))).mode (at + 1) (next_line line b) others)

pub made_of : (text : List ℕ) → AllByRecursion IsSound (tokens text) → (ps : List Piece) × IsMadeOf text ps
unfolding Has
made_of text h =
    let (ps, fit, made) = split_at text Outside 0 1 h in
    (ps, record { bytes = made; fit = fit })
