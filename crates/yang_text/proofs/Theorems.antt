-- What a text is read as is what it spells, or its least fault.
use Rattle.std.proofs.Common.{◌≡◌, ◌≢◌, ℕ, Bool, true, false, cond, List, [], ◌∷◌, ◌++◌, Option, Some, None, Result, Ok, Err, option_to_list, refl, sym, subst, ap, ◌∙◌, IsUtf8, IfOk, IfErr, IfSome, OnOk, length, inl, inr, ◌≤◌, arith}
use Rattle.std.specs.Prelude.{fold}
use Rattle.std.specs.Str.{is_utf8}
use Rattle.std.specs.Str.Lossy.{utf8_valid_len}
use Rattle.std.proofs.lemmas.List.{append-nil}
use Rattle.std.proofs.lemmas.Str.{IsUtf8-from_is_utf8}
use Rattle.host_core.specs.Answers.{Gives, FailsAs}
use Rattle.yang_text.specs.Building.{nothing, build, built, finish}
use Rattle.yang_text.specs.Declarations.{Declaration, declare, declarations, block_of, total_weight}
use Rattle.yang_text.specs.Errors.{text_fault}
use Rattle.yang_text.specs.Faults.{lower_of, faults_from, IsLeast}
use Rattle.yang_text.specs.Grammar.{AreStatements, IsStatement, Spells}
use Rattle.yang_text.specs.Lexing.{tokens}
use Rattle.yang_text.specs.Pieces.{Piece, IsMadeOf, tokens_of}
use Rattle.yang_text.specs.Reading.{line_at, utf8_fault, least_before_end, reading_by, reading, end_fault, or_at_end, faults}
use Rattle.yang_text.specs.declared.errors.ModelWhy.TheVariants.{NotUtf8}
use Rattle.yang_text.specs.declared.errors.TextError.{TextError}
use Rattle.yang_text.specs.declared.faults.Fault.{Fault}
use Rattle.yang_text.specs.declared.faults.Phase.TheVariants.{Due}
use Rattle.yang_text.specs.declared.lexing.Token.{Token}
use Rattle.yang_text.proofs.Counts.{statements_few}
use Rattle.yang_text.proofs.Cuts.{tokens_few}
use Rattle.yang_text.proofs.LeastFaults.{least_is_least, none_is_none}
use Rattle.yang_text.proofs.Readings.{utf8_none}
use Rattle.yang_text.proofs.PieceTokens.{pieces_tokens}
use Rattle.yang_text.proofs.FaultlessTokens.{sound, none_bad}
use Rattle.yang_text.proofs.Spellings.{statements_quiet, statements_build}
use Rattle.yang_text.proofs.TextPieces.{made_of}

valid_by : (b : Bool) (f : Fault) → cond b None (Some f) ≡ None → b ≡ true
valid_by true f e = refl
valid_by false f e = absurd (cc)

valid : (text : List ℕ) → utf8_fault text ≡ None → IsUtf8 text
valid text e = IsUtf8-from_is_utf8 text (valid_by (is_utf8 text) (record { line = line_at text (utf8_valid_len text); why = NotUtf8 }) e)

-- only where no token has a fault
read_by : (text : List ℕ) (o : Option Fault) (ds : List Declaration) → least_before_end text ≡ o → reading_by o text ≡ Ok ds → (least_before_end text ≡ None) × (built text (tokens text) ≡ Ok ds)
read_by text None ds e h = (e, h)
read_by text (Some f) ds e h = absurd (cc)

built_ok : (text : List ℕ) (ts : List Token) (ds : List Declaration) → built text ts ≡ Ok ds → (ts ≢ []) × (finish (build text nothing ts) ≡ Ok ds)
built_ok text [] ds e = absurd (cc)
built_ok text (t ∷ ts) ds e = (λ h. cc, e)

some_statements : (text : List ℕ) (ts : List Token) (ds : List Declaration) → AreStatements text 0 (block_of ds) ts → ts ≢ [] → ds ≢ []
some_statements text ts [] h n = absurd (n h)
some_statements text ts (d ∷ ds) h n = λ e. cc

-- the tokens of a text are those of its pieces
tokens_made : (text : List ℕ) (ps : List Piece) → IsMadeOf text ps → tokens text ≡ tokens_of 0 1 ps
tokens_made text ps made = ap (λ bs. tokens bs) made.bytes ∙ pieces_tokens ps 0 1 made.fit

pub read_spells : (text : List ℕ) (ds : List Declaration) → reading text ≡ Ok ds → Spells text ds
read_spells text ds e =
    let (quiet, is) = read_by text (least_before_end text) ds refl e in
    let (characters, none) = none_is_none (utf8_fault text) (faults_from text Due 0 (tokens text)) quiet in
    let (some, ended) = built_ok text (tokens text) ds is in
    let statements = sound text (tokens text) ds none ended in
    let (ps, made) = made_of text (none_bad text (tokens text) Due 0 none) in
    record {
      characters = valid text characters;
      some = some_statements text (tokens text) ds statements some;
      pieces = ps;
      made = made;
      statements = subst (λ ts. AreStatements text 0 (block_of ds) ts) (tokens_made text ps made) statements;
    }

pub read_faultless : (text : List ℕ) (ds : List Declaration) → reading text ≡ Ok ds → faults text ≡ []
read_faultless text ds e =
    let (quiet, is) = read_by text (least_before_end text) ds refl e in
    let (characters, none) = none_is_none (utf8_fault text) (faults_from text Due 0 (tokens text)) quiet in
    ap (λ o. or_at_end (option_to_list o ++ faults_from text Due 0 (tokens text)) (end_fault (built text (tokens text)))) characters
    ∙ ap (λ fs. or_at_end fs (end_fault (built text (tokens text)))) none
    ∙ ap end_fault is

some_tokens : (text : List ℕ) (ts : List Token) (ds : List Declaration) → AreStatements text 0 (block_of ds) ts → ds ≢ [] → built text ts ≡ finish (build text nothing ts)
some_tokens text (t ∷ ts) ds h n = refl
some_tokens text [] [] h n = absurd (n refl)
some_tokens text [] (d ∷ ds) (xs, ys, whole, first, others) n = absurd (never text 0 d xs ys first (sym whole))
  where
    never : (text : List ℕ) (depth : ℕ) (d : Declaration) (xs ys : List Token) → IsStatement text depth d xs → xs ++ ys ≡ [] → ⊥
    never text depth (declare k a l s e b) [] ys (t, args, rest, whole, name, argument, end) h = cc
    never text depth d (x ∷ xs) ys one h = cc

back : (ds : List Declaration) → declarations (block_of ds) ≡ ds
back [] = refl
back (d ∷ ds) = ap (λ x. d ∷ x) (back ds)

pub spelled_read : (text : List ℕ) (ds : List Declaration) → Spells text ds → reading text ≡ Ok ds
unfolding faults_from build
spelled_read text ds s =
    let ts = tokens text in
    let statements : AreStatements text 0 (block_of ds) ts = subst (λ us. AreStatements text 0 (block_of ds) us) (sym (tokens_made text s.pieces s.made)) s.statements in
    let quiet : faults_from text Due 0 ts ≡ [] = ap (λ us. faults_from text Due 0 us) (sym (append-nil ts)) ∙ statements_quiet text 0 (block_of ds) ts [] statements in
    let is : build text nothing ts ≡ record { current = declarations (block_of ds); outer = []; head = [] } =
    ap (λ us. build text nothing us) (sym (append-nil ts)) ∙ statements_build text 0 [] [] (block_of ds) ts [] statements in
    ap (λ o. reading_by (fold lower_of o (faults_from text Due 0 ts)) text) (utf8_none text s.characters)
    ∙ ap (λ fs. reading_by (fold lower_of None fs) text) quiet
    ∙ some_tokens text ts ds statements s.some
    ∙ ap finish is
    ∙ ap Ok (back ds)

least_by : (text : List ℕ) (o : Option Fault) (f : Fault) → least_before_end text ≡ o → reading_by o text ≡ Err f → IsLeast f (faults text)
least_by text (Some g) f e h =
    let same : g ≡ f = cc in
    let here = least_is_least (utf8_fault text) (faults_from text Due 0 (tokens text)) f (e ∙ ap Some same) in
    some_before (option_to_list (utf8_fault text) ++ faults_from text Due 0 (tokens text)) here
  where
    some_before : (fs : List Fault) → IsLeast f fs → IsLeast f (or_at_end fs (end_fault (built text (tokens text))))
    some_before [] h = absurd (h.among)
    some_before (g ∷ gs) h = h
least_by text None f e h =
    let (characters, none) = none_is_none (utf8_fault text) (faults_from text Due 0 (tokens text)) e in
    let only : faults text ≡ f ∷ [] =
    ap (λ o. or_at_end (option_to_list o ++ faults_from text Due 0 (tokens text)) (end_fault (built text (tokens text)))) characters
    ∙ ap (λ fs. or_at_end fs (end_fault (built text (tokens text)))) none
    ∙ ap end_fault h in
    subst (λ fs. IsLeast f fs) (sym only) (record { among = inl refl; least = (inr (refl, omega arith), tt) })

pub read_least : (text : List ℕ) (f : Fault) → reading text ≡ Err f → IsLeast f (faults text)
read_least text f e = least_by text (least_before_end text) f refl e

-- a text spells one list of statements
pub spelled_once : (text : List ℕ) (ds es : List Declaration) → Spells text ds → Spells text es → ds ≡ es
spelled_once text ds es s t = let same : Ok ds ≡ Ok es = sym (spelled_read text ds s) ∙ spelled_read text es t in cc

faultless_by : (text : List ℕ) (r : Result (List Declaration) Fault) → reading text ≡ r → faults text ≡ [] → (ds : List Declaration) × Spells text ds
faultless_by text (Ok ds) e h = (ds, read_spells text ds e)
faultless_by text (Err f) e h = absurd (nothing_among (subst (λ fs. IsLeast f fs) h (read_least text f e)))
  where
    nothing_among : IsLeast f [] → ⊥
    nothing_among l = l.among

pub faultless_spells : (text : List ℕ) → faults text ≡ [] → (ds : List Declaration) × Spells text ds
faultless_spells text h = faultless_by text (reading text) refl h

-- what the answers of a reading say
pub gives_spelled : (text : List ℕ) (r : Result (List Declaration) TextError) → Gives (λ ss. ss) text_fault r (reading text) → IfOk r (λ ss. Spells text ss)
gives_spelled text (Ok ss) h = read_spells text ss h
gives_spelled text (Err e) h = tt

spelled_few : (text : List ℕ) (ds : List Declaration) → Spells text ds → total_weight ds ≤ length text
spelled_few text ds s =
    statements_few text ds (tokens text) (length text) (subst (λ us. AreStatements text 0 (block_of ds) us) (sym (tokens_made text s.pieces s.made)) s.statements) (tokens_few text)

pub gives_few : (text : List ℕ) (r : Result (List Declaration) TextError) → Gives (λ ss. ss) text_fault r (reading text) → IfOk r (λ ss. total_weight ss ≤ length text)
gives_few text (Ok ss) h = spelled_few text ss (read_spells text ss h)
gives_few text (Err e) h = tt

pub gives_faultless : (text : List ℕ) (r : Result (List Declaration) TextError) → Gives (λ ss. ss) text_fault r (reading text) → OnOk r (faults text ≡ [])
gives_faultless text (Ok ss) h = read_faultless text ss h
gives_faultless text (Err e) h = tt

fault_least : (text : List ℕ) (o : Option Fault) → FailsAs {Y = List Declaration} o (reading text) → IfSome o (λ f. IsLeast f (faults text))
fault_least text None h = tt
fault_least text (Some f) h = read_least text f h

pub gives_least : (text : List ℕ) (r : Result (List Declaration) TextError) → Gives (λ ss. ss) text_fault r (reading text) → IfErr r (λ e. IfSome (text_fault e) (λ f. IsLeast f (faults text)))
gives_least text (Ok ss) h = tt
gives_least text (Err e) h = fault_least text (text_fault e) h
