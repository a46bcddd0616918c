-- What is read of a text whose reading stops can be ended: its groups are closed.
use Rattle.std.proofs.Common.{◌≡◌, ◌≤◌, ◌≢◌, inl, inr, ℕ, zero, suc, ◌+◌, ◌-◌, ◌<◌, Bool, true, false, List, [], ◌∷◌, ◌++◌, length, take, replicate, Option, Some, None, option_map, option_and_then, option_to_list, IsSomeAnd, refl, sym, ap, ◌∙◌, subst, arith, append_assoc, append-nil, chars, IsUtf8}
use Rattle.std.proofs.Math.Seq.{take-append_seam}
use Rattle.std.proofs.Math.Utf8.{encode}
use Rattle.std.specs.Char.{len_utf8}
use Rattle.std.proofs.lemmas.Bool.{true≢false}
use Rattle.std.proofs.lemmas.List.{length-append}
use Rattle.std.proofs.lemmas.Str.{chars-nil, chars-append, chars_past_char, IsUtf8-past_char, IsUtf8-take, IsCharBoundary-at_seam, length-encode}
use Rattle.host_core.specs.Characters.{close_parenthesis}
use Rattle.yang_pattern.specs.declared.letters.Letter.{Letter}
use Rattle.yang_pattern.specs.declared.symbols.Quantifier.{Quantifier}
use Rattle.yang_pattern.specs.declared.symbols.Token.{Token}
use Rattle.yang_pattern.specs.declared.symbols.Token.TheVariants.{Open, Close}
use Rattle.yang_pattern.specs.declared.tokens.Mode.{Mode}
use Rattle.yang_pattern.specs.declared.tokens.Mode.TheVariants.{Outside}
use Rattle.yang_pattern.specs.declared.tokens.Step.{Step}
use Rattle.yang_pattern.specs.declared.faults.Standing.{Standing}
use Rattle.yang_pattern.specs.declared.faults.Scan.{Scan}
use Rattle.yang_pattern.specs.Errors.{IsFaultFree}
use Rattle.yang_pattern.specs.Letters.{letters_from, letter_of}
use Rattle.yang_pattern.specs.Lexing.{lex, advance}
use Rattle.yang_pattern.specs.Grammar.{plain}
use Rattle.yang_pattern.specs.Pattern.{Branches, Branch, Atom, group, tokens_of}
use Rattle.yang_pattern.specs.Language.{BeginsPattern}
use Rattle.yang_pattern.specs.Reading.{Opened, Progress, close, with_atom, quantify, leave, read, run, start}
use Rattle.yang_pattern.specs.Scans.{IsStanding, IsLexed, IsScanned, IsScanBehind, IsWholeUpTo}
use Rattle.yang_pattern.proofs.FrameLemmas.{enter_room}
use Rattle.yang_pattern.proofs.LetterSteps.{letters_backslash, letters_other}
use Rattle.yang_pattern.proofs.LexRuns.{lex_quiet}
use Rattle.yang_pattern.proofs.TextLetters.{letters_sound}
use Rattle.yang_pattern.proofs.TokenLetters.{tokens_sound}
use Rattle.yang_pattern.proofs.TokenSources.{run_sound}

-- one token more
pub stand_open : (g : Standing) (s : Progress) → IsStanding g s → g.groups < 32 → IsSomeAnd (read Open s) (IsStanding (record { groups = g.groups + 1; atom = false }))
stand_open g s is h =
    let groups = is.groups in
    let room : length s.outer < 32 = omega arith in
    rw (enter_room s room) (record { groups = omega arith; atom = λ x. absurd (true≢false (sym x)) })

pub stand_close : (o : Opened) (outer : List Opened) (n : ℕ) → length outer ≡ n → (n ≡ 0 → ⊥) → IsSomeAnd (leave o outer) (IsStanding (record { groups = n - 1; atom = true }))
stand_close o [] n e h = absurd (h (sym e))
stand_close o (p ∷ outer) n e h = record { groups = omega arith; atom = λ x none. cc none }

pub stand_times : (cs : Option Branches) (b : Branch) (q : Quantifier) (last : Option Atom) (n : ℕ) (outer : List Opened) → length outer ≡ n → last ≢ None
    → IsSomeAnd (option_map (λ o. record { current = o; outer = outer }) (quantify cs b q last)) (IsStanding (record { groups = n; atom = false }))
stand_times cs b q None n outer e h = absurd (h refl)
stand_times cs b q (Some a) n outer e h = record { groups = e; atom = λ x. absurd (true≢false (sym x)) }

-- the open groups are closed
close_letters : (n : ℕ) → letters_from false (replicate n close_parenthesis) ≡ Some (replicate n (plain close_parenthesis))
close_letters zero = refl
close_letters (suc n) = ap (λ o. option_map (λ (ls : List Letter). plain close_parenthesis ∷ ls) o) (close_letters n)

close_tokens : (n : ℕ) → lex Outside (replicate n (plain close_parenthesis)) ≡ Some (replicate n Close)
close_tokens zero = refl
close_tokens (suc n) = ap (λ o. option_map (λ (ts : List Token). Close ∷ ts) o) (close_tokens n)

close_run : (outer : List Opened) (o : Opened) → (bs : Branches) × (run (replicate (length outer) Close) (record { current = o; outer = outer }) ≡ Some bs)
close_run [] o = (close o, refl)
close_run (p ∷ outer) o = close_run outer (with_atom p (group (close o)))

pub whole_begins : (cs : List ℕ) (scan : Scan) → scan.after_backslash ≡ false → scan.mode ≡ Outside → IsScanned cs scan → BeginsPattern cs
whole_begins cs scan after outside is =
    let l = is.lexed in
    let n = length l.progress.outer in
    let rest = replicate n close_parenthesis in
    let ends = replicate n (plain close_parenthesis) in
    let closes = replicate n Close in
    let letters : letters_from false (cs ++ rest) ≡ Some (is.letters ++ ends) =
    is.reads rest
    ∙ (ap (λ a. option_map (λ ls. is.letters ++ ls) (letters_from a rest)) after
    ∙ ap (λ o. option_map (λ ls. is.letters ++ ls) o) (close_letters n)) in
    let tokens : lex Outside (is.letters ++ ends) ≡ Some (l.tokens ++ closes) =
    l.lexed ends
    ∙ (ap (λ (m : Mode). option_map (λ ts. l.tokens ++ ts) (lex m ends)) outside
    ∙ ap (λ o. option_map (λ ts. l.tokens ++ ts) o) (close_tokens n)) in
    let (bs, closed) = close_run l.progress.outer l.progress.current in
    let whole : run (l.tokens ++ closes) start ≡ Some bs = l.reads closes ∙ closed in
    let (same, shallow) = run_sound (l.tokens ++ closes) bs whole in (
      rest,
      bs,
      (is.letters ++ ends, letters_sound false (cs ++ rest) (is.letters ++ ends) letters, tokens_sound (tokens_of bs) (is.letters ++ ends) (tokens ∙ ap Some (sym same))),
      shallow,
    )

map_map : {A : Type 0} (x : A) (xs : List A) (o : Option (List A)) → option_map (λ ys. xs ++ ys) (option_map (λ ys. x ∷ ys) o) ≡ option_map (λ ys. (xs ++ x ∷ []) ++ ys) o
map_map x xs None = refl
map_map x xs (Some ys) = ap Some (sym (append_assoc xs (x ∷ []) ys))

-- a letter that brings no token
pub lexed_quiet : (letters : List Letter) (m n : Mode) (g : Standing) (l : Letter) → advance m l ≡ Some (record { mode = n; token = None }) → IsLexed letters m g → IsLexed (letters ++ l ∷ []) n g
lexed_quiet letters m n g l e is = record {
  tokens = is.tokens;
  progress = is.progress;
  lexed = λ more. ap (λ ls. lex Outside ls) (append_assoc letters (l ∷ []) more) ∙ (is.lexed (l ∷ more) ∙ ap (λ o. option_map (λ ts. is.tokens ++ ts) o) (lex_quiet m n l more e));
  reads = is.reads;
  stands = is.stands;
}

token_first : (m n : Mode) (t : Token) (l : Letter) (ls : List Letter) → advance m l ≡ Some (record { mode = n; token = Some t }) → lex m (l ∷ ls) ≡ option_map (λ ts. t ∷ ts) (lex n ls)
token_first m n t l ls e = ap (λ o. option_and_then (λ (s : Step). option_map (λ ts. option_to_list s.token ++ ts) (lex s.mode ls)) o) e

pick : (g : Standing) (o : Option Progress) → IsSomeAnd o (IsStanding g) → (s : Progress) × (o ≡ Some s) × IsStanding g s
pick g None h = absurd h
pick g (Some s) h = (s, refl, h)

-- a letter that brings a token
pub lexed_token : (letters : List Letter) (m n : Mode) (g h : Standing) (l : Letter) (t : Token) → advance m l ≡ Some (record { mode = n; token = Some t })
    → ((s : Progress) → IsStanding g s → IsSomeAnd (read t s) (IsStanding h)) → IsLexed letters m g → IsLexed (letters ++ l ∷ []) n h
lexed_token letters m n g h l t e stands is =
    let (s, here, standing) = pick h (read t is.progress) (stands is.progress is.stands) in
    record {
      tokens = is.tokens ++ t ∷ [];
      progress = s;
      lexed = λ more.
          ap (λ ls. lex Outside ls) (append_assoc letters (l ∷ []) more)
          ∙ (is.lexed (l ∷ more)
          ∙ (ap (λ o. option_map (λ ts. is.tokens ++ ts) o) (token_first m n t l more e)
          ∙ map_map t is.tokens (lex n more)));
      reads = λ more.
          ap (λ ts. run ts start) (append_assoc is.tokens (t ∷ []) more)
          ∙ (is.reads (t ∷ more) ∙ ap (λ o. option_and_then (λ n. run more n) o) here);
      stands = standing;
    }

-- one character more
pub scanned_backslash : (cs : List ℕ) (c : ℕ) (after : Bool) (mode : Mode) (standing : Standing) → c ≡ 92 → after ≡ false
    → IsScanned cs (record { after_backslash = after; mode = mode; standing = standing }) → IsScanned (cs ++ c ∷ []) (record { after_backslash = true; mode = mode; standing = standing })
scanned_backslash cs c after mode standing e h is = record {
  letters = is.letters;
  reads = λ more.
      ap (λ ds. letters_from false ds) (append_assoc cs (c ∷ []) more)
      ∙ (is.reads (c ∷ more) ∙ ap (λ o. option_map (λ ls. is.letters ++ ls) o) (letters_backslash after c more e h));
  lexed = is.lexed;
}

pub scanned_letter : (cs : List ℕ) (c : ℕ) (after : Bool) (mode : Mode) (standing : Standing) (l : Letter) (next : Scan) → (c ≡ 92 → after ≡ false → ⊥)
    → letter_of after c ≡ Some l → IsScanBehind mode standing l next
    → IsScanned cs (record { after_backslash = after; mode = mode; standing = standing }) → IsScanned (cs ++ c ∷ []) next
scanned_letter cs c after mode standing l next other here behind is = record {
  letters = is.letters ++ l ∷ [];
  reads = λ more.
      ap (λ ds. letters_from false ds) (append_assoc cs (c ∷ []) more)
      ∙ (is.reads (c ∷ more)
      ∙ (ap (λ o. option_map (λ ls. is.letters ++ ls) o)
      (letters_other after c more other ∙ ap (λ o. option_and_then (λ k. option_map (λ ls. k ∷ ls) (letters_from false more)) o) here)
      ∙ (map_map l is.letters (letters_from false more)
      ∙ ap (λ a. option_map (λ ls. (is.letters ++ l ∷ []) ++ ls) (letters_from a more)) (sym behind.0))));
  lexed = behind.1 is.letters is.lexed;
}

map_nothing : {A : Type 0} (o : Option (List A)) → o ≡ option_map (λ xs. [] ++ xs) o
map_nothing None = refl
map_nothing (Some xs) = refl

-- nothing is read yet
pub scanned_nothing : (g : Standing) → IsStanding g start → IsScanned [] (record { after_backslash = false; mode = Outside; standing = g })
scanned_nothing g is = record {
  letters = [];
  reads = λ more. map_nothing (letters_from false more);
  lexed = record {
    tokens = [];
    progress = start;
    lexed = λ more. map_nothing (lex Outside more);
    reads = λ more. refl;
    stands = is;
  };
}

begins_nothing : BeginsPattern []
begins_nothing =
    let none : Standing = record { groups = 0; atom = false } in
    let stands : IsStanding none start = record { groups = refl; atom = λ x. absurd (true≢false (sym x)) } in
    whole_begins [] (record { after_backslash = false; mode = Outside; standing = none }) refl refl (scanned_nothing none stands)

-- a scan of a text up to a place, and a place before which no fault stands
pub record IsAt (text rest : List ℕ) (at whole : ℕ) (scan : Scan) : Type 0 where
  pub front : List ℕ
  pub text_is : text ≡ front ++ rest
  pub text_utf8 : IsUtf8 text
  pub rest_utf8 : IsUtf8 rest
  pub long : length front ≡ at
  pub scanned : IsScanned (chars front) scan
  pub fault_free : IsFaultFree text whole

-- the front of a text
front_utf8 : (text front rest : List ℕ) → text ≡ front ++ rest → IsUtf8 text → IsUtf8 rest → IsUtf8 front
front_utf8 text front rest e t r =
    let seam = IsCharBoundary-at_seam text front rest e r in
    subst (λ v. IsUtf8 v) (ap (λ v. take (length front) v) e ∙ take-append_seam front rest) (IsUtf8-take text (length front) t seam)

pub whole_free : (text rest : List ℕ) (at before place : ℕ) (scan : Scan) → IsAt text rest at before scan → IsWholeUpTo scan before at place → IsFaultFree text place
whole_free text rest at before place scan is (inl e) = subst (λ n. IsFaultFree text n) (sym e) is.fault_free
whole_free text rest at before place scan is (inr (e, begins)) =
    let front : take at text ≡ is.front = ap (λ n. take n text) (sym is.long) ∙ (ap (λ v. take (length is.front) v) is.text_is ∙ take-append_seam is.front rest) in
    let long = is.long in
    let n = ap length is.text_is ∙ length-append is.front rest in
    subst (λ n. IsFaultFree text n) (sym e) (omega arith, subst (λ v. BeginsPattern (chars v)) (sym front) (begins (chars is.front) is.scanned))

one_char : (c : ℕ) (rest next : List ℕ) → rest ≡ encode c ++ next → IsUtf8 rest → IsUtf8 next → chars (encode c) ≡ c ∷ []
one_char c rest next e r n =
    let utf8 = front_utf8 rest (encode c) next e r n in
    chars_past_char (encode c) [] c utf8 (sym (append-nil (encode c))) ∙ ap (λ v. c ∷ v) chars-nil

-- where the character ends
pub next_within : (text rest next : List ℕ) (at before c : ℕ) (scan : Scan) → IsAt text rest at before scan → rest ≡ encode c ++ next → at + len_utf8 c ≤ length text
next_within text rest next at before c scan is e =
    let long = is.long in
    let width = length-encode c in
    let all = ap length is.text_is ∙ length-append is.front rest in
    let ahead = ap length e ∙ length-append (encode c) next in
    omega arith

pub next_at : (text rest next : List ℕ) (at before place c : ℕ) (scan after : Scan) → IsAt text rest at before scan → IsFaultFree text place
    → rest ≡ encode c ++ next → ((cs : List ℕ) → IsScanned cs scan → IsScanned (cs ++ c ∷ []) after) → IsAt text next (at + len_utf8 c) place after
next_at text rest next at before place c scan after is free e more =
    let next_utf8 = IsUtf8-past_char rest next c is.rest_utf8 e in
    let front = front_utf8 text is.front rest is.text_is is.text_utf8 is.rest_utf8 in
    let all : chars (is.front ++ encode c) ≡ chars is.front ++ c ∷ [] = chars-append is.front (encode c) front ∙ ap (λ v. chars is.front ++ v) (one_char c rest next e is.rest_utf8 next_utf8) in
    let long = is.long in
    let width = length-encode c in
    let n = length-append is.front (encode c) in
    record {
      front = is.front ++ encode c;
      text_is = is.text_is ∙ (ap (λ v. is.front ++ v) e ∙ sym (append_assoc is.front (encode c) next));
      text_utf8 = is.text_utf8;
      rest_utf8 = next_utf8;
      long = omega arith;
      scanned = subst (λ v. IsScanned v after) (sym all) (more (chars is.front) is.scanned);
      fault_free = free;
    }

pub begin_at : (text rest : List ℕ) (scan : Scan) → rest ≡ text → IsUtf8 text → IsScanned [] scan → IsAt text rest 0 0 scan
begin_at text rest scan e utf8 is = record {
  front = [];
  text_is = sym e;
  text_utf8 = utf8;
  rest_utf8 = subst (λ v. IsUtf8 v) (sym e) utf8;
  long = refl;
  scanned = subst (λ v. IsScanned v scan) (sym chars-nil) is;
  fault_free = (omega arith, subst (λ v. BeginsPattern v) (sym chars-nil) begins_nothing);
}
