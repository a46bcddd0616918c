-- A text spells at most one pattern within the limits.
use Rattle.std.proofs.Common.{◌≡◌, ◌<◌, ◌≤◌, ℕ, false, List, Option, Some, None, sym, ap, ◌∙◌, subst, arith, chars, ◌↔◌}
use Rattle.yang_pattern.specs.declared.letters.Letter.{Letter}
use Rattle.yang_pattern.specs.declared.symbols.Token.{Token}
use Rattle.yang_pattern.specs.declared.fragments.Fragment.{Fragment}
use Rattle.yang_pattern.specs.declared.parts.Part.{Part}
use Rattle.yang_pattern.specs.declared.tokens.Mode.TheVariants.{Outside}
use Rattle.yang_pattern.specs.Letters.{letters_from}
use Rattle.yang_pattern.specs.Lexing.{lex}
use Rattle.yang_pattern.specs.Symbols.{reads_token}
use Rattle.yang_pattern.specs.Machine.{machine_of, Takes}
use Rattle.yang_pattern.specs.Parts.{IsPatternPart, IsFragmentOf}
use Rattle.yang_pattern.specs.Pattern.{Branches, Matches, size, tokens_of}
use Rattle.yang_pattern.specs.Reading.{run, start}
use Rattle.yang_pattern.specs.Language.{Spells, SpellsWithin, IsPattern}
use Rattle.yang_pattern.proofs.TextLetters.{letters_complete, letters_sound}
use Rattle.yang_pattern.proofs.TokenLetters.{tokens_complete, tokens_sound}
use Rattle.yang_pattern.proofs.Parsing.{run_complete}
use Rattle.yang_pattern.proofs.TokenSources.{run_sound}

-- what is spelled is what is read
spells_read : (cs : List ℕ) (bs : Branches) → Spells cs bs → (ls : List Letter) × (letters_from false cs ≡ Some ls) × (lex Outside ls ≡ Some (tokens_of bs))
spells_read cs bs (ls, text, tokens) = (ls, letters_complete ls cs text, tokens_complete (tokens_of bs) ls tokens)

-- the tokens that a text spells
pub tokens_once : (cs : List ℕ) (a : Branches) (ls : List Letter) (ts : List Token) → Spells cs a → letters_from false cs ≡ Some ls → lex Outside ls ≡ Some ts → tokens_of a ≡ ts
tokens_once cs a ls ts spells g h =
    let (ks, e, f) = spells_read cs a spells in
    let letters : Some ks ≡ Some ls = sym e ∙ g in
    let same : ks ≡ ls = cc letters in
    let tokens : Some (tokens_of a) ≡ Some ts = sym f ∙ (ap (λ x. lex Outside x) same ∙ h) in
    cc tokens

-- what is read of the tokens is the pattern
pub read_once : (cs : List ℕ) (a : Branches) (ls : List Letter) (ts : List Token) → SpellsWithin cs a → letters_from false cs ≡ Some ls → lex Outside ls ≡ Some ts → run ts start ≡ Some a
read_once cs a ls ts w g h = ap (λ x. run x start) (sym (tokens_once cs a ls ts w.spelled g h)) ∙ run_complete a w.shallow

pub same_pattern : (cs : List ℕ) (a b : Branches) → SpellsWithin cs a → SpellsWithin cs b → a ≡ b
same_pattern cs a b w v =
    let (ls, e, f) = spells_read cs a w.spelled in
    let both : Some a ≡ Some b = sym (run_complete a w.shallow) ∙ read_once cs b ls (tokens_of a) v e f in
    cc both

pub no_letters : (text : List ℕ) → letters_from false (chars text) ≡ None → IsPattern text → ⊥
no_letters text e (bs, w) =
    let (ls, f, g) = spells_read (chars text) bs w.spelled in
    let both : None ≡ Some ls = sym e ∙ f in
    cc both

pub no_tokens : (text : List ℕ) (ls : List Letter) → letters_from false (chars text) ≡ Some ls → lex Outside ls ≡ None → IsPattern text → ⊥
no_tokens text ls e h (bs, w) =
    let (ks, f, g) = spells_read (chars text) bs w.spelled in
    let letters : Some ls ≡ Some ks = sym e ∙ f in
    let same : ls ≡ ks = cc letters in
    let both : None ≡ Some (tokens_of bs) = sym h ∙ (ap (λ x. lex Outside x) same ∙ g) in
    cc both

pub no_pattern : (text : List ℕ) (ls : List Letter) (ts : List Token) → letters_from false (chars text) ≡ Some ls → lex Outside ls ≡ Some ts → run ts start ≡ None → IsPattern text → ⊥
no_pattern text ls ts e f h (bs, w) =
    let both : None ≡ Some bs = sym h ∙ read_once (chars text) bs ls ts w e f in
    cc both

pub too_large : (text : List ℕ) (ls : List Letter) (ts : List Token) (a : Branches) → letters_from false (chars text) ≡ Some ls → lex Outside ls ≡ Some ts → run ts start ≡ Some a → 1024 < size a → IsPattern text → ⊥
too_large text ls ts a e f h large (bs, w) =
    let both : Some a ≡ Some bs = sym h ∙ read_once (chars text) bs ls ts w e f in
    let same : a ≡ bs = cc both in
    let small = w.small in
    let n : size a ≡ size bs = ap size same in
    omega arith

-- what is read is spelled
pub spelled : (text : List ℕ) (ls : List Letter) (ts : List Token) (a : Branches) → letters_from false (chars text) ≡ Some ls → lex Outside ls ≡ Some ts → run ts start ≡ Some a → size a ≤ 1024 → SpellsWithin (chars text) a
spelled text ls ts a e f h small =
    let (tokens, shallow) = run_sound ts a h in
    record { spelled = (ls, letters_sound false (chars text) ls e, tokens_sound (tokens_of a) ls (f ∙ ap Some (sym tokens))); small = small; shallow = shallow }

-- what the last step of the reading finds
module _ (text : List ℕ) (ls : List Letter) (ts : List Token) (e : letters_from false (chars text) ≡ Some ls) (f : lex Outside ls ≡ Some ts) (part : Part) (bs : Branches) (h : run ts start ≡ Some bs) (is : IsPatternPart (reads_token ts) part bs) where
  pub found_large : part.fragment ≡ None → IsPattern text → ⊥
  found_large none = too_large text ls ts bs e f h (subst (λ (o : Option Fragment). IsFragmentOf (reads_token ts) o (Matches bs) (size bs)) none is)

  pub found_whole : (whole : Fragment) → part.fragment ≡ Some whole
      → (bs : Branches) × SpellsWithin (chars text) bs × ((u : List ℕ) → Takes (machine_of (reads_token ts) whole) u ↔ Matches bs u)
  found_whole whole some =
      let (count, language) = subst (λ (o : Option Fragment). IsFragmentOf (reads_token ts) o (Matches bs) (size bs)) some is in
      let small = whole.small in
      (bs, spelled text ls ts bs e f h (omega arith), language)
