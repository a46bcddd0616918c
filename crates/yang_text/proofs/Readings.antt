-- What a text is read as, from its tokens.
use Rattle.std.proofs.Common.{◌≡◌, ℕ, Bool, true, false, cond, List, [], ◌∷◌, Option, Some, None, refl, sym, subst, ap, ◌∙◌, IsUtf8}
use Rattle.std.specs.Prelude.{fold}
use Rattle.std.specs.Str.{is_utf8}
use Rattle.std.specs.Str.Lossy.{utf8_valid_len}
use Rattle.std.proofs.lemmas.Str.{is_utf8-from_IsUtf8, IsUtf8-from_is_utf8}
use Rattle.host_core.specs.Answers.{FailsAs}
use Rattle.yang_text.specs.Building.{built}
use Rattle.yang_text.specs.Errors.{text_fault}
use Rattle.yang_text.specs.Faults.{lower, lower_of, faults_from}
use Rattle.yang_text.specs.Lexing.{tokens}
use Rattle.yang_text.specs.Reading.{line_at, utf8_fault, least_before_end, reading_by, reading}
use Rattle.yang_text.specs.Declarations.{Declaration}
use Rattle.yang_text.specs.declared.errors.ModelWhy.TheVariants.{NotUtf8}
use Rattle.yang_text.specs.declared.errors.TextError.{TextError}
use Rattle.yang_text.specs.declared.faults.Fault.{Fault}
use Rattle.yang_text.specs.declared.faults.Phase.TheVariants.{Due}
use Rattle.yang_text.specs.declared.lexing.Token.{Token}

pub utf8_none : (text : List ℕ) → IsUtf8 text → utf8_fault text ≡ None
utf8_none text u = ap (λ b. cond b None (Some (record { line = line_at text (utf8_valid_len text); why = NotUtf8 }))) (is_utf8-from_IsUtf8 text u)

no_utf8 : (text : List ℕ) → (IsUtf8 text → ⊥) → (b : Bool) → is_utf8 text ≡ b → is_utf8 text ≡ false
no_utf8 text n true e = absurd (n (IsUtf8-from_is_utf8 text e))
no_utf8 text n false e = e

pub utf8_some : (text : List ℕ) (n line : ℕ) → (IsUtf8 text → ⊥) → n ≡ utf8_valid_len text → line ≡ line_at text n → utf8_fault text ≡ Some (record { line = line; why = NotUtf8 })
utf8_some text n line other e l =
    ap (λ b. cond b None (Some (record { line = line_at text (utf8_valid_len text); why = NotUtf8 }))) (no_utf8 text other (is_utf8 text) refl)
    ∙ ap (λ k. Some (record { line = k; why = NotUtf8 })) (ap (λ m. line_at text m) (sym e) ∙ sym l)

least_is : (text : List ℕ) (ts : List Token) (first least : Option Fault) → ts ≡ tokens text → utf8_fault text ≡ first → least ≡ fold lower_of first (faults_from text Due 0 ts) → least_before_end text ≡ least
least_is text ts first least e u l =
    ap (λ o. fold lower_of o (faults_from text Due 0 (tokens text))) u
    ∙ ap (λ us. fold lower_of first (faults_from text Due 0 us)) (sym e)
    ∙ sym l

pub fault_read : (text : List ℕ) (ts : List Token) (first : Option Fault) (f : Fault) (error : TextError) → ts ≡ tokens text → utf8_fault text ≡ first
    → Some f ≡ fold lower_of first (faults_from text Due 0 ts) → text_fault error ≡ Some f → FailsAs {Y = List Declaration} (text_fault error) (reading text)
fault_read text ts first f error e u l told =
    subst (λ o. FailsAs {Y = List Declaration} o (reading text)) (sym told) (ap (λ o. reading_by o text) (least_is text ts first (Some f) e u l))

pub none_read : (text : List ℕ) (ts : List Token) → ts ≡ tokens text → IsUtf8 text → None ≡ fold lower_of None (faults_from text Due 0 ts) → built text ts ≡ reading text
none_read text ts e u l = ap (λ us. built text us) e ∙ sym (ap (λ o. reading_by o text) (least_is text ts None None e (utf8_none text u) l))

-- where there is a fault there is a least one
pub some_least : (f : Fault) (gs : List Fault) → None ≡ fold lower_of (Some f) gs → ⊥
some_least f [] e = cc
some_least f (g ∷ gs) e = some_least (lower f g) gs e
