-- One byte of a text, and its end.
use Rattle.std.proofs.Common.{◌≡◌, ◌≤◌, ◌+◌, ℕ, List, [], ◌∷◌, ◌++◌, option_to_list, refl, sym, subst, ap, ◌∙◌, append_assoc, arith}
use Rattle.yang_text.specs.declared.lexing.Mode.{Mode}
use Rattle.yang_text.specs.declared.lexing.Token.{Token}
use Rattle.yang_text.specs.declared.lexing.Step.{Step}
use Rattle.yang_text.specs.Lexing.{lex, advance, window, next_line, open_fault}

pub lex_cons : (mode : Mode) (at line : ℕ) (xs : List ℕ) (b : ℕ) (bs : List ℕ) → xs ≡ b ∷ bs
    → lex mode at line xs ≡ option_to_list (advance mode (window at line xs)).token ++ lex (advance mode (window at line xs)).mode (at + 1) (next_line line (window at line xs).byte) bs
unfolding lex
lex_cons mode at line xs b bs e =
    let P : List ℕ → Type 0 = λ ys. lex mode at line ys ≡ option_to_list (advance mode (window at line ys)).token ++ lex (advance mode (window at line ys)).mode (at + 1) (next_line line (window at line ys).byte) bs in
    subst P (sym e) refl

pub lex_end : (mode : Mode) (at line : ℕ) (xs : List ℕ) → xs ≡ [] → lex mode at line xs ≡ option_to_list (open_fault mode at)
unfolding lex
lex_end mode at line xs e =
    let P : List ℕ → Type 0 = λ ys. lex mode at line ys ≡ option_to_list (open_fault mode at) in
    subst P (sym e) refl

-- what was found and what the rest brings, one byte on
pub lex_more : (found new : List Token) (whole : List Token) (mode : Mode) (at line : ℕ) (xs : List ℕ) (b : ℕ) (bs : List ℕ) (step : Step) (next : ℕ)
    → xs ≡ b ∷ bs → step ≡ advance mode (window at line xs) → next ≡ next_line line (window at line xs).byte → new ≡ found ++ option_to_list step.token
    → found ++ lex mode at line xs ≡ whole → new ++ lex step.mode (at + 1) next bs ≡ whole
lex_more found new whole mode at line xs b bs step next split here counts adds so_far =
    ap (λ ts. ts ++ lex step.mode (at + 1) next bs) adds
    ∙ append_assoc found (option_to_list step.token) (lex step.mode (at + 1) next bs)
    ∙ ap (λ (s : Step). found ++ (option_to_list s.token ++ lex s.mode (at + 1) next bs)) here
    ∙ ap (λ n. found ++ (option_to_list (advance mode (window at line xs)).token ++ lex (advance mode (window at line xs)).mode (at + 1) n bs)) counts
    ∙ ap (λ ts. found ++ ts) (sym (lex_cons mode at line xs b bs split))
    ∙ so_far

pub next_line_le : (line b : ℕ) → next_line line b ≤ line + 1
next_line_le line b = grind arith

-- what was found, where the text ends
pub lex_done : (found new whole : List Token) (mode : Mode) (at line : ℕ) (xs : List ℕ) (n : ℕ) → xs ≡ [] → at ≡ n → new ≡ found ++ option_to_list (open_fault mode n)
    → found ++ lex mode at line xs ≡ whole → new ≡ whole
lex_done found new whole mode at line xs n none ends adds so_far =
    adds ∙ ap (λ m. found ++ option_to_list (open_fault mode m)) (sym ends) ∙ ap (λ ts. found ++ ts) (sym (lex_end mode at line xs none)) ∙ so_far
