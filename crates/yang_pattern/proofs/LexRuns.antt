-- What one letter brings, as an equation on all letters.
use Rattle.std.proofs.Common.{◌≡◌, ◌≤◌, ℕ, false, List, [], ◌∷◌, ◌++◌, Option, Some, None, option_map, option_and_then, option_to_list, length, drop, refl, sym, ap, ◌∙◌, append-nil}
use Rattle.std.proofs.lemmas.List.{at_drop_all}
use Rattle.yang_pattern.specs.declared.letters.Letter.{Letter}
use Rattle.yang_pattern.specs.declared.symbols.Token.{Token}
use Rattle.yang_pattern.specs.declared.tokens.Mode.{Mode}
use Rattle.yang_pattern.specs.declared.tokens.Mode.TheVariants.{Outside, Class, Count}
use Rattle.yang_pattern.specs.declared.tokens.Step.{Step}
use Rattle.yang_pattern.specs.Lexing.{advance, lex, lex_end}
use Rattle.yang_pattern.specs.Grammar.{plain}
use Rattle.yang_pattern.proofs.TokenSources.{map_some, then_some}

map_nothing : (o : Option (List Token)) → option_map (λ ts. [] ++ ts) o ≡ o
map_nothing None = refl
map_nothing (Some ts) = refl

-- a letter that brings no token
pub lex_quiet : (m n : Mode) (l : Letter) (ls : List Letter) → advance m l ≡ Some (record { mode = n; token = None }) → lex m (l ∷ ls) ≡ lex n ls
lex_quiet m n l ls e = ap (λ o. option_and_then (λ (s : Step). option_map (λ ts. option_to_list s.token ++ ts) (lex s.mode ls)) o) e ∙ map_nothing (lex n ls)

-- a letter that brings a token
pub lex_token : (m n : Mode) (t : Token) (l : Letter) (ls : List Letter) (ts : List Token) → advance m l ≡ Some (record { mode = n; token = Some t }) → lex n ls ≡ Some ts → lex m (l ∷ ls) ≡ Some (t ∷ ts)
lex_token m n t l ls ts e h =
    ap (λ o. option_and_then (λ (s : Step). option_map (λ ts. option_to_list s.token ++ ts) (lex s.mode ls)) o) e
    ∙ ap (λ o. option_map (λ ts. t ∷ ts) o) h

-- the first letter of letters that are read
pub lex_first : (m : Mode) (l : Letter) (ls : List Letter) (ts : List Token) → lex m (l ∷ ls) ≡ Some ts
    → (s : Step) × (us : List Token) × (advance m l ≡ Some s) × (lex s.mode ls ≡ Some us) × (ts ≡ option_to_list s.token ++ us)
lex_first m l ls ts e =
    let (s, here, more) = then_some (λ (s : Step). option_map (λ ts. option_to_list s.token ++ ts) (lex s.mode ls)) (advance m l) ts e in
    let (us, rest, all) = map_some (λ ts. option_to_list s.token ++ ts) (lex s.mode ls) ts more in
    (s, us, here, rest, all)

pub letter_is : (l : Letter) (c : ℕ) → l.character ≡ c → l.escaped ≡ false → l ≡ plain c
letter_is l c e h = ap (λ x. record { character = x; escaped = l.escaped }) e ∙ ap (λ b. record { character = c; escaped = b }) h

-- before the first letter
pub lex_begins : (ts : List Token) (m : Mode) (ls : List Letter) → ts ≡ [] → option_map (λ us. ts ++ us) (lex m ls) ≡ lex m ls
lex_begins ts m ls e = ap (λ xs. option_map (λ us. xs ++ us) (lex m ls)) e ∙ map_nothing (lex m ls)

-- behind the last letter, where nothing is open
pub lex_ends : (ts : List Token) (m : Mode) (ls : List Letter) (i : ℕ) (whole : Option (List Token)) → length ls ≤ i → m ≡ Outside
    → option_map (λ us. ts ++ us) (lex m (drop i ls)) ≡ whole → whole ≡ Some ts
lex_ends ts m ls i whole le e is =
    sym is ∙ (at_drop_all (λ xs. option_map (λ us. ts ++ us) (lex m xs)) ls i le ∙ (ap (λ n. option_map (λ us. ts ++ us) (lex_end n)) e ∙ ap Some (append-nil ts)))

open_end : (m : Mode) → (m ≡ Outside → ⊥) → lex_end m ≡ None
open_end Outside other = absurd (other refl)
open_end (Class class) other = refl
open_end (Count count) other = refl

-- the same, where a class or a count is open
pub lex_open : (ts : List Token) (m : Mode) (ls : List Letter) (i : ℕ) (whole : Option (List Token)) → length ls ≤ i → (m ≡ Outside → ⊥)
    → option_map (λ us. ts ++ us) (lex m (drop i ls)) ≡ whole → whole ≡ None
lex_open ts m ls i whole le other is =
    sym is ∙ (at_drop_all (λ xs. option_map (λ us. ts ++ us) (lex m xs)) ls i le ∙ ap (option_map (λ us. ts ++ us)) (open_end m other))
