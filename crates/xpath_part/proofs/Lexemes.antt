-- One byte more of a text.
use Rattle.std.proofs.Common.{◌≡◌, ◌≤◌, ℕ, List, ◌∷◌, ◌++◌, length, drop, Option, Some, None, Result, Ok, Err, IfOk, option_map, option_and_then, refl, ap, sym, ◌∙◌, append_assoc}
use Rattle.std.proofs.Math.ListN.{drop_of_length-le}
use Rattle.std.specs.Option.{option_to_list}
use Rattle.xpath_part.specs.Errors.{IfBad}
use Rattle.xpath_part.specs.Lexing.{begin, grow, finish, settled, advance, Advances, left_over, lex_from}
use Rattle.xpath_part.specs.declared.errors.ExprError.{ExprError}
use Rattle.xpath_part.specs.declared.errors.ExprError.TheVariants.{Bad as BadText, Memory}
use Rattle.xpath_part.specs.declared.lexing.Growth.{Growth}
use Rattle.xpath_part.specs.declared.lexing.Growth.TheVariants.{Within, Whole, Ends, Bad}
use Rattle.xpath_part.specs.declared.lexing.Mode.{Mode}
use Rattle.xpath_part.specs.declared.symbols.Token.{Token}

behind_ended : (s : Option (List Token × Mode)) (xs old mid new : List Token) (m : Mode) → mid ≡ old ++ xs
    → Advances s mid new m → Advances (option_map (λ p. (xs ++ p.0, p.1)) s) old new m
behind_ended None xs old mid new m e h = h
behind_ended (Some p) xs old mid new m e h = (h.0 ∙ ap (λ l. l ++ p.0) e ∙ append_assoc old xs p.0, h.1)

-- a byte behind a token that has ended
pub advance_ends : (m : Mode) (b : ℕ) (o : Option Token) (old mid new : List Token) (r : Result Mode ExprError)
    → grow m b ≡ Ends o → mid ≡ old ++ option_to_list o
    → IfOk r (Advances (settled (begin b)) mid new) → IfOk r (Advances (advance m b) old new)
advance_ends m b o old mid new (Ok n) g e h = rw g (behind_ended (settled (begin b)) (option_to_list o) old mid new n e h)
advance_ends m b o old mid new (Err x) g e h = h

after_both : (old xs : List Token) (rest : Option (List Token))
    → option_map (λ ts. (old ++ xs) ++ ts) rest ≡ option_map (λ ts. old ++ ts) (option_map (λ ts. xs ++ ts) rest)
after_both old xs None = refl
after_both old xs (Some ts) = ap Some (append_assoc old xs ts)

lex_after : (a : Option (List Token × Mode)) (n : Mode) (bs : List ℕ) (old new : List Token) (whole : Option (List Token))
    → Advances a old new n
    → option_map (λ ts. old ++ ts) (option_and_then (λ p. option_map (λ ts. p.0 ++ ts) (lex_from p.1 bs)) a) ≡ whole
    → option_map (λ ts. new ++ ts) (lex_from n bs) ≡ whole
lex_after None n bs old new whole h e = absurd h
lex_after (Some p) n bs old new whole h e =
    (λ i. option_map (λ ts. h.0 i ++ ts) (lex_from (h.1 i) bs)) ∙ after_both old p.0 (lex_from p.1 bs) ∙ e

-- the tokens of what is left, with those of one byte apart
pub lex_step : (m n : Mode) (b : ℕ) (bs : List ℕ) (old new : List Token) (whole : Option (List Token))
    → Advances (advance m b) old new n
    → option_map (λ ts. old ++ ts) (lex_from m (b ∷ bs)) ≡ whole
    → option_map (λ ts. new ++ ts) (lex_from n bs) ≡ whole
lex_step m n b bs old new whole h e = lex_after (advance m b) n bs old new whole h e

-- a byte that may not stand there
pub lex_stops : (m : Mode) (b : ℕ) (bs : List ℕ) (old : List Token) (whole : Option (List Token)) (x : ExprError)
    → IfBad x (advance m b ≡ None)
    → option_map (λ ts. old ++ ts) (lex_from m (b ∷ bs)) ≡ whole → IfBad x (whole ≡ None)
lex_stops m b bs old whole (BadText at) h e =
    sym e ∙ ap (λ a. option_map (λ ts. old ++ ts) (option_and_then (λ p. option_map (λ ts. p.0 ++ ts) (lex_from p.1 bs)) a)) h
lex_stops m b bs old whole Memory h e = tt

-- behind the last byte
past_end : (m : Mode) (at : ℕ) (bytes : List ℕ) (old : List Token) (g : Growth) (whole : Option (List Token))
    → length bytes ≤ at → g ≡ finish m
    → option_map (λ ts. old ++ ts) (lex_from m (drop at bytes)) ≡ whole
    → whole ≡ option_map (λ ts. old ++ ts) (left_over g)
past_end m at bytes old g whole past f e =
    sym e ∙ ap (λ bs. option_map (λ ts. old ++ ts) (lex_from m bs)) (drop_of_length-le bytes past)
    ∙ ap (λ x. option_map (λ ts. old ++ ts) (left_over x)) (sym f)

-- a text that ends where it may
pub lex_ends : (m : Mode) (at : ℕ) (bytes : List ℕ) (old new : List Token) (o : Option Token) (g : Growth) (whole : Option (List Token))
    → length bytes ≤ at → g ≡ finish m → g ≡ Ends o → new ≡ old ++ option_to_list o
    → option_map (λ ts. old ++ ts) (lex_from m (drop at bytes)) ≡ whole → whole ≡ Some new
lex_ends m at bytes old new o g whole past f h n e =
    past_end m at bytes old g whole past f e
    ∙ ap (λ x. option_map (λ ts. old ++ ts) (left_over x)) h ∙ ap Some (sym n)

cut_at : (old : List Token) (g : Growth) → ((o : Option Token) → g ≡ Ends o → ⊥)
    → option_map (λ ts. old ++ ts) (left_over g) ≡ None
cut_at old (Within m) h = refl
cut_at old (Whole t) h = refl
cut_at old (Ends o) h = absurd (h o refl)
cut_at old Bad h = refl

-- a text that ends within a token
pub lex_cut : (m : Mode) (at : ℕ) (bytes : List ℕ) (old : List Token) (g : Growth) (whole : Option (List Token))
    → length bytes ≤ at → g ≡ finish m → ((o : Option Token) → g ≡ Ends o → ⊥)
    → option_map (λ ts. old ++ ts) (lex_from m (drop at bytes)) ≡ whole → whole ≡ None
lex_cut m at bytes old g whole past f h e = past_end m at bytes old g whole past f e ∙ cut_at old g h
