-- Parts that are told without the values of a type are the same with them.
use Rattle.std.proofs.Common.{◌≡◌, ◌==◌, ℕ, Bool, true, false, cond, List, [], ◌∷◌, length, Option, Some, None, codes, refl, ap, ◌∙◌}
use Rattle.std.specs.Prelude.{ℤ}
use Rattle.std.specs.Str.{bytes_eq}
use Rattle.host_core.specs.Characters.{bar, full_stop}
use Rattle.yang_types.specs.declared.types.Bounds.{Bounds}
use Rattle.yang_scope.specs.Pieces.{pieces}
use Rattle.yang_values.specs.Numbers.{bound_number}
use Rattle.yang_values.specs.Parts.{lowest, highest, between, bound, part_of, part, with_next, all_given, parts}

-- what the one gives, the other gives too
pub record GivesToo {X : Type 0} (o p : Option X) : Type 0 where
  pub gives : (x : X) → o ≡ Some x → p ≡ Some x

by_words : (a b : Bool) (x y z : Option ℤ) (n : ℤ) → cond a None (cond b None z) ≡ Some n → cond a x (cond b y z) ≡ Some n
by_words true b x y z n is = cc
by_words false true x y z n is = cc
by_words false false x y z n is = is

bound-too : (values : List Bounds) (s : List ℕ) → GivesToo (bound [] s) (bound values s)
bound-too values s = record { gives = λ n is. by_words (bytes_eq s (codes "min")) (bytes_eq s (codes "max")) (lowest values) (highest values) (bound_number s) n is }

between-too : (a b c d : Option ℤ) → GivesToo a b → GivesToo c d → GivesToo (between a c) (between b d)
between-too None b c d p q = record { gives = λ n is. cc }
between-too (Some x) b None d p q = record { gives = λ n is. cc }
between-too (Some x) b (Some y) d p q = record {
  gives = λ n is. ap (λ o. between o d) (p.gives x refl) ∙ ap (between (Some x)) (q.gives y refl) ∙ is;
}

three-too : (values : List Bounds) (a c : List ℕ) (empty : Bool) → GivesToo (cond empty (between (bound [] a) (bound [] c)) None) (cond empty (between (bound values a) (bound values c)) None)
three-too values a c true = between-too (bound [] a) (bound values a) (bound [] c) (bound values c) (bound-too values a) (bound-too values c)
three-too values a c false = record { gives = λ n is. is }

part_of-too : (values : List Bounds) (ps : List (List ℕ)) → GivesToo (part_of [] ps) (part_of values ps)
part_of-too values [] = record { gives = λ n is. is }
part_of-too values (a ∷ []) = between-too (bound [] a) (bound values a) (bound [] a) (bound values a) (bound-too values a) (bound-too values a)
part_of-too values (a ∷ b ∷ []) = record { gives = λ n is. is }
part_of-too values (a ∷ b ∷ c ∷ []) = three-too values a c (length b == 0)
part_of-too values (a ∷ b ∷ c ∷ d ∷ ps) = record { gives = λ n is. is }

with_next-too : {X : Type 0} (a b : Option X) (c d : Option (List X)) → GivesToo a b → GivesToo c d → GivesToo (with_next a c) (with_next b d)
with_next-too None b c d p q = record { gives = λ n is. cc }
with_next-too (Some x) b None d p q = record { gives = λ n is. cc }
with_next-too (Some x) b (Some xs) d p q = record {
  gives = λ n is. ap (λ o. with_next o d) (p.gives x refl) ∙ ap (with_next (Some x)) (q.gives xs refl) ∙ is;
}

all_given-too : {X Y : Type 0} (f g : X → Option Y) (xs : List X) → ((x : X) → GivesToo (f x) (g x)) → GivesToo (all_given f xs) (all_given g xs)
all_given-too f g [] too = record { gives = λ n is. is }
all_given-too f g (x ∷ xs) too = with_next-too (f x) (g x) (all_given f xs) (all_given g xs) (too x) (all_given-too f g xs too)

-- parts told without values
pub parts_without : (values : List Bounds) (s : List ℕ) (found : List Bounds) → parts [] s ≡ Some found → parts values s ≡ Some found
parts_without values s found is =
    let too : GivesToo (parts [] s) (parts values s) = all_given-too (part []) (part values) (pieces bar s) (λ p. part_of-too values (pieces full_stop p)) in
    too.gives found is
