-- A declaration as a tree of numbers, by which a proof tells declarations apart.
use Rattle.std.specs.Prelude.{◌≡◌, ℕ, List, Option, refl}
use Rattle.std.specs.Coded.{Coded, coded_ℕ, coded_list, coded_option}
use Rattle.std.proofs.Common.{sym, ap, subst}
use base.Stored.{Gv, gnil, gnum, gcons, num}
use Rattle.yang_text.specs.Declarations.{Declaration, declare, Block, no_more, more}

abbrev head : Gv → Gv
head gnil = gnil
head (gnum n) = gnil
head (gcons a b) = a

abbrev tail : Gv → Gv
tail gnil = gnil
tail (gnum n) = gnil
tail (gcons a b) = b

abbrev IsCons : Gv → Type 0
IsCons gnil = ⊥
IsCons (gnum n) = ⊥
IsCons (gcons a b) = Unit {0}

abbrev text_code : List ℕ → Gv
text_code = (coded_list coded_ℕ).code

abbrev argument_code : Option (List ℕ) → Gv
argument_code = (coded_option (coded_list coded_ℕ)).code

abbrev mutual
  -- the code of a declaration
  pub code : Declaration → Gv
  code (declare k a l s e b) =
      gcons (text_code k) (gcons (argument_code a)
      (gcons (gnum l) (gcons (gnum s) (gcons (gnum e) (block_code b)))))

  -- the code of a block
  pub block_code : Block → Gv
  block_code no_more = gnil
  block_code (more d b) = gcons (code d) (block_code b)

text_inj : (x y : List ℕ) → text_code x ≡ text_code y → x ≡ y
text_inj = (coded_list coded_ℕ).inj

argument_inj : (x y : Option (List ℕ)) → argument_code x ≡ argument_code y → x ≡ y
argument_inj = (coded_option (coded_list coded_ℕ)).inj

mutual
  -- declarations of one code are one
  pub inj : (x y : Declaration) → code x ≡ code y → x ≡ y
  inj (declare k a l s e b) (declare k' a' l' s' e' b') p =
      λ i. declare (text_inj k k' (ap head p) i)
      (argument_inj a a' (ap (λ g. head (tail g)) p) i)
      (ap (λ g. num (head (tail (tail g)))) p i)
      (ap (λ g. num (head (tail (tail (tail g))))) p i)
      (ap (λ g. num (head (tail (tail (tail (tail g)))))) p i)
      (block_inj b b' (ap (λ g. tail (tail (tail (tail (tail g))))) p) i)

  -- blocks of one code are one
  pub block_inj : (x y : Block) → block_code x ≡ block_code y → x ≡ y
  block_inj no_more no_more p = refl
  block_inj (more d b) (more e c) p =
      λ i. more (inj d e (ap head p) i) (block_inj b c (ap tail p) i)
  block_inj no_more (more e c) p = absurd (subst IsCons (sym p) tt)
  block_inj (more d b) no_more p = absurd (subst IsCons p tt)

-- the code, and that it tells declarations apart
abbrev pub coded_declaration : Coded Declaration
coded_declaration = record { code = code; inj = inj }
