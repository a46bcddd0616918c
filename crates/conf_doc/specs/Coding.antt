-- A document as a tree of numbers, by which a proof tells documents apart.
use Rattle.std.specs.Prelude.{◌≡◌, ℕ, List, refl}
use Rattle.std.specs.Coded.{Coded, coded_ℕ, coded_list}
use Rattle.std.proofs.Common.{sym, ap, subst, arith}
use base.Stored.{Gv, gnil, gnum, gcons, num}
use native.Mathlib.Nat.{suc-ne-zero}
use Rattle.conf_doc.specs.Document.{Document, text, list, object, Items, no_items, item, Members, no_members, member}

abbrev head : Gv → Gv
head gnil = gnil
head (gnum n) = gnil
head (gcons a b) = a

abbrev tail : Gv → Gv
tail gnil = gnil
tail (gnum n) = gnil
tail (gcons a b) = b

abbrev IsCons : Gv → Type 0
IsCons gnil = ⊥
IsCons (gnum n) = ⊥
IsCons (gcons a b) = Unit {0}

abbrev name_code : List ℕ → Gv
name_code = (coded_list coded_ℕ).code

abbrev mutual
  -- a document as its kind and what it holds
  pub code : Document → Gv
  code (text s) = gcons (gnum 0) (name_code s)
  code (list ds) = gcons (gnum 1) (items_code ds)
  code (object ms) = gcons (gnum 2) (members_code ms)

  -- items one after another
  pub items_code : Items → Gv
  items_code no_items = gnil
  items_code (item d ds) = gcons (code d) (items_code ds)

  -- members one after another, each a name and a document
  pub members_code : Members → Gv
  members_code no_members = gnil
  members_code (member k d ms) = gcons (gcons (name_code k) (code d)) (members_code ms)

name_inj : (x y : List ℕ) → name_code x ≡ name_code y → x ≡ y
name_inj = (coded_list coded_ℕ).inj

mutual
  -- documents of one code are one document
  pub inj : (x y : Document) → code x ≡ code y → x ≡ y
  inj (text s) (text t) p = ap text (name_inj s t (ap tail p))
  inj (list ds) (list es) p = ap list (items_inj ds es (ap tail p))
  inj (object ms) (object ns) p = ap object (members_inj ms ns (ap tail p))
  inj (text s) (list es) p = absurd (suc-ne-zero 0 (sym (ap (λ g. num (head g)) p)))
  inj (list ds) (text t) p = absurd (suc-ne-zero 0 (ap (λ g. num (head g)) p))
  inj (text s) (object ns) p = absurd (suc-ne-zero 1 (sym (ap (λ g. num (head g)) p)))
  inj (object ms) (text t) p = absurd (suc-ne-zero 1 (ap (λ g. num (head g)) p))
  inj (list ds) (object ns) p = absurd (omega (arith, ap (λ g. num (head g)) p))
  inj (object ms) (list es) p = absurd (omega (arith, ap (λ g. num (head g)) p))

  -- the same of items
  pub items_inj : (x y : Items) → items_code x ≡ items_code y → x ≡ y
  items_inj no_items no_items p = refl
  items_inj (item d ds) (item e es) p =
      λ i. item (inj d e (ap head p) i) (items_inj ds es (ap tail p) i)
  items_inj no_items (item e es) p = absurd (subst IsCons (sym p) tt)
  items_inj (item d ds) no_items p = absurd (subst IsCons p tt)

  -- the same of members
  pub members_inj : (x y : Members) → members_code x ≡ members_code y → x ≡ y
  members_inj no_members no_members p = refl
  members_inj (member k d ms) (member l e ns) p =
      λ i. member (name_inj k l (ap (λ g. head (head g)) p) i)
      (inj d e (ap (λ g. tail (head g)) p) i) (members_inj ms ns (ap tail p) i)
  members_inj no_members (member l e ns) p = absurd (subst IsCons (sym p) tt)
  members_inj (member k d ms) no_members p = absurd (subst IsCons p tt)

-- the code, with its proof
abbrev pub coded_document : Coded Document
coded_document = record { code = code; inj = inj }
