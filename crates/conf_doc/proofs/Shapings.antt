-- A walk that shapes the items or the members of a document.
use Rattle.std.proofs.Common.{◌≡◌, ℕ, ◌+◌, true, not, ◌==◌, List, [], ◌∷◌, ◌++◌, length, map, Result, Ok, Err, decimal, suc, ne_eqb, suc-ne-zero, refl, sym, ap, ◌∙◌, arith}
use Rattle.std.proofs.lemmas.Bool.{and_from}
use Rattle.host_core.specs.Answers.{FailsAs}
use Rattle.conf_doc.proofs.Names.{is_sorted-names}
use Rattle.conf_doc.specs.Document.{Document, Items, no_items, item, Members, no_members, member, members_of}
use Rattle.conf_doc.specs.Pairs.{IsRising, AreNamed}
use Rattle.host_core.specs.Answers.{map_ok, both}
use Rattle.conf_doc.specs.Reading.{Way, below}
use Rattle.conf_doc.specs.WellFormed.{AreTexts, IsShaped}
use Rattle.conf_doc.specs.Shaping.{parts, named, texts_from, text_of}
use Rattle.conf_doc.specs.Stops.{located, stop_place}
use Rattle.conf_doc.specs.declared.stops.Stop.{Stop}
use Rattle.conf_doc.proofs.Walks.{fails, both-ok, length-more}

module _ {A : Type 0} where
  abbrev pub before : List A → Result (List A) Way → Result (List A) Way
  before [] r = r
  before (x ∷ xs) r = map_ok (λ rest. x ∷ rest) (before xs r)

  pub before-more : (xs : List A) (x : A) (r : Result (List A) Way) → before xs (map_ok (λ rest. x ∷ rest) r) ≡ before (xs ++ x ∷ []) r
  before-more [] x r = refl
  before-more (y ∷ xs) x r = ap (map_ok (λ rest. y ∷ rest)) (before-more xs x r)

  pub before-all : (xs : List A) → before xs (Ok []) ≡ Ok xs
  before-all [] = refl
  before-all (x ∷ xs) = ap (map_ok (λ rest. x ∷ rest)) (before-all xs)

  pub before-fault : (xs : List A) (way : Way) → before xs (Err way) ≡ Err way
  before-fault [] way = refl
  before-fault (x ∷ xs) way = ap (map_ok (λ rest. x ∷ rest)) (before-fault xs way)

-- a walk over items has found the texts ts, and `now` is left
pub record TextsWalk (all now : Items) (ts : List (List ℕ)) : Type 0 where
  pub same : texts_from 0 all ≡ before ts (texts_from (length ts) now)

module _ (ts : List (List ℕ)) (all now left : Items) (d : Document) (i : ℕ) (walk : TextsWalk all now ts) where
  here : now ≡ item d left → i ≡ length ts → texts_from 0 all ≡ before ts (both (λ t us. t ∷ us) (below (decimal i) (text_of d)) (texts_from (i + 1) left))
  here is at = walk.same ∙ ap (λ n. before ts (texts_from n now)) (sym at) ∙ ap (λ js. before ts (texts_from i js)) is

  pub text_fails : (e : Stop) → now ≡ item d left → i ≡ length ts → FailsAs (stop_place e) (located (below (decimal i) (text_of d))) → FailsAs (stop_place e) (located (texts_from 0 all))
  text_fails e is at stops = fails e (below (decimal i) (text_of d)) (texts_from 0 all) (λ way at_fault. here is at ∙ ap (λ r. before ts (both (λ t us. t ∷ us) r (texts_from (i + 1) left))) at_fault ∙ before-fault ts way) stops

  pub text_found : (t : List ℕ) (new : List (List ℕ)) → now ≡ item d left → i ≡ length ts → located (below (decimal i) (text_of d)) ≡ Ok t → new ≡ ts ++ t ∷ [] → TextsWalk all left new
  text_found t new is at finds pushed =
      let longer : i + 1 ≡ length new = omega (arith, ap length pushed, length-more ts t) in record {
        same =
            here is at ∙ ap (before ts) (both-ok (λ t us. t ∷ us) t (below (decimal i) (text_of d)) (texts_from (i + 1) left) finds)
            ∙ before-more ts t (texts_from (i + 1) left)
            ∙ ap (λ es. before es (texts_from (i + 1) left)) (sym pushed) ∙ ap (λ n. before new (texts_from n left)) longer;
      }

pub texts_end : (ts : List (List ℕ)) (all now : Items) → TextsWalk all now ts → now ≡ no_items → located (texts_from 0 all) ≡ Ok ts
texts_end ts all now walk is = ap located (walk.same ∙ ap (λ js. before ts (texts_from (length ts) js)) is ∙ before-all ts)

-- a walk over members has found the parts ps, and `now` is left
pub record PartsWalk {A : Type 0} (f : Document → Result A Way) (all now : Members) (ps : List (List ℕ × A)) : Type 0 where
  pub same : parts f all ≡ before ps (parts f now)

module _ {A : Type 0} (f : Document → Result A Way) (ps : List (List ℕ × A)) (all now left : Members) (k : List ℕ) (d : Document) (walk : PartsWalk f all now ps) where
  here_named : now ≡ member k d left → parts f all ≡ before ps (both (λ a rest. (k, a) ∷ rest) (below k (named k (f d))) (parts f left))
  here_named is = walk.same ∙ ap (λ js. before ps (parts f js)) is

  pub part_fails : (e : Stop) → now ≡ member k d left → FailsAs (stop_place e) (located (below k (named k (f d)))) → FailsAs (stop_place e) (located (parts f all))
  part_fails e is stops = fails e (below k (named k (f d))) (parts f all) (λ way at_fault. here_named is ∙ ap (λ r. before ps (both (λ a rest. (k, a) ∷ rest) r (parts f left))) at_fault ∙ before-fault ps way) stops

  pub part_found : (a : A) (new : List (List ℕ × A)) → now ≡ member k d left → located (below k (named k (f d))) ≡ Ok a → new ≡ ps ++ (k, a) ∷ [] → PartsWalk f all left new
  part_found a new is finds pushed = record {
    same =
        here_named is ∙ ap (before ps) (both-ok (λ a rest. (k, a) ∷ rest) a (below k (named k (f d))) (parts f left) finds)
        ∙ before-more ps (k, a) (parts f left)
        ∙ ap (λ es. before es (parts f left)) (sym pushed);
  }

pub parts_end : {A : Type 0} (f : Document → Result A Way) (ps : List (List ℕ × A)) (all now : Members) → PartsWalk f all now ps → now ≡ no_members → parts f all ≡ Ok ps
parts_end f ps all now walk is = walk.same ∙ ap (λ js. before ps (parts f js)) is ∙ before-all ps

-- where both are found, each is
both_found : {A B C : Type 0} (f : A → B → C) (r : Result A Way) (s : Result B Way) (c : C) → both f r s ≡ Ok c → (a : A) × (b : B) × (r ≡ Ok a) × (s ≡ Ok b) × (c ≡ f a b)
both_found f (Ok a) (Ok b) c e = (a, b, refl, refl, cc)
both_found f (Ok a) (Err way) c e = cc
both_found f (Err way) s c e = cc

not_empty : {A : Type 0} (k : List ℕ) (r : Result A Way) (a : A) → below k (named k r) ≡ Ok a → not (length k == 0) ≡ true
not_empty [] r a e = cc
not_empty (b ∷ bs) r a e = ap not (ne_eqb (suc (length bs)) 0 (suc-ne-zero (length bs)))

module _ {A : Type 0} (f : Document → Result A Way) where
  pub parts_named : (ms : Members) (ps : List (List ℕ × A)) → parts f ms ≡ Ok ps → AreNamed ps
  parts_named no_members ps e = let none : ps ≡ [] = cc in rw none refl
  parts_named (member k d ms) ps e =
      let both = both_found (λ a rest. (k, a) ∷ rest) (below k (named k (f d))) (parts f ms) ps e in
      rw both.4 (and_from _ _ (not_empty k (f d) both.0 both.2) (parts_named ms both.1 both.3))

  pub parts_names : (ms : List (List ℕ × Document)) (ps : List (List ℕ × A)) → parts f (members_of ms) ≡ Ok ps → map (λ p. p.0) ps ≡ map (λ p. p.0) ms
  parts_names [] ps e = let none : ps ≡ [] = cc in rw none refl
  parts_names (m ∷ ms) ps e =
      let both = both_found (λ a rest. (m.0, a) ∷ rest) (below m.0 (named m.0 (f m.1))) (parts f (members_of ms)) ps e in
      rw both.4 (ap (λ ns. m.0 ∷ ns) (parts_names ms both.1 both.3))

-- what was shaped keeps the rules of a configuration
pub parts_shaped : {A : Type 0} (f : Document → Result A Way) (ms : List (List ℕ × Document)) (ps : List (List ℕ × A)) → IsRising ms → AreTexts (map (λ p. p.0) ps) → parts f (members_of ms) ≡ Ok ps → IsShaped ps
parts_shaped f ms ps rising texts e = record { rising = is_sorted-names ps ms (parts_names f ms ps e) ∙ rising; named = parts_named f (members_of ms) ps e; texts = texts }
