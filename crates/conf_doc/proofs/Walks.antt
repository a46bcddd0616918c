-- A walk that has come to some item or member: what it found so far, before what it will find.
use Rattle.std.proofs.Common.{◌≡◌, ℕ, ◌+◌, List, [], ◌∷◌, ◌++◌, length, Result, Ok, Err, decimal, refl, sym, ap, ◌∙◌, length-append, arith}
use Rattle.host_core.specs.Answers.{FailsAs}
use Rattle.serde_json.specs.Data as values
use Rattle.conf_doc.specs.Pointer.{pointer, escaped}
use Rattle.conf_doc.specs.Document.{Document, Items, no_items, item, Members, no_members, member, items_of, members_of}
use Rattle.host_core.specs.Answers.{map_ok, both}
use Rattle.conf_doc.specs.Reading.{Way, below, document_of, items_from, members_from}
use Rattle.conf_doc.specs.Stops.{located, stop_place, IsBelow}
use Rattle.conf_doc.specs.declared.stops.Stop.{Stop}
use Rattle.conf_doc.specs.declared.stops.Stop.TheVariants.{At, Memory}

-- a stop of a part is one of the whole
pub fails : {A B : Type 0} (e : Stop) (part : Result A Way) (whole : Result B Way) → ((way : Way) → part ≡ Err way → whole ≡ Err way) → FailsAs (stop_place e) (located part) → FailsAs (stop_place e) (located whole)
fails (At place) (Ok a) whole h f = cc
fails (At place) (Err way) whole h f = let same : pointer way ≡ place = cc in ap located (h way refl) ∙ ap Err same
fails Memory part whole h f = tt

pub fails_below : {A : Type 0} (token : List ℕ) (old new : Stop) (part : Result A Way) → IsBelow token old new → FailsAs (stop_place old) (located part) → FailsAs (stop_place new) (located (below token part))
fails_below token (At place) (At deeper) (Ok a) under f = cc
fails_below token (At place) (At deeper) (Err way) under f = let same : pointer way ≡ place = cc in ap (λ p. Err (47 ∷ (escaped token ++ p))) same ∙ ap Err (sym under)
fails_below token Memory (At deeper) part under f = absurd under
fails_below token (At place) Memory part under f = tt
fails_below token Memory Memory part under f = tt

pub found : {A : Type 0} (a : A) (part : Result A Way) → located part ≡ Ok a → part ≡ Ok a
found a (Ok b) e = cc
found a (Err way) e = cc

-- documents before those of an answer
abbrev pub items_before : List Document → Result Items Way → Result Items Way
items_before [] r = r
items_before (d ∷ ds) r = map_ok (item d) (items_before ds r)

abbrev pub members_before : List (List ℕ × Document) → Result Members Way → Result Members Way
members_before [] r = r
members_before (m ∷ ms) r = map_ok (member m.0 m.1) (members_before ms r)

pub items_before-more : (ds : List Document) (d : Document) (r : Result Items Way) → items_before ds (map_ok (item d) r) ≡ items_before (ds ++ d ∷ []) r
items_before-more [] d r = refl
items_before-more (e ∷ ds) d r = ap (map_ok (item e)) (items_before-more ds d r)

pub members_before-more : (ms : List (List ℕ × Document)) (k : List ℕ) (d : Document) (r : Result Members Way) → members_before ms (map_ok (member k d) r) ≡ members_before (ms ++ (k, d) ∷ []) r
members_before-more [] k d r = refl
members_before-more (m ∷ ms) k d r = ap (map_ok (member m.0 m.1)) (members_before-more ms k d r)

pub items_before-all : (ds : List Document) → items_before ds (Ok no_items) ≡ Ok (items_of ds)
items_before-all [] = refl
items_before-all (d ∷ ds) = ap (map_ok (item d)) (items_before-all ds)

pub members_before-all : (ms : List (List ℕ × Document)) → members_before ms (Ok no_members) ≡ Ok (members_of ms)
members_before-all [] = refl
members_before-all (m ∷ ms) = ap (map_ok (member m.0 m.1)) (members_before-all ms)

pub items_before-fault : (ds : List Document) (way : Way) → items_before ds (Err way) ≡ Err way
items_before-fault [] way = refl
items_before-fault (d ∷ ds) way = ap (map_ok (item d)) (items_before-fault ds way)

pub members_before-fault : (ms : List (List ℕ × Document)) (way : Way) → members_before ms (Err way) ≡ Err way
members_before-fault [] way = refl
members_before-fault (m ∷ ms) way = ap (map_ok (member m.0 m.1)) (members_before-fault ms way)

pub both-ok : {A B C : Type 0} (f : A → B → C) (a : A) (first : Result A Way) (r : Result B Way) → located first ≡ Ok a → both f first r ≡ map_ok (f a) r
both-ok f a first (Ok b) e = ap (λ p. both f p (Ok b)) (found a first e)
both-ok f a first (Err way) e = ap (λ p. both f p (Err way)) (found a first e)

pub length-more : {A : Type 0} (xs : List A) (x : A) → length (xs ++ x ∷ []) ≡ length xs + 1
length-more xs x = omega (arith, length-append xs (x ∷ []))

-- a walk over JSON items has found the documents ds, and `now` is left
pub record ItemsWalk (all now : values.Items) (ds : List Document) : Type 0 where
  pub same : items_from 0 all ≡ items_before ds (items_from (length ds) now)

module _ (ds : List Document) (all now left : values.Items) (d : values.Data) (i : ℕ) (walk : ItemsWalk all now ds) where
  so_far : items_from 0 all ≡ items_before ds (items_from (length ds) now)
  so_far = walk.same

  here : now ≡ values.item d left → i ≡ length ds → items_from 0 all ≡ items_before ds (both item (below (decimal i) (document_of d)) (items_from (i + 1) left))
  here is at = so_far ∙ ap (λ n. items_before ds (items_from n now)) (sym at) ∙ ap (λ js. items_before ds (items_from i js)) is

  pub item_fails : (e : Stop) → now ≡ values.item d left → i ≡ length ds → FailsAs (stop_place e) (located (below (decimal i) (document_of d))) → FailsAs (stop_place e) (located (items_from 0 all))
  item_fails e is at stops = fails e (below (decimal i) (document_of d)) (items_from 0 all) (λ way at_fault. here is at ∙ ap (λ r. items_before ds (both item r (items_from (i + 1) left))) at_fault ∙ items_before-fault ds way) stops

  pub item_found : (t : Document) (new : List Document) → now ≡ values.item d left → i ≡ length ds → located (below (decimal i) (document_of d)) ≡ Ok t → new ≡ ds ++ t ∷ [] → ItemsWalk all left new
  item_found t new is at finds pushed =
      let longer : i + 1 ≡ length new = omega (arith, ap length pushed, length-more ds t) in record {
        same =
            here is at ∙ ap (items_before ds) (both-ok item t (below (decimal i) (document_of d)) (items_from (i + 1) left) finds)
            ∙ items_before-more ds t (items_from (i + 1) left)
            ∙ ap (λ es. items_before es (items_from (i + 1) left)) (sym pushed) ∙ ap (λ n. items_before new (items_from n left)) longer;
      }

pub items_end : (ds : List Document) (all now : values.Items) → ItemsWalk all now ds → now ≡ values.no_items → located (items_from 0 all) ≡ Ok (items_of ds)
items_end ds all now walk is = ap located (walk.same ∙ ap (λ js. items_before ds (items_from (length ds) js)) is ∙ items_before-all ds)

-- a walk over JSON members has found the documents ms, and `now` is left
pub record MembersWalk (all now : values.Members) (ms : List (List ℕ × Document)) : Type 0 where
  pub same : members_from all ≡ members_before ms (members_from now)

module _ (ms : List (List ℕ × Document)) (all now left : values.Members) (k : List ℕ) (d : values.Data) (walk : MembersWalk all now ms) where
  found_so_far : members_from all ≡ members_before ms (members_from now)
  found_so_far = walk.same

  here_named : now ≡ values.member k d left → members_from all ≡ members_before ms (both (member k) (below k (document_of d)) (members_from left))
  here_named is = found_so_far ∙ ap (λ js. members_before ms (members_from js)) is

  pub member_fails : (e : Stop) → now ≡ values.member k d left → FailsAs (stop_place e) (located (below k (document_of d))) → FailsAs (stop_place e) (located (members_from all))
  member_fails e is stops = fails e (below k (document_of d)) (members_from all) (λ way at_fault. here_named is ∙ ap (λ r. members_before ms (both (member k) r (members_from left))) at_fault ∙ members_before-fault ms way) stops

  pub member_found : (t : Document) (new : List (List ℕ × Document)) → now ≡ values.member k d left → located (below k (document_of d)) ≡ Ok t → new ≡ ms ++ (k, t) ∷ [] → MembersWalk all left new
  member_found t new is finds pushed = record {
    same =
        here_named is ∙ ap (members_before ms) (both-ok (member k) t (below k (document_of d)) (members_from left) finds)
        ∙ members_before-more ms k t (members_from left)
        ∙ ap (λ es. members_before es (members_from left)) (sym pushed);
  }

pub members_end : (ms : List (List ℕ × Document)) (all now : values.Members) → MembersWalk all now ms → now ≡ values.no_members → located (members_from all) ≡ Ok (members_of ms)
members_end ms all now walk is = ap located (walk.same ∙ ap (λ js. members_before ms (members_from js)) is ∙ members_before-all ms)
