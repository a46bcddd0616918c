-- A place that comes after those of a list isn't in it.
use Rattle.std.proofs.Common.{◌≡◌, ◌||◌, ◌&&◌, List, [], ◌∷◌, ◌++◌, Bool, true, false, cond, not, filter, refl, sym, ap, ◌∙◌, subst}
use Rattle.std.proofs.lemmas.Bool.{and_parts, false_from_ne_true, not-true}
use Rattle.std.proofs.lemmas.List.Folds.{list_all-append}
use Rattle.std.specs.Cmp.{IsTotalOrder, nat_cmp_total, on_total, then_total, tied_itself, upto}
use Rattle.std.specs.Cmp.Lexicographic.{nat_list_cmp_total, on_texts, options_total}
use Rattle.std.specs.List.{list_any}
use Rattle.std.specs.Ordering.{is_gt, ordering_reverse}
use Rattle.std.specs.declared.cmp.Ordering.{Ordering}
use Rattle.std.specs.declared.cmp.Ordering.TheVariants.{Less, Equal, Greater}
use Rattle.ref_index.specs.Places.{are_up_to, is_place, is_up_to, place_cmp, with_place, without_place}
use Rattle.ref_index.specs.declared.places.Place.{Place}
use Rattle.ref_index.proofs.Lists.{places_decide}

place_total : IsTotalOrder place_cmp
place_total =
    then_total (then_total (then_total (on_texts (λ (p : Place). p.table)) (on_texts (λ (p : Place). p.key)))
    (on_total (λ (p : Place). p.field) (options_total nat_list_cmp_total))) (on_total (λ (p : Place). p.item) nat_cmp_total)

abbrev IsAfter : Place → Place → Type 0
IsAfter bound p = is_gt (place_cmp p bound) ≡ true

turned : (o : Ordering) → is_gt o ≡ true → is_gt (ordering_reverse o) ≡ false
turned Less e = cc
turned Equal e = refl
turned Greater e = refl

up_to_itself : (p : Place) → is_up_to p p ≡ true
up_to_itself p = ap (λ o. not (is_gt o)) (tied_itself place_total p)

-- what is up to a place is up to one that comes after that
up_to_later : (bound p q : Place) → IsAfter bound p → is_up_to bound q ≡ true → is_up_to p q ≡ true
up_to_later bound p q after low =
    let before : is_gt (place_cmp bound p) ≡ false = ap is_gt (place_total.antisymm bound p) ∙ turned (place_cmp p bound) after in
    ap not (upto place_total q bound p (not-true (is_gt (place_cmp q bound)) low) before)

all_up_to_later : (bound p : Place) (qs : List Place) → IsAfter bound p → are_up_to bound qs ≡ true → are_up_to p qs ≡ true
all_up_to_later bound p [] after low = refl
all_up_to_later bound p (q ∷ qs) after low =
    let parts = and_parts (is_up_to bound q) (are_up_to bound qs) low in
    let here = up_to_later bound p q after parts.0 in
    let rest = all_up_to_later bound p qs after parts.1 in
    λ i. here i && rest i

-- a place after the bound is none of those up to it
other_place : (bound p q : Place) → IsAfter bound p → is_up_to bound q ≡ true → is_place q p ≡ false
other_place bound p q after low =
    false_from_ne_true (is_place q p) (λ e.
    let same : is_up_to bound p ≡ true = subst (λ (x : Place). is_up_to bound x ≡ true) ((places_decide q p).0 e) low in
    let no : true ≡ false = sym same ∙ ap not after in
    absurd (cc))

none_there : (bound p : Place) (qs : List Place) → IsAfter bound p → are_up_to bound qs ≡ true → list_any (λ q. is_place q p) qs ≡ false
none_there bound p [] after low = refl
none_there bound p (q ∷ qs) after low =
    let parts = and_parts (is_up_to bound q) (are_up_to bound qs) low in
    ap (λ b. b || list_any (λ r. is_place r p) qs) (other_place bound p q after parts.0) ∙ none_there bound p qs after parts.1

-- so it is put at the end
pub put_after : (bound p : Place) (qs : List Place) → IsAfter bound p → are_up_to bound qs ≡ true → with_place p qs ≡ qs ++ p ∷ []
put_after bound p qs after low = ap (λ b. cond b qs (qs ++ p ∷ [])) (none_there bound p qs after low)

bounded_push : (bound p : Place) (qs : List Place) → are_up_to bound qs ≡ true → is_up_to bound p ≡ true → are_up_to bound (qs ++ p ∷ []) ≡ true
bounded_push bound p qs all here = list_all-append (is_up_to bound) qs (p ∷ []) ∙ (λ i. all i && (here i && true))

-- it is the bound then
pub bounded_after : (bound p : Place) (qs : List Place) → IsAfter bound p → are_up_to bound qs ≡ true → are_up_to p (qs ++ p ∷ []) ≡ true
bounded_after bound p qs after low = bounded_push p p qs (all_up_to_later bound p qs after low) (up_to_itself p)

kept_up_to : (bound : Place) (keep : Place → Bool) (qs : List Place) → are_up_to bound qs ≡ true → are_up_to bound (filter keep qs) ≡ true
kept_up_to bound keep [] all = refl
kept_up_to bound keep (q ∷ qs) all =
    let parts = and_parts (is_up_to bound q) (are_up_to bound qs) all in
    let rest = kept_up_to bound keep qs parts.1 in
    elim (keep q) as (λ b. are_up_to bound (cond b (q ∷ filter keep qs) (filter keep qs)) ≡ true) [ true ↦ λ i. parts.0 i && rest i | false ↦ rest ]

-- a place that is taken out leaves the bound
pub bounded_without : (bound p : Place) (qs : List Place) → are_up_to bound qs ≡ true → are_up_to bound (without_place p qs) ≡ true
bounded_without bound p qs all = kept_up_to bound (λ q. not (is_place q p)) qs all

-- one place is a bound of itself
pub bounded_one : (p : Place) → are_up_to p (p ∷ []) ≡ true
bounded_one p = λ i. up_to_itself p i && true
