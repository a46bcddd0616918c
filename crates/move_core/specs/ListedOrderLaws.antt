-- The order of the list of moves is a total one, and ties only what is the same.
use Rattle.std.proofs.Common.{◌≡◌, ℕ, List, [], ◌∷◌, Some, None, refl, ap, subst, arith}
use Rattle.std.specs.FinMap.{IsAntisymmetric, nat_cmp-IsAntisymmetric, slice_cmp-IsAntisymmetric}
use Rattle.std.specs.declared.cmp.Ordering.{Ordering}
use Rattle.std.specs.declared.cmp.Ordering.TheVariants.{Less, Equal, Greater}
use Rattle.std.specs.Cmp.{IsTotalOrder, nat_cmp_total, on_total, then_total}
use Rattle.std.specs.Cmp.Lexicographic.{lists_total, nat_list_cmp_total, options_total, slice_cmp}
use Rattle.std.specs.Option.{option_cmp}
use Rattle.std.specs.Ordering.{nat_cmp, ordering_then}
use Rattle.host_core.specs.Names.{name_cmp}
use Rattle.conf_doc.specs.Order.{pair_cmp, pairs_cmp}
use Rattle.conf_doc.specs.OrderLaws.{pairs_total}
use Rattle.conf_doc.specs.PartOrder.{entry_cmp, part_cmp, table_cmp, value_cmp}
use Rattle.conf_doc.specs.declared.configuration.Entry.{Entry}
use Rattle.conf_doc.specs.declared.configuration.Table.{Table}
use Rattle.conf_doc.specs.declared.configuration.Value.{Value}
use Rattle.conf_doc.specs.declared.configuration.Value.TheVariants.{Text, List as Texts}
use Rattle.conf_doc.specs.declared.parts.Part.{Part}
use Rattle.conf_doc.specs.declared.parts.Part.TheVariants as part
use Rattle.move_core.specs.ListedOrder.{action, listed_cmp, move_cmp, path_cmp, place_cmp, rank_cmp}
use Rattle.move_core.specs.Moves.{index, new_part, new_text, place}
use Rattle.move_core.specs.declared.moves.Move.{Move}
use Rattle.move_core.specs.declared.moves.Move.TheVariants.{Add, Remove, Replace, AddItem, RemoveItem}

then_equal : (o : Ordering) → ordering_then o Equal ≡ o
then_equal Less = refl
then_equal Equal = refl
then_equal Greater = refl

-- ---- values

abbrev value_kind : Value → ℕ
value_kind (Text s) = 0
value_kind (Texts ss) = 1

abbrev value_texts : Value → List (List ℕ)
value_texts (Text s) = s ∷ []
value_texts (Texts ss) = ss

abbrev value_by_kind : Value → Value → Ordering
value_by_kind v w =
    ordering_then (nat_cmp (value_kind v) (value_kind w))
    (slice_cmp name_cmp (value_texts v) (value_texts w))

value_kinds : (v w : Value) → value_by_kind v w ≡ value_cmp v w
value_kinds (Text s) (Text t) = then_equal (name_cmp s t)
value_kinds (Text s) (Texts ts) = refl
value_kinds (Texts ss) (Text t) = refl
value_kinds (Texts ss) (Texts ts) = refl

value_total : IsTotalOrder value_cmp
value_total =
    subst IsTotalOrder (λ i v w. value_kinds v w i)
    (then_total (on_total value_kind nat_cmp_total)
    (on_total value_texts (lists_total nat_list_cmp_total)))

-- ---- parts

abbrev part_kind : Part → ℕ
part_kind (part.Table t) = 0
part_kind (part.Entry e) = 1
part_kind (part.Value v) = 2

abbrev table_in : Part → Table
table_in (part.Table t) = t
table_in (part.Entry e) = []
table_in (part.Value v) = []

abbrev entry_in : Part → Entry
entry_in (part.Table t) = []
entry_in (part.Entry e) = e
entry_in (part.Value v) = []

abbrev value_in : Part → Value
value_in (part.Table t) = Texts []
value_in (part.Entry e) = Texts []
value_in (part.Value v) = v

abbrev part_by_kind : Part → Part → Ordering
part_by_kind p q =
    ordering_then (nat_cmp (part_kind p) (part_kind q))
    (ordering_then (table_cmp (table_in p) (table_in q))
    (ordering_then (entry_cmp (entry_in p) (entry_in q)) (value_cmp (value_in p) (value_in q))))

part_kinds : (p q : Part) → part_by_kind p q ≡ part_cmp p q
part_kinds (part.Table t) (part.Table u) = then_equal (table_cmp t u)
part_kinds (part.Table t) (part.Entry e) = refl
part_kinds (part.Table t) (part.Value v) = refl
part_kinds (part.Entry e) (part.Table t) = refl
part_kinds (part.Entry e) (part.Entry f) = then_equal (entry_cmp e f)
part_kinds (part.Entry e) (part.Value v) = refl
part_kinds (part.Value v) (part.Table t) = refl
part_kinds (part.Value v) (part.Entry e) = refl
part_kinds (part.Value v) (part.Value w) = refl

part_total : IsTotalOrder part_cmp
part_total =
    subst IsTotalOrder (λ i p q. part_kinds p q i)
    (then_total (on_total part_kind nat_cmp_total)
    (then_total (on_total table_in (pairs_total (pairs_total value_total)))
    (then_total (on_total entry_in (pairs_total value_total)) (on_total value_in value_total))))

-- ---- the list

move_total : IsTotalOrder move_cmp
move_total =
    then_total (on_total action nat_cmp_total)
    (then_total
    (then_total (on_total place (lists_total nat_list_cmp_total))
    (on_total index (options_total nat_cmp_total)))
    (then_total (on_total new_part (options_total part_total))
    (on_total new_text (options_total nat_list_cmp_total))))

rank_total : IsTotalOrder rank_cmp
rank_total =
    then_total (on_total (λ r. r.tier) nat_cmp_total)
    (then_total (on_total (λ r. r.depth) nat_cmp_total) (on_total (λ r. r.class) nat_cmp_total))

-- the order of the list is total
pub listed_total : IsTotalOrder listed_cmp
listed_total = then_total rank_total (on_total (λ r. r.mv) move_total)

-- ---- ties

both_equal : (o p : Ordering) → ordering_then o p ≡ Equal → (o ≡ Equal) × (p ≡ Equal)
both_equal Less p e = absurd cc
both_equal Equal p e = (refl, e)
both_equal Greater p e = absurd cc

name_same : IsAntisymmetric name_cmp
name_same = slice_cmp-IsAntisymmetric nat_cmp-IsAntisymmetric

pairs_same : {A : Type 0} {R : A → A → Ordering} → IsAntisymmetric R → IsAntisymmetric (pairs_cmp R)
pairs_same {A = A} {R = R} same = slice_cmp-IsAntisymmetric pair_same
  where
    pair_same : (p q : List ℕ × A) → pair_cmp R p q ≡ Equal → p ≡ q
    pair_same p q e =
        let both = both_equal (name_cmp p.0 q.0) (R p.1 q.1) e in
        λ i. (name_same p.0 q.0 both.0 i, same p.1 q.1 both.1 i)

value_same : IsAntisymmetric value_cmp
value_same (Text s) (Text t) e = ap Text (name_same s t e)
value_same (Text s) (Texts ts) e = absurd cc
value_same (Texts ss) (Text t) e = absurd cc
value_same (Texts ss) (Texts ts) e = ap Texts (slice_cmp-IsAntisymmetric name_same ss ts e)

part_same : IsAntisymmetric part_cmp
part_same (part.Table t) (part.Table u) e = ap part.Table (pairs_same (pairs_same value_same) t u e)
part_same (part.Table t) (part.Entry f) e = absurd cc
part_same (part.Table t) (part.Value v) e = absurd cc
part_same (part.Entry d) (part.Table t) e = absurd cc
part_same (part.Entry d) (part.Entry f) e = ap part.Entry (pairs_same value_same d f e)
part_same (part.Entry d) (part.Value v) e = absurd cc
part_same (part.Value v) (part.Table t) e = absurd cc
part_same (part.Value v) (part.Entry f) e = absurd cc
part_same (part.Value v) (part.Value w) e = ap part.Value (value_same v w e)

option_same :
    {A : Type 0} {R : A → A → Ordering} → IsAntisymmetric R → IsAntisymmetric (option_cmp R)
option_same same None None e = refl
option_same same None (Some p) e = absurd cc
option_same same (Some p) None e = absurd cc
option_same same (Some p) (Some q) e = ap Some (same p q e)

same_Some : {A : Type 0} (x y : A) → Some x ≡ Some y → x ≡ y
same_Some x y e = cc

-- moves that say the same in all respects
record SameMoves (m n : Move) : Type 0 where
  kind : action m ≡ action n
  at : place m ≡ place n
  item : index m ≡ index n
  part : new_part m ≡ new_part n
  text : new_text m ≡ new_text n

move_from : (m n : Move) → SameMoves m n → m ≡ n
move_from (Add p a) (Add q b) same = λ i. Add (same.at i) (same_Some a b same.part i)
move_from (Add p a) (Remove q) same = absurd (let e = same.part in cc)
move_from (Add p a) (Replace q b) same = absurd (let e = same.kind in omega arith)
move_from (Add p a) (AddItem q j t) same = absurd (let e = same.part in cc)
move_from (Add p a) (RemoveItem q j) same = absurd (let e = same.part in cc)
move_from (Remove p) (Add q b) same = absurd (let e = same.part in cc)
move_from (Remove p) (Remove q) same = ap Remove same.at
move_from (Remove p) (Replace q b) same = absurd (let e = same.part in cc)
move_from (Remove p) (AddItem q j t) same = absurd (let e = same.item in cc)
move_from (Remove p) (RemoveItem q j) same = absurd (let e = same.item in cc)
move_from (Replace p a) (Add q b) same = absurd (let e = same.kind in omega arith)
move_from (Replace p a) (Remove q) same = absurd (let e = same.part in cc)
move_from (Replace p a) (Replace q b) same =
    λ i. Replace (same.at i) (same_Some a b same.part i)
move_from (Replace p a) (AddItem q j t) same = absurd (let e = same.part in cc)
move_from (Replace p a) (RemoveItem q j) same = absurd (let e = same.part in cc)
move_from (AddItem p j t) (Add q b) same = absurd (let e = same.item in cc)
move_from (AddItem p j t) (Remove q) same = absurd (let e = same.item in cc)
move_from (AddItem p j t) (Replace q b) same = absurd (let e = same.item in cc)
move_from (AddItem p j t) (AddItem q l u) same =
    λ i. AddItem (same.at i) (same_Some j l same.item i) (same_Some t u same.text i)
move_from (AddItem p j t) (RemoveItem q l) same = absurd (let e = same.text in cc)
move_from (RemoveItem p j) (Add q b) same = absurd (let e = same.item in cc)
move_from (RemoveItem p j) (Remove q) same = absurd (let e = same.item in cc)
move_from (RemoveItem p j) (Replace q b) same = absurd (let e = same.item in cc)
move_from (RemoveItem p j) (AddItem q l u) same = absurd (let e = same.text in cc)
move_from (RemoveItem p j) (RemoveItem q l) same =
    λ i. RemoveItem (same.at i) (same_Some j l same.item i)

move_same : IsAntisymmetric move_cmp
move_same m n e =
    let first = both_equal (nat_cmp (action m) (action n)) _ e in
    let rest = both_equal (place_cmp m n) _ first.1 in
    let at = both_equal (path_cmp (place m) (place n)) _ rest.0 in
    let new = both_equal (option_cmp part_cmp (new_part m) (new_part n)) _ rest.1 in
    move_from m n
    (record {
      kind = nat_cmp-IsAntisymmetric _ _ first.0;
      at = slice_cmp-IsAntisymmetric name_same _ _ at.0;
      item = option_same nat_cmp-IsAntisymmetric _ _ at.1;
      part = option_same part_same _ _ new.0;
      text = option_same name_same _ _ new.1;
    })

-- it ties only what is the same
pub listed_same : IsAntisymmetric listed_cmp
listed_same r s e =
    let parts = both_equal (rank_cmp r s) _ e in
    let tier = both_equal (nat_cmp r.tier s.tier) _ parts.0 in
    let rest = both_equal (nat_cmp r.depth s.depth) _ tier.1 in
    λ i. record {
      tier = nat_cmp-IsAntisymmetric r.tier s.tier tier.0 i;
      depth = nat_cmp-IsAntisymmetric r.depth s.depth rest.0 i;
      class = nat_cmp-IsAntisymmetric r.class s.class rest.1 i;
      mv = move_same r.mv s.mv parts.1 i;
    }
