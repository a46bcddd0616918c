-- The key part that a path leads to, by a list with its number among the shapes of its table.
use Rattle.std.proofs.Common.{◌≡◌, ◌&&◌, ℕ, suc, Bool, true, false, cond, List, [], ◌∷◌, ◌++◌, Option, Some, None, codes, filter, option_map, option_and_then, refl, sym, ap, ◌∙◌}
use Rattle.std.specs.List.{find}
use Rattle.yang_text.specs.Declarations.{Declaration, block}
use Rattle.yang_scope.specs.Nodes.{is_shape, list_in, numbered_list}
use Rattle.yang_scope.specs.Paths.{Placed, is_named, child_named}
use Rattle.yang_scope.specs.Statements.{is_keyword, each_from}
use Rattle.yang_scope.proofs.Finding.{numbered-from}
use Rattle.yang_values.specs.Targets.{place_from, is_list_named, shape_of, part_in, part_below, target, target_below, target_in}

first_number : (b : Bool) (n : ℕ) (d : Declaration) (later : Option Placed) (o : Option ℕ) → o ≡ option_map (λ (l : Placed). l.0) later
    → cond b (Some n) o ≡ option_map (λ (l : Placed). l.0) (cond b (Some (n, d)) later)
first_number true n d later o same = refl
first_number false n d later o same = same

one_number : (name : List ℕ) (b : Bool) (n : ℕ) (d : Declaration) (rest : List Placed) (o : Option ℕ) → o ≡ option_map (λ (l : Placed). l.0) (find (λ (l : Placed). is_named name l.1) rest)
    → cond (b && is_named name d) (Some n) o ≡ option_map (λ (l : Placed). l.0) (find (λ (l : Placed). is_named name l.1) (cond b ((n, d) ∷ []) [] ++ rest))
one_number name true n d rest o same = first_number (is_named name d) n d (find (λ (l : Placed). is_named name l.1) rest) o same
one_number name false n d rest o same = same

-- the number of the first list of a name
number_from : (name : List ℕ) (ds : List Declaration) (n : ℕ)
    → place_from (is_list_named name) n ds ≡ option_map (λ (l : Placed). l.0) (find (λ (l : Placed). is_named name l.1) (each_from list_in n ds))
number_from name [] n = refl
number_from name (d ∷ ds) n = one_number name (is_keyword (codes "list") d) n d (each_from list_in (suc n) ds) (place_from (is_list_named name) (suc n) ds) (number_from name ds (suc n))

by_list : (table leaf : List ℕ) (l : Option Placed) → target table (option_map (λ (x : Placed). x.0) l) (option_and_then (part_in leaf) (option_map (λ (x : Placed). x.1) l)) ≡ target_in table leaf l
by_list table leaf None = refl
by_list table leaf (Some l) = refl

in_table : (table list leaf : List ℕ) (t : Declaration) → target table (shape_of list t) (part_below list leaf t) ≡ target_in table leaf (numbered_list list t)
in_table table list leaf t =
    ap (λ n. target table n (part_below list leaf t)) (number_from list (filter is_shape (block t)) 0)
    ∙ ap (λ d. target table (option_map (λ (x : Placed). x.0) (numbered_list list t)) (option_and_then (part_in leaf) d)) (sym (numbered-from list (block t) 0))
    ∙ by_list table leaf (numbered_list list t)

in_container : (table list leaf : List ℕ) (o : Option Declaration) → option_and_then (λ t. target table (shape_of list t) (part_below list leaf t)) o ≡ target_in table leaf (option_and_then (numbered_list list) o)
in_container table list leaf None = refl
in_container table list leaf (Some t) = in_table table list leaf t

-- the same of a container that may be there
pub target_by_list : (table list leaf : List ℕ) (o : Option Placed)
    → target_in table leaf (option_and_then (numbered_list list) (option_and_then (λ (c : Placed). child_named (codes "container") table c.1) o))
    ≡ option_and_then (λ (c : Placed). target_below table list leaf c.1) o
target_by_list table list leaf None = refl
target_by_list table list leaf (Some c) = sym (in_container table list leaf (child_named (codes "container") table c.1))
