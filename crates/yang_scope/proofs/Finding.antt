-- Statements found among those of a keyword, and containers and lists found by their names.
use Rattle.std.proofs.Common.{◌≡◌, ◌<◌, ◌+◌, ◌&&◌, ◌||◌, ℕ, suc, Bool, true, false, cond, List, [], ◌∷◌, ◌++◌, Option, Some, None, Bor, codes, slice_get, map, option_map, option_and_then, take, length, get_or, refl, sym, ap, ◌∙◌}
use Rattle.std.specs.List.{filter, find}
use Rattle.std.specs.Option.{option_copied, option_map_or, option_or}
use Rattle.std.specs.Slice.{IsItemAt}
use Rattle.std.proofs.lemmas.Option.{slice_get_past, slice_get-get_or}
use Rattle.std.proofs.lemmas.List.{take_more, map-append}
use Rattle.std.proofs.lemmas.List.Elements.{filter-append}
use Rattle.std.proofs.lemmas.List.Folds.{find-append}
use Rattle.yang_text.specs.Declarations.{Declaration, block}
use Rattle.yang_scope.specs.Modules.{Module}
use Rattle.yang_scope.specs.Nodes.{is_shape, list_in, numbered_list, containers_in, containers_of}
use Rattle.yang_scope.specs.Paths.{Placed, is_named, child_named, container_named, first_given}
use Rattle.yang_scope.specs.Statements.{is_keyword, children_of, each_from}
use Rattle.yang_scope.proofs.Blocks.{find-map}

pub filter-next : {X Y : Type 0} (p : Y → Bool) (v : X → Y) (xs : List X) (i : ℕ) (x : X) → i < length xs → get_or xs i x ≡ x
    → filter p (map v (take (i + 1) xs)) ≡ filter p (map v (take i xs)) ++ filter p (v x ∷ [])
filter-next p v xs i x within is =
    ap (λ ys. filter p (map v ys)) (take_more xs i x within)
    ∙ ap (filter p) (map-append v (take i xs) (get_or xs i x ∷ []))
    ∙ filter-append p (map v (take i xs)) (v (get_or xs i x) ∷ [])
    ∙ ap (λ y. filter p (map v (take i xs)) ++ filter p (v y ∷ [])) is

-- the same of what a function makes of them
pub map-filter-next : {X Y Z : Type 0} (f : Y → Z) (p : Y → Bool) (v : X → Y) (xs : List X) (i : ℕ) (x : X) → i < length xs → get_or xs i x ≡ x
    → map f (filter p (map v (take (i + 1) xs))) ≡ map f (filter p (map v (take i xs))) ++ map f (filter p (v x ∷ []))
map-filter-next f p v xs i x within is =
    ap (map f) (filter-next p v xs i x within is) ∙ map-append f (filter p (map v (take i xs))) (filter p (v x ∷ []))

-- the element that is lent at an index
pub copied-item : {X : Type 0} (xs : List X) (i : ℕ) (r : Option (Bor X)) → IsItemAt xs i r → option_copied r ≡ slice_get xs i
copied-item xs i None is = sym (slice_get_past xs i is.3)
copied-item xs i (Some x) is = ap Some is.1 ∙ sym (slice_get-get_or xs i x.now is.3.0)

find-filter : {X : Type 0} (p q : X → Bool) (xs : List X) → find q (filter p xs) ≡ find (λ x. p x && q x) xs
find-filter p q [] = refl
find-filter p q (x ∷ xs) = by (p x) (find-filter p q xs)
  where
    by : (b : Bool) → find q (filter p xs) ≡ find (λ y. p y && q y) xs
        → find q (cond b (x ∷ filter p xs) (filter p xs)) ≡ cond (b && q x) (Some x) (find (λ y. p y && q y) xs)
    by true same = ap (cond (q x) (Some x)) same
    by false same = same

-- the value of what is lent
pub now-copied : {X : Type 0} (o : Option (Bor X)) → option_map (λ (b : Bor X). b.now) o ≡ option_copied o
now-copied None = refl
now-copied (Some x) = refl

module _ (name : List ℕ) where
  -- a statement of a name among those of a keyword
  pub named-child : (word : List ℕ) (d : Declaration) → find (is_named name) (children_of word d) ≡ child_named word name d
  named-child word d = find-filter (is_keyword word) (is_named name) (block d)

  or_given : (o r : Option Placed) → option_or o r ≡ option_map_or Some o r
  or_given None r = refl
  or_given (Some p) r = refl

  -- the first container of a name
  pub named-container : (number : ℕ) (modules : List Module)
      → find (λ (p : Placed). is_named name p.1) (each_from containers_in number modules)
      ≡ first_given (λ n m. option_map (λ d. (n, d)) (child_named (codes "container") name m.statement)) number modules
  named-container number [] = refl
  named-container number (m ∷ modules) =
      let test : Placed → Bool = λ p. is_named name p.1 in
      let at : Declaration → Placed = λ d. (number, d) in
      let rest = first_given (λ n m. option_map (λ d. (n, d)) (child_named (codes "container") name m.statement)) (suc number) modules in
      find-append test (containers_in number m) (each_from containers_in (suc number) modules)
      ∙ ap (option_or (find test (containers_in number m))) (named-container (suc number) modules)
      ∙ ap (λ o. option_or o rest) (find-map at test (children_of (codes "container") m.statement) ∙ ap (option_map at) (named-child (codes "container") m.statement))
      ∙ or_given (option_map at (child_named (codes "container") name m.statement)) rest

  pub container-found : (modules : List Module) (containers : List Placed) → containers ≡ containers_of modules
      → (o : Option Placed) → o ≡ find (λ (p : Placed). is_named name p.1) containers → o ≡ container_named modules name
  container-found modules containers same o is = is ∙ ap (find (λ (p : Placed). is_named name p.1)) same ∙ named-container 0 modules

  each_if : (b : Bool) (n : ℕ) (d : Declaration) (ds : List Declaration)
      → each_from list_in n (cond b (d ∷ ds) ds) ≡ cond b (list_in n d ++ each_from list_in (suc n) ds) (each_from list_in n ds)
  each_if true n d ds = refl
  each_if false n d ds = refl

  first : (b : Bool) (n : ℕ) (d : Declaration) (o : Option Placed) (p : Option Declaration) → option_map (λ (l : Placed). l.1) o ≡ p
      → option_map (λ (l : Placed). l.1) (cond b (Some (n, d)) o) ≡ cond b (Some d) p
  first true n d o p same = refl
  first false n d o p same = same

  one : (list other : Bool) (n : ℕ) (d : Declaration) (later same : List Placed) (o : Option Declaration)
      → option_map (λ (l : Placed). l.1) (find (λ (l : Placed). is_named name l.1) later) ≡ o → option_map (λ (l : Placed). l.1) (find (λ (l : Placed). is_named name l.1) same) ≡ o
      → option_map (λ (l : Placed). l.1) (find (λ (l : Placed). is_named name l.1) (cond (list || other) (cond list ((n, d) ∷ []) [] ++ later) same))
      ≡ cond (list && is_named name d) (Some d) o
  one true other n d later same o a b = first (is_named name d) n d (find (λ (l : Placed). is_named name l.1) later) o a
  one false true n d later same o a b = a
  one false false n d later same o a b = b

  -- the first list of a name among those that have a number
  pub numbered-from : (ds : List Declaration) (n : ℕ)
      → option_map (λ (l : Placed). l.1) (find (λ (l : Placed). is_named name l.1) (each_from list_in n (filter is_shape ds)))
      ≡ find (λ e. is_keyword (codes "list") e && is_named name e) ds
  numbered-from [] n = refl
  numbered-from (d ∷ ds) n =
      let shapes = filter is_shape ds in
      ap (λ ls. option_map (λ (l : Placed). l.1) (find (λ (l : Placed). is_named name l.1) ls)) (each_if (is_shape d) n d shapes)
      ∙ one (is_keyword (codes "list") d) (is_keyword (codes "container") d) n d (each_from list_in (suc n) shapes) (each_from list_in n shapes) (find (λ e. is_keyword (codes "list") e && is_named name e) ds)
      (numbered-from ds (suc n)) (numbered-from ds n)

  -- the same in a table that may be there
  pub list-found : (o : Option Declaration) → option_map (λ (l : Placed). l.1) (option_and_then (numbered_list name) o) ≡ option_and_then (child_named (codes "list") name) o
  list-found None = refl
  list-found (Some t) = numbered-from (block t) 0
