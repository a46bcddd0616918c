-- The statements in the braces of a statement.
use Rattle.std.proofs.Common.{◌≡◌, ◌<◌, ◌+◌, ℕ, Bool, true, false, cond, ◌&&◌, ◌||◌, List, [], ◌∷◌, ◌++◌, length, take, get_or, Option, Some, None, map, option_map, refl, sym, ap, ◌∙◌}
use Rattle.std.proofs.lemmas.List.{append-nil, append_assoc, map-append, take_more}
use Rattle.std.proofs.lemmas.List.Concat.{flat_map-append}
use Rattle.std.specs.Option.{option_copied}
use denote.Ref.{Bor}
use Rattle.std.specs.List.{find, flat_map, list_any, list_all}
use Rattle.std.specs.Str.{bytes_eq}
use Rattle.yang_text.specs.Declarations.{Declaration, block_of, block, declarations}
use Rattle.yang_text.specs.Statements.{declaration}
use Rattle.yang_text.specs.declared.statements.Statement.{Statement}
use Rattle.yang_scope.specs.Statements.{is_keyword, first_child}
use Rattle.yang_scope.proofs.Tables.{bytes_eq-swap}

pub declarations-block_of : (ds : List Declaration) → declarations (block_of ds) ≡ ds
declarations-block_of [] = refl
declarations-block_of (d ∷ ds) = ap (λ es. d ∷ es) (declarations-block_of ds)

pub block-is : (s : Statement) → block (declaration s) ≡ s.block
block-is s = declarations-block_of s.block

pub find-map : {X Y : Type 0} (g : X → Y) (test : Y → Bool) (xs : List X) → find test (map g xs) ≡ option_map g (find (λ x. test (g x)) xs)
find-map {X = X} g test [] = refl
find-map {X = X} g test (x ∷ xs) = ap (λ o. cond (test (g x)) (Some (g x)) o) (find-map g test xs) ∙ either (test (g x)) (find (λ y. test (g y)) xs)
  where
    either : (b : Bool) (o : Option X) → cond b (Some (g x)) (option_map g o) ≡ option_map g (cond b (Some x) o)
    either true o = refl
    either false o = refl

pub first_child-is : (word : List ℕ) (s : Statement) (items : List Statement) → map declaration items ≡ s.block
    → first_child word (declaration s) ≡ option_map declaration (find (λ x. is_keyword word (declaration x)) items)
first_child-is word s items is = ap (find (is_keyword word)) (block-is s ∙ sym is) ∙ find-map declaration (is_keyword word) items

pub flat_map-map : {W X Y : Type 0} (f : X → List Y) (g : W → X) (ws : List W) → flat_map f (map g ws) ≡ flat_map (λ w. f (g w)) ws
flat_map-map f g [] = refl
flat_map-map f g (w ∷ ws) = ap (λ ys. f (g w) ++ ys) (flat_map-map f g ws)

pub map-map : {W X Y : Type 0} (f : X → Y) (g : W → X) (ws : List W) → map f (map g ws) ≡ map (λ w. f (g w)) ws
map-map f g [] = refl
map-map f g (w ∷ ws) = ap (λ ys. f (g w) ∷ ys) (map-map f g ws)

pub all_mapped : {X Y : Type 0} (p : Y → Bool) (f : X → Y) (xs : List X) → list_all p (map f xs) ≡ list_all (λ x. p (f x)) xs
all_mapped p f [] = refl
all_mapped p f (x ∷ xs) = ap (λ b. p (f x) && b) (all_mapped p f xs)

pub any_mapped : {X Y : Type 0} (p : Y → Bool) (f : X → Y) (xs : List X) → list_any p (map f xs) ≡ list_any (λ x. p (f x)) xs
any_mapped p f [] = refl
any_mapped p f (x ∷ xs) = ap (λ b. p (f x) || b) (any_mapped p f xs)

-- what a borrow is of
pub copied-map : {X Y : Type 0} (f : X → Y) (o : Option (Bor X)) → option_map (λ (b : Bor X). f b.now) o ≡ option_map f (option_copied o)
copied-map f None = refl
copied-map f (Some x) = refl

-- what each gives, of one element more
pub map-more : {X Y : Type 0} (f : X → Y) (xs : List X) (i : ℕ) (x : X) (ys next : List Y) (y : Y)
    → i < length xs → x ≡ get_or xs i x → ys ≡ map f (take i xs) → y ≡ f x → next ≡ ys ++ y ∷ []
    → next ≡ map f (take (i + 1) xs)
map-more f xs i x ys next y within is before here pushed =
    pushed
    ∙ ap (λ zs. zs ++ y ∷ []) before
    ∙ ap (λ z. map f (take i xs) ++ z ∷ []) (here ∙ ap f is)
    ∙ sym (map-append f (take i xs) (get_or xs i x ∷ []))
    ∙ ap (map f) (sym (take_more xs i x within))

pub flat_map-more : {X Y : Type 0} (f : X → List Y) (xs : List X) (i : ℕ) (x : X) (old : List Y)
    → i < length xs → x ≡ get_or xs i x → (old ++ flat_map f (take i xs)) ++ f x ≡ old ++ flat_map f (take (i + 1) xs)
flat_map-more f xs i x old within is =
    append_assoc old (flat_map f (take i xs)) (f x)
    ∙ ap (λ ys. old ++ (flat_map f (take i xs) ++ ys)) (sym (append-nil (f x)) ∙ ap (λ y. f y ++ []) is)
    ∙ ap (λ ys. old ++ ys) (sym (flat_map-append f (take i xs) (get_or xs i x ∷ [])) ∙ ap (flat_map f) (sym (take_more xs i x within)))

-- the same test with its sides changed
pub any_swapped : (text : List ℕ) (texts : List (Bor (List ℕ))) → list_any (λ t. bytes_eq t.now text) texts ≡ list_any (λ t. bytes_eq text t.now) texts
any_swapped text [] = refl
any_swapped text (t ∷ texts) =
    ap (λ b. b || list_any (λ u. bytes_eq u.now text) texts) (bytes_eq-swap t.now text)
    ∙ ap (λ b. bytes_eq text t.now || b) (any_swapped text texts)
