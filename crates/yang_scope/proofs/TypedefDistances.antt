-- What stands behind so many typedefs, and behind twice as many.
use Rattle.std.proofs.Common.{◌≡◌, ◌<◌, ℕ, zero, suc, ◌+◌, ◌^◌, add-zero, add-one, List, [], ◌∷◌, ◌++◌, length, take, get_or, subst, Option, Some, None, map, option_map, option_and_then, slice_get, unwrap_or, refl, sym, ap, ◌∙◌, arith}
use Rattle.std.specs.Option.{option_map_or}
use Rattle.std.proofs.Math.Nat.{two-pow-succ}
use Rattle.std.proofs.lemmas.List.{take_more, length-take-le}
use Rattle.std.proofs.lemmas.Option.{slice_get-map}
use Rattle.yang_text.specs.Declarations.{Declaration, block}
use Rattle.yang_scope.specs.Links.{link_at, link_behind, IsBehind, map_from}
use Rattle.yang_scope.specs.Meanings.{base_by, base_within, meaning_at, typedef_meaning}
use Rattle.yang_scope.specs.Modules.{Module}
use Rattle.yang_scope.specs.declared.bases.Base.{Base}
use Rattle.yang_scope.specs.declared.meanings.Meaning.{Meaning}
use Rattle.yang_scope.specs.declared.meanings.Meaning.TheVariants.{Ends, Goes, Nothing}

base_within-ends : (modules : List Module) (n : ℕ) (base : Base) → base_within modules n (Ends base) ≡ Some base
unfolding base_within
base_within-ends modules zero base = refl
base_within-ends modules (suc n) base = refl

base_within-nothing : (modules : List Module) (n : ℕ) → base_within modules n Nothing ≡ None
unfolding base_within
base_within-nothing modules zero = refl
base_within-nothing modules (suc n) = refl

base_within-suc : (modules : List Module) (n m place : ℕ) → base_within modules (suc n) (Goes m place) ≡ base_within modules n (meaning_at modules m place)
unfolding base_within
base_within-suc modules n m place = refl

base_within-zero : (modules : List Module) (meaning : Meaning) → base_within modules zero meaning ≡ base_by (λ m place. None) meaning
unfolding base_within
base_within-zero modules meaning = refl

-- the same for every meaning
behind-meaning : (modules : List Module) (s n : ℕ) (links : List (List Meaning)) (meaning : Meaning) → IsBehind modules s links
    → base_within modules (s + n) meaning ≡ base_within modules n (link_behind links meaning)
behind-meaning modules s n links (Ends base) is = base_within-ends modules (s + n) base ∙ sym (base_within-ends modules n base)
behind-meaning modules s n links (Goes m place) is = is.behind m place n
behind-meaning modules s n links Nothing is = base_within-nothing modules (s + n) ∙ sym (base_within-nothing modules n)

-- the base that the links tell
pub base_behind : (modules : List Module) (s : ℕ) (links : List (List Meaning)) (meaning : Meaning) → IsBehind modules s links
    → base_within modules s meaning ≡ base_by (λ m place. None) (link_behind links meaning)
base_behind modules s links meaning is =
    ap (λ n. base_within modules n meaning) (omega arith)
    ∙ behind-meaning modules s zero links meaning is
    ∙ base_within-zero modules (link_behind links meaning)

row_mapped : (f : Meaning → Meaning) (row : Option (List Meaning)) (place : ℕ) → Nothing ≡ f Nothing
    → unwrap_or (option_and_then (λ r. slice_get r place) (option_map (map f) row)) Nothing ≡ f (unwrap_or (option_and_then (λ r. slice_get r place) row) Nothing)
row_mapped f None place same = same
row_mapped f (Some row) place same = ap (λ o. unwrap_or o Nothing) (slice_get-map f row place) ∙ mapped (slice_get row place)
  where
    mapped : (o : Option Meaning) → unwrap_or (option_map f o) Nothing ≡ f (unwrap_or o Nothing)
    mapped None = same
    mapped (Some x) = refl

link_at-map : (f : Meaning → Meaning) (links : List (List Meaning)) (m place : ℕ) → Nothing ≡ f Nothing
    → link_at (map (map f) links) m place ≡ f (link_at links m place)
link_at-map f links m place same =
    ap (λ row. unwrap_or (option_and_then (λ (r : List Meaning). slice_get r place) row) Nothing) (slice_get-map (map f) links m)
    ∙ row_mapped f (slice_get links m) place same

-- twice as far
pub IsBehind-double : (modules : List Module) (s : ℕ) (links : List (List Meaning)) → IsBehind modules s links
    → IsBehind modules (s + s) (map (map (link_behind links)) links)
IsBehind-double modules s links is = record {
  behind = λ m place n.
      ap (λ k. base_within modules k (Goes m place)) (omega arith)
      ∙ is.behind m place (s + n)
      ∙ behind-meaning modules s n links (link_at links m place) is
      ∙ ap (base_within modules n) (sym (link_at-map (link_behind links) links m place refl));
}

-- a power of two more
pub IsBehind-power : (modules : List Module) (round : ℕ) (links next : List (List Meaning)) → IsBehind modules (2 ^ round) links
    → next ≡ map (map (link_behind links)) links → IsBehind modules (2 ^ (round + 1)) next
IsBehind-power modules round links next is same =
    subst (λ (ls : List (List Meaning)). IsBehind modules (2 ^ (round + 1)) ls) (sym same)
    (subst (λ (k : ℕ). IsBehind modules k (map (map (link_behind links)) links)) power (IsBehind-double modules (2 ^ round) links is))
  where
    power : 2 ^ round + 2 ^ round ≡ 2 ^ (round + 1)
    power = sym (ap (λ k. 2 ^ k) (add-one round) ∙ two-pow-succ round)

map_from-get : {X Y : Type 0} (f : ℕ → X → Y) (place : ℕ) (xs : List X) (i : ℕ) → slice_get (map_from f place xs) i ≡ option_map (f (place + i)) (slice_get xs i)
map_from-get f place [] i = refl
map_from-get f place (x ∷ xs) zero = ap (λ n. Some (f n x)) (sym (add-zero place))
map_from-get {X = X} f place (x ∷ xs) (suc i) = map_from-get f (suc place) xs i ∙ ap (λ n. option_map (f n) (slice_get xs i)) (omega arith)

-- what stands right behind each typedef
pub IsBehind-first : (modules : List Module)
    → IsBehind modules 1 (map_from (λ number m. map (typedef_meaning modules number) (block m.statement)) 0 modules)
IsBehind-first modules = record {
  behind = λ m place n.
      ap (λ k. base_within modules k (Goes m place)) (omega arith)
      ∙ base_within-suc modules n m place
      ∙ ap (base_within modules n) (sym (first m place));
}
  where
    rows : ℕ → Module → List Meaning
    rows number m = map (typedef_meaning modules number) (block m.statement)

    at : (m place : ℕ) (o : Option Module)
        → unwrap_or (option_and_then (λ (r : List Meaning). slice_get r place) (option_map (λ x. map (typedef_meaning modules m) (block x.statement)) o)) Nothing
        ≡ option_map_or (typedef_meaning modules m) (option_and_then (λ x. slice_get (block x.statement) place) o) Nothing
    at m place None = refl
    at m place (Some x) = ap (λ o. unwrap_or o Nothing) (slice_get-map (typedef_meaning modules m) (block x.statement) place) ∙ here (slice_get (block x.statement) place)
      where
        here : (o : Option Declaration) → unwrap_or (option_map (typedef_meaning modules m) o) Nothing ≡ option_map_or (typedef_meaning modules m) o Nothing
        here None = refl
        here (Some d) = refl

    first : (m place : ℕ)
        → link_at (map_from (λ number x. map (typedef_meaning modules number) (block x.statement)) 0 modules) m place ≡ meaning_at modules m place
    first m place =
        ap (λ row. unwrap_or (option_and_then (λ (r : List Meaning). slice_get r place) row) Nothing)
        (map_from-get (λ number x. map (typedef_meaning modules number) (block x.statement)) 0 modules m
        ∙ ap (λ n. option_map (λ (x : Module). map (typedef_meaning modules n) (block x.statement)) (slice_get modules m)) (omega arith))
        ∙ at m place (slice_get modules m)

map_from-push : {X Y : Type 0} (f : ℕ → X → Y) (place : ℕ) (xs : List X) (x : X)
    → map_from f place (xs ++ x ∷ []) ≡ map_from f place xs ++ f (place + length xs) x ∷ []
map_from-push f place [] x = ap (λ n. f n x ∷ []) (sym (add-zero place))
map_from-push f place (y ∷ xs) x = ap (λ ys. f place y ∷ ys) (map_from-push f (suc place) xs x ∙ ap (λ n. map_from f (suc place) xs ++ f n x ∷ []) (omega arith))

-- one element more
pub map_from-next : {X Y : Type 0} (f : ℕ → X → Y) (xs : List X) (i : ℕ) (d : X) → i < length xs
    → map_from f 0 (take (i + 1) xs) ≡ map_from f 0 (take i xs) ++ f i (get_or xs i d) ∷ []
map_from-next f xs i d within =
    ap (map_from f 0) (take_more xs i d within)
    ∙ map_from-push f 0 (take i xs) (get_or xs i d)
    ∙ ap (λ n. map_from f 0 (take i xs) ++ f n (get_or xs i d) ∷ []) (omega (arith, length-take-le i xs))
