-- The typedefs behind a meaning, one after another.
use Rattle.std.proofs.Common.{◌≡◌, ◌<◌, ◌+◌, ◌-◌, ℕ, suc, List, [], ◌∷◌, ◌++◌, map, reverse, Some, None, refl, sym, ap, ◌∙◌, arith}
use Rattle.std.proofs.lemmas.List.{append-nil, append_assoc, map-append, reverse-append}
use Rattle.std.specs.List.{fold}
use Rattle.std.specs.Option.{option_map_or}
use Rattle.yang_text.specs.Declarations.{Declaration}
use Rattle.yang_scope.specs.Modules.{Module}
use Rattle.yang_scope.specs.declared.meanings.Meaning.{Meaning}
use Rattle.yang_values.specs.Values.{next_typedef, types_within}

types_within-suc : (modules : List Module) (most : ℕ) (meaning : Meaning)
    → types_within modules (suc most) meaning ≡ option_map_or (λ t. t.0 ∷ types_within modules most t.1) (next_typedef modules meaning) []
unfolding types_within
types_within-suc modules most meaning = refl

types_within-zero : (modules : List Module) (meaning : Meaning) → types_within modules 0 meaning ≡ []
unfolding types_within
types_within-zero modules meaning = refl

-- one typedef more
pub chain_more : {W : Type 0} (modules : List Module) (most i : ℕ) (g : W → Declaration) (whole : List Declaration) (found : List W) (w : W) (here next : Meaning)
    → i < most → whole ≡ map g found ++ types_within modules (most - i) here → next_typedef modules here ≡ Some (g w, next)
    → whole ≡ map g (found ++ w ∷ []) ++ types_within modules (most - (i + 1)) next
chain_more modules most i g whole found w here next within before step =
    before
    ∙ ap (λ n. map g found ++ types_within modules n here) (omega arith)
    ∙ ap (λ ds. map g found ++ ds) (types_within-suc modules (most - (i + 1)) here ∙ ap (λ o. option_map_or (λ t. t.0 ∷ types_within modules (most - (i + 1)) t.1) o []) step)
    ∙ sym (append_assoc (map g found) (g w ∷ []) (types_within modules (most - (i + 1)) next))
    ∙ ap (λ ds. ds ++ types_within modules (most - (i + 1)) next) (sym (map-append g found (w ∷ [])))

-- no typedef more
pub chain_end : {W : Type 0} (modules : List Module) (most i : ℕ) (g : W → Declaration) (whole : List Declaration) (found : List W) (here : Meaning)
    → i < most → whole ≡ map g found ++ types_within modules (most - i) here → next_typedef modules here ≡ None
    → map g found ≡ whole
chain_end modules most i g whole found here within before step =
    sym (before
    ∙ ap (λ n. map g found ++ types_within modules n here) (omega arith)
    ∙ ap (λ ds. map g found ++ ds) (types_within-suc modules (most - (i + 1)) here ∙ ap (λ o. option_map_or (λ t. t.0 ∷ types_within modules (most - (i + 1)) t.1) o []) step)
    ∙ append-nil (map g found))

-- as many as there may be
pub chain_full : {W : Type 0} (modules : List Module) (most i : ℕ) (g : W → Declaration) (whole : List Declaration) (found : List W) (here : Meaning)
    → i ≡ most → whole ≡ map g found ++ types_within modules (most - i) here
    → map g found ≡ whole
chain_full modules most i g whole found here full before =
    sym (before
    ∙ ap (λ n. map g found ++ types_within modules n here) (omega arith)
    ∙ ap (λ ds. map g found ++ ds) (types_within-zero modules here)
    ∙ append-nil (map g found))

pub fold-map : {W X Y : Type 0} (f : Y → X → Y) (g : W → X) (a : Y) (ws : List W) → fold f a (map g ws) ≡ fold (λ y w. f y (g w)) a ws
fold-map f g a [] = refl
fold-map f g a (w ∷ ws) = fold-map f g (f a (g w)) ws

pub reverse-map : {W X : Type 0} (g : W → X) (ws : List W) → reverse (map g ws) ≡ map g (reverse ws)
reverse-map g [] = refl
reverse-map g (w ∷ ws) =
    reverse-append (g w ∷ []) (map g ws)
    ∙ ap (λ xs. xs ++ g w ∷ []) (reverse-map g ws)
    ∙ sym (map-append g (reverse ws) (w ∷ []))
    ∙ ap (map g) (sym (reverse-append (w ∷ []) ws))
