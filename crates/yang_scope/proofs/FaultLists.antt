-- The least fault of what each statement of a list has.
use Rattle.std.proofs.Common.{◌≡◌, ◌<◌, ◌≤◌, ◌+◌, ℕ, List, [], ◌∷◌, ◌++◌, map, length, take, get_or, Option, sym, ap, ◌∙◌}
use Rattle.std.specs.List.{flat_map}
use Rattle.std.proofs.lemmas.List.{take_more, append-nil}
use Rattle.std.proofs.lemmas.List.Concat.{flat_map-append}
use Rattle.std.proofs.lemmas.List.Sums.{fold-append}
use Rattle.yang_text.specs.Declarations.{Declaration, block}
use Rattle.yang_text.specs.Statements.{declaration}
use Rattle.yang_text.specs.declared.statements.Statement.{Statement}
use Rattle.yang_scope.specs.Faults.{lesser, least_of}
use Rattle.yang_scope.specs.declared.faults.Fault.{Fault}
use Rattle.yang_scope.proofs.Blocks.{block-is, flat_map-map}
use Rattle.yang_scope.proofs.Tables.{take_end}

-- one statement more
pub least_of-next : {X : Type 0} (f : X → List Fault) (old a b : Option Fault) (xs : List X) (i : ℕ) (x : X)
    → i < length xs → get_or xs i x ≡ x → a ≡ least_of old (flat_map f (take i xs)) → b ≡ least_of a (f x)
    → b ≡ least_of old (flat_map f (take (i + 1) xs))
least_of-next f old a b xs i x within is before here =
    here
    ∙ ap (λ o. least_of o (f x)) before
    ∙ sym (fold-append lesser old (flat_map f (take i xs)) (f x))
    ∙ ap (λ fs. least_of old (flat_map f (take i xs) ++ fs)) (sym (append-nil (f x)) ∙ ap (λ y. f y ++ []) (sym is))
    ∙ ap (least_of old) (sym (flat_map-append f (take i xs) (get_or xs i x ∷ [])) ∙ ap (flat_map f) (sym (take_more xs i x within)))

-- all statements in another one
pub least_of-block : (f : Declaration → List Fault) (old a : Option Fault) (s : Statement) (items : List Statement) (i : ℕ)
    → map declaration items ≡ s.block → length items ≤ i → i ≤ length items
    → a ≡ least_of old (flat_map (λ x. f (declaration x)) (take i items)) → a ≡ least_of old (flat_map f (block (declaration s)))
least_of-block f old a s items i are past within before =
    before
    ∙ ap (λ xs. least_of old (flat_map (λ x. f (declaration x)) xs)) (take_end i items past within)
    ∙ ap (least_of old) (sym (flat_map-map f declaration items) ∙ ap (flat_map f) (are ∙ sym (block-is s)))
