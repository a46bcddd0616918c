-- How the sentences on a list of statements go with the list.
use Rattle.std.proofs.Common.{◌≡◌, ◌<◌, ◌||◌, ℕ, Bool, List, [], ◌∷◌, ◌++◌, ◌+◌, map, take, length, get_or, Option, refl, ap, ◌∙◌, sym}
use Rattle.std.specs.List.{flat_map, list_any}
use Rattle.std.proofs.lemmas.List.Sums.{fold-append}
use Rattle.yang_faults.proofs.Steps.{flat_map-one_more}
use Rattle.yang_text.specs.Declarations.{Declaration, block_of}
use Rattle.yang_scope.specs.Faults.{lesser, least_of}
use Rattle.yang_faults.specs.Walks.{block_faults, below_faults}
use Rattle.yang_scope.specs.declared.faults.Fault.{Fault}
use Rattle.yang_faults.specs.declared.kinds.Kind.{Kind}

pub any_mapped : {X Y : Type 0} (p : Y → Bool) (f : X → Y) (xs : List X) → list_any p (map f xs) ≡ list_any (λ x. p (f x)) xs
any_mapped p f [] = refl
any_mapped p f (x ∷ xs) = ap (λ b. p (f x) || b) (any_mapped p f xs)

-- the faults in a block are those of its statements
pub block_faults-flat : (knows : List ℕ → Bool) (settle : Kind → Declaration → Kind) (named : Kind → Declaration → List Fault) (file : ℕ) (ds : List Declaration) (kind : Kind)
    → block_faults knows settle named file (block_of ds) kind ≡ flat_map (below_faults knows settle named file kind) ds
block_faults-flat knows settle named file [] kind = refl
block_faults-flat knows settle named file (d ∷ ds) kind = ap (λ fs. below_faults knows settle named file kind d ++ fs) (block_faults-flat knows settle named file ds kind)

-- two lists of faults, one after another
pub least_of-two : (old a b : Option Fault) (x y : List Fault) → a ≡ least_of old x → b ≡ least_of a y → b ≡ least_of old (x ++ y)
least_of-two old a b x y p q = q ∙ ap (λ o. least_of o y) p ∙ sym (fold-append lesser old x y)

-- six lists of faults, one after another
pub least_of-six : (old a b c d e f : Option Fault) (u v w x y z : List Fault)
    → a ≡ least_of old u → b ≡ least_of a v → c ≡ least_of b w → d ≡ least_of c x → e ≡ least_of d y → f ≡ least_of e z → f ≡ least_of old (u ++ (v ++ (w ++ (x ++ (y ++ z)))))
least_of-six old a b c d e f u v w x y z p q r s t last =
    least_of-two old a f u (v ++ (w ++ (x ++ (y ++ z)))) p
    (least_of-two a b f v (w ++ (x ++ (y ++ z))) q
    (least_of-two b c f w (x ++ (y ++ z)) r
    (least_of-two c d f x (y ++ z) s
    (least_of-two d e f y z t last))))

-- the faults of one more element come last
pub least-more : {X Y : Type 0} (v : X → Y) (f : Y → List Fault) (xs : List X) (i : ℕ) (x : X) (within : i < length xs) (is : x ≡ get_or xs i x) (old a b : Option Fault)
    → a ≡ least_of old (flat_map f (map v (take i xs))) → b ≡ least_of a (f (v x)) → b ≡ least_of old (flat_map f (map v (take (i + 1) xs)))
least-more v f xs i x within is old a b before here =
    least_of-two old a b (flat_map f (map v (take i xs))) (f (v x)) before here ∙ ap (least_of old) (sym (flat_map-one_more xs i x within is v f))
