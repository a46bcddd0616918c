-- Where the first line of a text ends.
use Rattle.std.proofs.Common.{◌≡◌, ℕ, List, [], ◌∷◌, ◌++◌, refl, sym}
use Rattle.host_core.specs.Characters.{line_feed}
use Rattle.plan_texts.specs.Lines.{HasNoFeed}

-- no line feed in both parts
pub no_feed-append : (xs ys : List ℕ) → HasNoFeed xs → HasNoFeed ys → HasNoFeed (xs ++ ys)
no_feed-append [] ys first second = second
no_feed-append (x ∷ xs) ys first second = (first.0, no_feed-append xs ys first.1 second)

-- a text is cut at its first line feed in one way
pub same_line : (xs ys ps qs : List ℕ) → HasNoFeed xs → HasNoFeed ys → xs ++ line_feed ∷ ps ≡ ys ++ line_feed ∷ qs → (xs ≡ ys) × (ps ≡ qs)
same_line [] [] ps qs first second same = (refl, cc)
same_line [] (y ∷ ys) ps qs first second same = let is : line_feed ≡ y = cc in absurd (second.0 (sym is))
same_line (x ∷ xs) [] ps qs first second same = let is : x ≡ line_feed = cc in absurd (first.0 is)
same_line (x ∷ xs) (y ∷ ys) ps qs first second same =
    let head : x ≡ y = cc in
    let rest : xs ++ line_feed ∷ ps ≡ ys ++ line_feed ∷ qs = cc in
    let more = same_line xs ys ps qs first.1 second.1 rest in
    (λ i. head i ∷ more.0 i, more.1)

-- a text with a line feed has one
pub has_feed : (xs ps : List ℕ) → HasNoFeed (xs ++ line_feed ∷ ps) → ⊥
has_feed [] ps none = none.0 refl
has_feed (x ∷ xs) ps none = has_feed xs ps none.1
