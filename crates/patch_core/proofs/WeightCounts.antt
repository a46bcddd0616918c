-- The weight and the depth of a list's first items or members, as a count goes on.
use Rattle.std.specs.Prelude.{◌≡◌, ℕ, zero, suc, ◌+◌, ◌<◌, ◌≤◌, max, List, [], ◌∷◌, length, map, slice_get, Some}
use Rattle.std.proofs.Common.{ap, take, arith}
use Rattle.conf_doc.specs.Document.{Document, weight, depth}
use Rattle.patch_core.proofs.Measures.{weight_in, weight_of, depth_in, depth_of}

abbrev Members : Type 0
Members = List (List ℕ × Document)

-- ---- items

weight-take : (i : ℕ) (ds : List Document) → weight_in (take i ds) ≤ weight_in ds
weight-take zero ds = omega arith
weight-take (suc i) [] = omega arith
weight-take (suc i) (d ∷ ds) = omega (arith, weight-take i ds)

depth-take : (i : ℕ) (ds : List Document) → depth_in (take i ds) ≤ depth_in ds
depth-take zero ds = omega arith
depth-take (suc i) [] = omega arith
depth-take (suc i) (d ∷ ds) = omega (arith, depth-take i ds)

weight-take_more : (i : ℕ) (ds : List Document) (d : Document) → slice_get ds i ≡ Some d → weight_in (take (suc i) ds) ≡ weight_in (take i ds) + weight d
weight-take_more i [] d e = absurd cc
weight-take_more zero (x ∷ ds) d e = let same : x ≡ d = cc in omega (arith, ap weight same)
weight-take_more (suc i) (x ∷ ds) d e = omega (arith, weight-take_more i ds d e)

depth-take_more : (i : ℕ) (ds : List Document) (d : Document) → slice_get ds i ≡ Some d → depth_in (take (suc i) ds) ≡ max (depth_in (take i ds)) (depth d)
depth-take_more i [] d e = absurd cc
depth-take_more zero (x ∷ ds) d e = let same : x ≡ d = cc in omega (arith, ap depth same)
depth-take_more (suc i) (x ∷ ds) d e = omega (arith, depth-take_more i ds d e)

pub item_weighs : (i : ℕ) (ds : List Document) (d : Document) → slice_get ds i ≡ Some d → weight d ≤ weight_in ds
item_weighs i ds d e = omega (arith, weight-take_more i ds d e, weight-take (suc i) ds)

pub item_goes_on : (i : ℕ) (ds : List Document) (d : Document) (left rest budget levels : ℕ) → slice_get ds i ≡ Some d → (left + weight_in (take i ds) ≡ budget) × (depth_in (take i ds) ≤ levels) → (rest + weight d ≡ left) × (depth d ≤ levels)
    → (rest + weight_in (take (i + 1) ds) ≡ budget) × (depth_in (take (i + 1) ds) ≤ levels)
item_goes_on i ds d left rest budget levels e so_far now =
    let next : i + 1 ≡ suc i = omega arith in
    (omega (arith, weight-take_more i ds d e, so_far.0, now.0, ap (λ (k : ℕ). weight_in (take k ds)) next), omega (arith, depth-take_more i ds d e, so_far.1, now.1, ap (λ (k : ℕ). depth_in (take k ds)) next))

pub item_stops : (i : ℕ) (ds : List Document) (d : Document) (left budget levels : ℕ) → slice_get ds i ≡ Some d → (left + weight_in (take i ds) ≡ budget) × (depth_in (take i ds) ≤ levels) → (weight d ≤ left → levels < depth d)
    → weight_in ds ≤ budget → levels < depth_in ds
item_stops i ds d left budget levels e so_far stops fits =
    let light : weight d ≤ left = omega (arith, weight-take_more i ds d e, weight-take (suc i) ds, so_far.0) in
    let deep : levels < depth d = stops light in
    omega (arith, deep, depth-take_more i ds d e, depth-take (suc i) ds)

-- ---- members

weight-take-members : (i : ℕ) (ms : Members) → weight_of (take i ms) ≤ weight_of ms
weight-take-members zero ms = omega arith
weight-take-members (suc i) [] = omega arith
weight-take-members (suc i) (m ∷ ms) = omega (arith, weight-take-members i ms)

depth-take-members : (i : ℕ) (ms : Members) → depth_of (take i ms) ≤ depth_of ms
depth-take-members zero ms = omega arith
depth-take-members (suc i) [] = omega arith
depth-take-members (suc i) (m ∷ ms) = omega (arith, depth-take-members i ms)

weight-take_more-members : (i : ℕ) (ms : Members) (k : List ℕ) (d : Document) → slice_get (map (λ m. m.0) ms) i ≡ Some k → slice_get (map (λ m. m.1) ms) i ≡ Some d → weight_of (take (suc i) ms) ≡ weight_of (take i ms) + length k + weight d
weight-take_more-members i [] k d n e = absurd cc
weight-take_more-members zero (m ∷ ms) k d n e = let name : m.0 ≡ k = cc in let same : m.1 ≡ d = cc in omega (arith, ap weight same, ap length name)
weight-take_more-members (suc i) (m ∷ ms) k d n e = omega (arith, weight-take_more-members i ms k d n e)

depth-take_more-members : (i : ℕ) (ms : Members) (d : Document) → slice_get (map (λ m. m.1) ms) i ≡ Some d → depth_of (take (suc i) ms) ≡ max (depth_of (take i ms)) (depth d)
depth-take_more-members i [] d e = absurd cc
depth-take_more-members zero (m ∷ ms) d e = let same : m.1 ≡ d = cc in omega (arith, ap depth same)
depth-take_more-members (suc i) (m ∷ ms) d e = omega (arith, depth-take_more-members i ms d e)

pub member_weighs : (i : ℕ) (ms : Members) (k : List ℕ) (d : Document) → slice_get (map (λ m. m.0) ms) i ≡ Some k → slice_get (map (λ m. m.1) ms) i ≡ Some d → length k + weight d ≤ weight_of ms
member_weighs i ms k d n e = omega (arith, weight-take_more-members i ms k d n e, weight-take-members (suc i) ms)

pub member_goes_on : (i : ℕ) (ms : Members) (k : List ℕ) (d : Document) (left rest last budget levels : ℕ) → slice_get (map (λ m. m.0) ms) i ≡ Some k → slice_get (map (λ m. m.1) ms) i ≡ Some d
    → (left + weight_of (take i ms) ≡ budget) × (depth_of (take i ms) ≤ levels) → rest + length k ≡ left → (last + weight d ≡ rest) × (depth d ≤ levels)
    → (last + weight_of (take (i + 1) ms) ≡ budget) × (depth_of (take (i + 1) ms) ≤ levels)
member_goes_on i ms k d left rest last budget levels n e so_far name now =
    let next : i + 1 ≡ suc i = omega arith in
    (omega (arith, weight-take_more-members i ms k d n e, so_far.0, now.0, ap (λ (j : ℕ). weight_of (take j ms)) next), omega (arith, depth-take_more-members i ms d e, so_far.1, now.1, ap (λ (j : ℕ). depth_of (take j ms)) next))

pub member_stops : (i : ℕ) (ms : Members) (k : List ℕ) (d : Document) (left budget levels : ℕ) → slice_get (map (λ m. m.0) ms) i ≡ Some k → slice_get (map (λ m. m.1) ms) i ≡ Some d
    → (left + weight_of (take i ms) ≡ budget) × (depth_of (take i ms) ≤ levels) → (length k + weight d ≤ left → levels < depth d)
    → weight_of ms ≤ budget → levels < depth_of ms
member_stops i ms k d left budget levels n e so_far stops fits =
    let light : length k + weight d ≤ left = omega (arith, weight-take_more-members i ms k d n e, weight-take-members (suc i) ms, so_far.0) in
    let deep : levels < depth d = stops light in
    omega (arith, deep, depth-take_more-members i ms d e, depth-take-members (suc i) ms)

pub member_too_long : (i : ℕ) (ms : Members) (k : List ℕ) → slice_get (map (λ m. m.0) ms) i ≡ Some k → weight_of (take i ms) + length k ≤ weight_of ms
member_too_long i [] k n = absurd cc
member_too_long zero (m ∷ ms) k n = let name : m.0 ≡ k = cc in omega (arith, ap length name)
member_too_long (suc i) (m ∷ ms) k n = omega (arith, member_too_long i ms k n)
