-- The last frame of a stack, as the stack is read.
use Rattle.std.proofs.Common.{◌≡◌, ℕ, ◌+◌, ◌-◌, ◌<◌, List, [], ◌∷◌, ◌++◌, length, length-append, map, reverse, set, get_or, Option, None, Some, refl, sym, ap, subst, ◌∙◌, arith}
use Rattle.std.specs.Option.{option_to_list}
use Rattle.std.proofs.lemmas.List.{get_or-append_right, reverse-append, set-append_right}
use Rattle.move_core.specs.declared.moves.Move.{Move}
use Rattle.plan_search.specs.declared.stacks.Frame.{Frame}
use Rattle.plan_search.specs.Stacks.{HasMore, IsAfterTop, OfTop, Spot, but_first, spot}

-- a list that isn't empty is what stands before its last item, and that item
split_last : {A : Type 0} (x : A) (xs : List A) → (front : List A) × (last : A) × (x ∷ xs ≡ front ++ last ∷ [])
split_last x [] = ([], x, refl)
split_last x (y ∷ ys) =
    let s = split_last y ys in
    (x ∷ s.0, s.1, ap (λ zs. x ∷ zs) s.2)

-- the spots of frames, the last one first
abbrev read : List Frame → List Spot
read fs = map spot (reverse fs)

module _ (front : List Frame) (last : Frame) where
  turned : read (front ++ last ∷ []) ≡ spot last ∷ read front
  turned = ap (map spot) (reverse-append front (last ∷ []))

  turned_rest : but_first (read (front ++ last ∷ [])) ≡ read front
  turned_rest = ap but_first turned

-- the spot of the last frame stands first
last_read : (front : List Frame) (last f : Frame) (i : ℕ)
    → i ≡ length front → f ≡ get_or (front ++ last ∷ []) i f
    → read (front ++ last ∷ []) ≡ spot f ∷ but_first (read (front ++ last ∷ []))
last_read front last f i is at =
    let zero : i - length front ≡ 0 = omega arith in
    let same : f ≡ last =
    at ∙ get_or-append_right front (last ∷ []) (length front) i f refl (omega arith)
    ∙ ap (λ n. get_or (last ∷ []) n f) zero in
    turned front last ∙ ap (λ g. spot g ∷ read front) (sym same)
    ∙ ap (λ l. spot f ∷ l) (sym (turned_rest front last))

-- so it does when it is written
last_written : (front : List Frame) (last new : Frame) (i : ℕ) → i ≡ length front
    → read (set (front ++ last ∷ []) i new) ≡ spot new ∷ but_first (read (front ++ last ∷ []))
last_written front last new i is =
    let zero : i - length front ≡ 0 = omega arith in
    let write : set (front ++ last ∷ []) i new ≡ front ++ new ∷ [] =
    set-append_right front (last ∷ []) (length front) i new refl (omega arith)
    ∙ ap (λ n. front ++ set (last ∷ []) n new) zero in
    ap read write ∙ turned front new ∙ ap (λ l. spot new ∷ l) (sym (turned_rest front last))

-- what holds of the old and the new last spot holds of the stacks
written : (R : List Spot → List Spot → Type 0) (fs : List Frame) (f new : Frame) (i : ℕ)
    → i + 1 ≡ length fs → f ≡ get_or fs i f
    → R (spot f ∷ but_first (read fs)) (spot new ∷ but_first (read fs)) → R (read fs) (read (set fs i new))
written R [] f new i is at holds = absurd (omega arith)
written R (x ∷ xs) f new i is at holds =
    let s = split_last x xs in
    let long = ap length s.2 in
    let more = length-append s.0 (s.1 ∷ []) in
    let here : i ≡ length s.0 = omega (arith, is, long, more) in
    let holds_there : R (spot f ∷ but_first (read (s.0 ++ s.1 ∷ []))) (spot new ∷ but_first (read (s.0 ++ s.1 ∷ []))) =
    subst (λ l. R (spot f ∷ but_first (read l)) (spot new ∷ but_first (read l))) s.2 holds in
    let w : R (read (s.0 ++ s.1 ∷ [])) (read (set (s.0 ++ s.1 ∷ []) i new)) =
    subst (λ l. R l (read (set (s.0 ++ s.1 ∷ []) i new))) (sym (last_read s.0 s.1 f i here (at ∙ ap (λ l. get_or l i f) s.2)))
    (subst (R (spot f ∷ but_first (read (s.0 ++ s.1 ∷ [])))) (sym (last_written s.0 s.1 new i here)) holds_there) in
    subst (λ l. R (read l) (read (set l i new))) (sym s.2) w

-- a move was taken from the end of the rest
after_top : (f new : Frame) (ss : List Spot) (r : Option Move)
    → new.config ≡ f.config → new.parts ≡ f.parts → f.rest.items ≡ new.rest.items ++ option_to_list r
    → (r ≡ None → new.rest.items ≡ []) → IsAfterTop (spot f ∷ ss) (spot new ∷ ss) r
after_top f new ss None config parts items none =
    let empty : f.rest.items ≡ [] = items ∙ ap (λ l. l ++ []) (none refl) in
    let same : spot new ≡ spot f =
    λ i. record { config = config i; parts = parts i; rest = reverse ((none refl ∙ sym empty) i) } in
    (ap reverse empty, ap (λ s. s ∷ ss) same)
after_top f new ss (Some m) config parts items none = (
  reverse new.rest.items,
  ap reverse items ∙ reverse-append new.rest.items (m ∷ []),
  ap (λ s. s ∷ ss) (λ i. record { config = config i; parts = parts i; rest = reverse new.rest.items }),
)

pub top_taken : (fs : List Frame) (f new : Frame) (i : ℕ) (r : Option Move)
    → i + 1 ≡ length fs → f ≡ get_or fs i f
    → new.config ≡ f.config → new.parts ≡ f.parts → f.rest.items ≡ new.rest.items ++ option_to_list r
    → (r ≡ None → new.rest.items ≡ [])
    → IsAfterTop (map spot (reverse fs)) (map spot (reverse (set fs i new))) r
top_taken fs f new i r is at config parts items none =
    written (λ old later. IsAfterTop old later r) fs f new i is at
    (after_top f new (but_first (read fs)) r config parts items none)

-- the last frame got one part more
pub top_filled : (fs : List Frame) (f new : Frame) (i : ℕ) (moves : List Move)
    → i + 1 ≡ length fs → f ≡ get_or fs i f
    → new.config ≡ f.config → new.parts ≡ f.parts + 1 → reverse new.rest.items ≡ moves
    → HasMore (map spot (reverse fs)) (map spot (reverse (set fs i new))) moves
top_filled fs f new i moves is at config parts items =
    written (λ old later. HasMore old later moves) fs f new i is at
    (ap (λ s. s ∷ but_first (read fs)) (λ j. record { config = config j; parts = parts j; rest = items j }))

-- where something holds of the last spot, there is a frame
pub some_top : (P : Spot → Type 0) (fs : List Frame) → OfTop P (map spot (reverse fs)) → 0 < length fs
some_top P [] h = absurd h
some_top P (f ∷ fs) h = omega arith
