-- What finite sets are made of.
use Rattle.std.proofs.Common.{◌≡◌, ◌⊎◌, inl, inr, List, [], ◌∷◌, ◌++◌, Option, Some, None, sym, subst}
use Rattle.std.specs.List.{Contains}
use Rattle.std.proofs.lemmas.List.Elements.{Contains-append_left, Contains-append_right}
use Rattle.move_lists.specs.Finite.{IsFinite}
use Rattle.move_lists.proofs.Members.{first_member, member_cases, no_member}

module _ {A : Type 0} where
  -- a part of a finite set
  pub finite_within : (P Q : A → Type 0) → ((x : A) → P x → Q x) → IsFinite Q → IsFinite P
  finite_within P Q within q = (q.0, λ x p. q.1 x (within x p))

  -- one thing
  pub finite_one : (a : A) → IsFinite (λ x. x ≡ a)
  finite_one a = (a ∷ [], λ x is. subst (Contains (a ∷ [])) (sym is) (first_member a []))

  -- two sets together
  pub finite_either : (P Q : A → Type 0) → IsFinite P → IsFinite Q → IsFinite (λ x. P x ⊎ Q x)
  finite_either P Q p q = (p.0 ++ q.0, all)
    where
      all : (x : A) → P x ⊎ Q x → Contains (p.0 ++ q.0) x
      all x (inl h) = Contains-append_left p.0 q.0 x (p.1 x h)
      all x (inr h) = Contains-append_right p.0 q.0 x (q.1 x h)

  module _ {B : Type 0} (P : B → A → Type 0) where
    -- it is as P says for a member of the list
    abbrev IsForSome : List B → A → Type 0
    IsForSome ys x = (y : B) × Contains ys y × P y x

    one_more : (y : B) (ys : List B) → IsFinite (P y) → IsFinite (IsForSome ys) → IsFinite (IsForSome (y ∷ ys))
    one_more y ys first rest = (first.0 ++ rest.0, all)
      where
        all : (x : A) → IsForSome (y ∷ ys) x → Contains (first.0 ++ rest.0) x
        all x (z, there, is) = by (member_cases y ys z there)
          where
            by : (y ≡ z) ⊎ Contains ys z → Contains (first.0 ++ rest.0) x
            by (inl e) = Contains-append_left first.0 rest.0 x (first.1 x (subst (λ w. P w x) (sym e) is))
            by (inr h) = Contains-append_right first.0 rest.0 x (rest.1 x (z, h, is))

    -- a set for each member of a list
    pub finite_some : (ys : List B) → ((y : B) → IsFinite (P y)) → IsFinite (λ x. (y : B) × Contains ys y × P y x)
    finite_some [] each = ([], λ x h. absurd (no_member h.0 h.1))
    finite_some (y ∷ ys) each = one_more y ys (each y) (finite_some ys each)

  -- a set for each thing of a finite set
  pub finite_each : {B : Type 0} (Q : B → Type 0) (P : B → A → Type 0) → IsFinite Q → ((y : B) → IsFinite (P y))
      → IsFinite (λ x. (y : B) × Q y × P y x)
  finite_each {B} Q P q each =
      finite_within (λ x. (y : B) × Q y × P y x) (λ x. (y : B) × Contains q.0 y × P y x)
      (λ x h. (h.0, q.1 h.0 h.1, h.2)) (finite_some P q.0 each)

  -- what a function makes of the things of a finite set
  pub finite_image : {B : Type 0} (Q : B → Type 0) (f : B → A) → IsFinite Q → IsFinite (λ x. (y : B) × Q y × (x ≡ f y))
  finite_image Q f q = finite_each Q (λ y x. x ≡ f y) q (λ y. finite_one (f y))

  -- what is found
  pub finite_found : (o : Option A) → IsFinite (λ x. o ≡ Some x)
  finite_found None = ([], λ x e. absurd (cc))
  finite_found (Some a) = (a ∷ [], λ x e. subst (Contains (a ∷ [])) (same x e) (first_member a []))
    where
      same : (x : A) → Some a ≡ Some x → a ≡ x
      same x e = cc
