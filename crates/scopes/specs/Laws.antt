-- The laws of a host as a scope shows it.
use Rattle.std.specs.Prelude.{◌≡◌, ◌⊎◌, ℕ, ◌≤◌, List, [], ◌++◌, Option, Some, None, option_map, is_some, IfSome, refl}
use Rattle.std.proofs.Common.{inl, inr, ⊎_elim, subst, sym, ap, ◌∙◌, arith}
use Rattle.std.proofs.lemmas.List.{append-nil, append_assoc}
use Rattle.host_core.specs.Crashes.{Left, MayLeaveNow}
use Rattle.host_core.specs.State.{Files, IsFront, State}
use Rattle.scopes.specs.Views.{AreOthersSame, AreOthersSettled, CameBefore, IsSeen, KeepsOthers, seen}
use Rattle.scopes.specs.declared.scope.Scope.{Scope}
use Rattle.scopes.specs.Images.{may_seen, seen_may}

-- what is left now is left since then
pub seen_now :
    {these : Left → Type 0} (scope : Scope) (o : Option State) (left : Left)
    → ((whole : Left) → MayLeaveNow o whole → these whole)
    → MayLeaveNow (option_map (seen scope) o) left → IsSeen scope these left
seen_now scope o left each may =
    let found = seen_may scope o left may in (found.0, each found.0 found.1, found.2)

-- and what is left since now is left now
pub now_seen :
    {these : Left → Type 0} (scope : Scope) (o : Option State) (left : Left)
    → ((whole : Left) → these whole → MayLeaveNow o whole)
    → IsSeen scope these left → MayLeaveNow (option_map (seen scope) o) left
now_seen scope o left each (whole, one, is) =
    subst (MayLeaveNow (option_map (seen scope) o)) (sym is)
    (may_seen scope o whole (each whole one))

-- ---- what came out

-- a list is a front of itself
whole : {A : Type 0} (xs : List A) → IsFront xs xs
whole xs = ([], sym (append-nil xs))

-- with more behind it it is one too
pub front_of : {A : Type 0} (xs rest : List A) → IsFront xs (xs ++ rest)
front_of xs rest = (rest, refl)

-- a front of a front is one
pub front_of_front : {A : Type 0} (xs ys zs : List A) → IsFront xs ys → IsFront ys zs
    → IsFront xs zs
front_of_front xs ys zs first second = (
  first.0 ++ second.0,
  second.1 ∙ ap (λ front. front ++ second.0) first.1 ∙ append_assoc xs first.0 second.0,
)

-- what came out is a front of itself
pub came_itself : (s : State) → CameBefore s s.output s.restarts
came_itself s = (whole s.output, whole s.restarts)

-- and of what came out later still
pub came_before : (s t : State) (output : List ℕ) (restarts : List (List ℕ))
    → CameBefore s t.output t.restarts → CameBefore t output restarts
    → CameBefore s output restarts
came_before s t output restarts first second = (
  front_of_front s.output t.output output first.0 second.0,
  front_of_front s.restarts t.restarts restarts first.1 second.1,
)

-- ---- the files of others

module _ {H : Type 0} (told : H → Option State) (moment : H → ℕ)
    (left_since : H → ℕ → Left → Type 0) (scope : Scope) where
  same_others : (files : Files) → AreOthersSame scope files files
  same_others files name none = refl

  -- what is so of a state, where it is told
  told_so : (P : State → Type 0) → ((s : State) → P s) → (o : Option State) → IfSome o P
  told_so P each None = tt
  told_so P each (Some s) = each s

  -- a host keeps them from itself on
  pub keeps_itself : (h : H) → KeepsOthers told moment left_since scope h h
  keeps_itself h = record {
    later = omega arith;
    tells = refl;
    now = now (told h);
    ever = told_so _ (λ s clean t left le since. inl since) (told h);
    grows = grows (told h);
    holds = told_so _ (λ s t left le since. inl since) (told h);
  }
    where
      grows : (o : Option State) → IfSome o (λ s. IfSome o (λ t. CameBefore s t.output t.restarts))
      grows None = tt
      grows (Some s) = came_itself s

      now : (o : Option State)
          → IfSome o (λ s. AreOthersSettled scope s
          → IfSome o (λ t. AreOthersSame scope s.files t.files × AreOthersSettled scope t))
      now None = tt
      now (Some s) = λ clean. (same_others s.files, clean)

  -- they are kept over two runs
  pub keeps_further : (a b c : H) → KeepsOthers told moment left_since scope a b
      → KeepsOthers told moment left_since scope b c
      → KeepsOthers told moment left_since scope a c
  keeps_further a b c first second = record {
    later = omega (arith, first.later, second.later);
    tells = second.tells ∙ first.tells;
    now = now (told a) (told b) (told c) first.tells first.now second.now;
    ever = ever (told a) (told b) first.tells first.now first.ever second.ever;
    grows = grows (told a) (told b) (told c) first.tells first.grows second.grows;
    holds = holds (told a) (told b) first.tells first.grows first.holds second.holds;
  }
    where
      grows : (o p q : Option State) → is_some p ≡ is_some o
          → IfSome o (λ s. IfSome p (λ t. CameBefore s t.output t.restarts))
          → IfSome p (λ s. IfSome q (λ t. CameBefore s t.output t.restarts))
          → IfSome o (λ s. IfSome q (λ t. CameBefore s t.output t.restarts))
      grows None p q tells one two = tt
      grows (Some s) None q tells one two = absurd cc
      grows (Some s) (Some t) None tells one two = tt
      grows (Some s) (Some t) (Some u) tells one two =
          came_before s t u.output u.restarts one two

      holds : (o p : Option State) → is_some p ≡ is_some o
          → IfSome o (λ s. IfSome p (λ t. CameBefore s t.output t.restarts))
          → IfSome o (λ s. (t : ℕ) (left : Left) → t ≤ moment a → left_since b t left
          → left_since a t left ⊎ CameBefore s left.output left.restarts)
          → IfSome p (λ s. (t : ℕ) (left : Left) → t ≤ moment b → left_since c t left
          → left_since b t left ⊎ CameBefore s left.output left.restarts)
          → IfSome o (λ s. (t : ℕ) (left : Left) → t ≤ moment a → left_since c t left
          → left_since a t left ⊎ CameBefore s left.output left.restarts)
      holds None p tells so one two = tt
      holds (Some s) None tells so one two = absurd cc
      holds (Some s) (Some u) tells so one two = λ t left le since.
          ⊎_elim (λ before. one t left le before)
          (λ came. inr (came_before s u left.output left.restarts so came))
          (two t left (omega (arith, le, first.later)) since)

      now : (o p q : Option State) → is_some p ≡ is_some o
          → IfSome o (λ s. AreOthersSettled scope s
          → IfSome p (λ t. AreOthersSame scope s.files t.files × AreOthersSettled scope t))
          → IfSome p (λ s. AreOthersSettled scope s
          → IfSome q (λ t. AreOthersSame scope s.files t.files × AreOthersSettled scope t))
          → IfSome o (λ s. AreOthersSettled scope s
          → IfSome q (λ t. AreOthersSame scope s.files t.files × AreOthersSettled scope t))
      now None p q tells one two = tt
      now (Some s) None q tells one two = absurd cc
      now (Some s) (Some t) None tells one two = λ clean. tt
      now (Some s) (Some t) (Some u) tells one two = λ clean.
          let here = one clean in
          let there = two here.1 in
          ((λ name none. there.0 name none ∙ here.0 name none), there.1)

      ever : (o p : Option State) → is_some p ≡ is_some o
          → IfSome o (λ s. AreOthersSettled scope s
          → IfSome p (λ t. AreOthersSame scope s.files t.files × AreOthersSettled scope t))
          → IfSome o (λ s. AreOthersSettled scope s → (t : ℕ) (left : Left) → t ≤ moment a
          → left_since b t left → left_since a t left ⊎ AreOthersSame scope s.files left.files)
          → IfSome p (λ s. AreOthersSettled scope s → (t : ℕ) (left : Left) → t ≤ moment b
          → left_since c t left → left_since b t left ⊎ AreOthersSame scope s.files left.files)
          → IfSome o (λ s. AreOthersSettled scope s → (t : ℕ) (left : Left) → t ≤ moment a
          → left_since c t left → left_since a t left ⊎ AreOthersSame scope s.files left.files)
      ever None p tells so one two = tt
      ever (Some s) None tells so one two = absurd cc
      ever (Some s) (Some u) tells so one two = λ clean t left le since.
          let here = so clean in
          ⊎_elim (λ before. one clean t left le before)
          (λ same. inr (λ name none. same name none ∙ here.0 name none))
          (two here.1 t left (omega (arith, le, first.later)) since)
