-- Lists of moves compared by where they part.
use Rattle.std.proofs.Common.{◌≡◌, inl, inr, List, [], ◌∷◌, ◌++◌, refl, sym, ap, subst}
use Rattle.std.specs.List.{Contains}
use Rattle.conf_doc.specs.declared.configuration.Config.{Config}
use Rattle.move_core.specs.Moves.{step}
use Rattle.move_core.specs.Ways.{passed}
use Rattle.move_core.specs.declared.moves.Move.{Move}
use Rattle.plan_search.specs.FirstWays.{IsBefore, SaysOfMoves}
use Rattle.plan_search.proofs.Members.{first_member, later_member}

-- the configuration after the moves
abbrev pub after : Config → List Move → Config
after c [] = c
after c (m ∷ ms) = after (step c m) ms

pub after_push : (c : Config) (ms : List Move) (m : Move) → after c (ms ++ m ∷ []) ≡ step (after c ms) m
after_push c [] m = refl
after_push c (n ∷ ms) m = after_push (step c n) ms m

-- ---- the configurations passed

pub passed_append : (c : Config) (ms : List Move) (m : Move) (rest : List Move)
    → passed c (ms ++ m ∷ rest) ≡ passed c ms ++ passed (step (after c ms) m) rest
passed_append c [] m rest = refl
passed_append c (n ∷ ms) m rest = ap (λ cs. c ∷ cs) (passed_append (step c n) ms m rest)

pub passed_first : (c : Config) (ms : List Move) → Contains (passed c ms) c
passed_first c [] = first_member c []
passed_first c (m ∷ ms) = first_member c (passed (step c m) ms)

pub passed_last : (c : Config) (ms : List Move) → Contains (passed c ms) (after c ms)
passed_last c [] = first_member c []
passed_last c (m ∷ ms) = later_member c (passed (step c m) ms) (after (step c m) ms) (passed_last (step c m) ms)

-- ---- which is before

module _ (R : SaysOfMoves) where
  -- the first moves of a list are before it
  pub prefix_before : (c : Config) (ms : List Move) (n : Move) (rest : List Move) → IsBefore R c ms (ms ++ n ∷ rest)
  prefix_before c [] n rest = tt
  prefix_before c (m ∷ ms) n rest = inr (refl, prefix_before (step c m) ms n rest)

  -- where lists part, their moves decide
  pub parted_before : (c : Config) (ts : List Move) (m n : Move) (us vs : List Move)
      → R (after c ts) m n → IsBefore R c (ts ++ m ∷ us) (ts ++ n ∷ vs)
  parted_before c [] m n us vs r = inl r
  parted_before c (t ∷ ts) m n us vs r = inr (refl, parted_before (step c t) ts m n us vs r)

  module _ (one_way : (c : Config) (m n : Move) → R c m n → ¬ R c n m) where
    -- no move stands before itself
    itself : (c : Config) (m n : Move) → m ≡ n → ¬ R c m n
    itself c m n e r = one_way c m n r (subst (λ x. R c x m) e (subst (R c m) (sym e) r))

    -- a list isn't before its first moves
    pub longer_not_before : (c : Config) (ms rest : List Move) → ¬ IsBefore R c (ms ++ rest) ms
    longer_not_before c [] [] h = h
    longer_not_before c [] (n ∷ rest) h = h
    longer_not_before c (m ∷ ms) rest (inl r) = itself c m m refl r
    longer_not_before c (m ∷ ms) rest (inr h) = longer_not_before (step c m) ms rest h.1

    -- no two lists are before each other
    pub not_both_before : (c : Config) (ms ns : List Move) → IsBefore R c ms ns → ¬ IsBefore R c ns ms
    not_both_before c [] [] a b = a
    not_both_before c [] (n ∷ ns) a b = b
    not_both_before c (m ∷ ms) [] a b = a
    not_both_before c (m ∷ ms) (n ∷ ns) (inl r) (inl s) = one_way c m n r s
    not_both_before c (m ∷ ms) (n ∷ ns) (inl r) (inr h) = itself c m n (sym h.0) r
    not_both_before c (m ∷ ms) (n ∷ ns) (inr h) (inl s) = itself c n m (sym h.0) s
    not_both_before c (m ∷ ms) (n ∷ ns) (inr h) (inr k) =
        not_both_before (step c m) ms ns h.1 (subst (λ x. IsBefore R (step c x) ns ms) (sym h.0) k.1)
