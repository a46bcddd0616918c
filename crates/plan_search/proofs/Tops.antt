-- What holds of the last configuration of a stack, as long as it is the last.
use Rattle.std.proofs.Common.{◌≡◌, ◌∷◌, [], List, Option, None, Some, sym, ap, subst}
use Rattle.conf_doc.specs.declared.configuration.Config.{Config}
use Rattle.move_core.specs.declared.moves.Generated.{Generated}
use Rattle.move_core.specs.declared.moves.Move.{Move}
use Rattle.move_lists.specs.declared.firsts.First.{First}
use Rattle.plan_search.specs.Stacks.{AtTop, IsAfterTop, IsKept, IsTop, Spot, configs_of}
use Rattle.plan_search.specs.declared.searching.Kept.{Kept}
use Rattle.plan_search.specs.declared.searching.Kept.TheVariants.{Nothing, Offers, Firsts}

-- a move taken changes no configuration
pub configs_taken : (ss new : List Spot) (m : Option Move) → IsAfterTop ss new m → configs_of new ≡ configs_of ss
configs_taken [] new m h = absurd h
configs_taken (s ∷ ss) new None h = ap configs_of h.1
configs_taken (s ∷ ss) new (Some m) h = ap configs_of h.2

module _ {X : Type 0} (P : Config → X → Type 0) where
  same_first : (a b : Config) (xs ys : List Config) → a ∷ xs ≡ b ∷ ys → a ≡ b
  same_first a b xs ys e = cc

  no_first : (a : Config) (xs : List Config) → ¬ ([] ≡ a ∷ xs)
  no_first a xs e = cc

  -- with the same configurations the last one is the same
  top_same : (ss new : List Spot) (x : X) → configs_of new ≡ configs_of ss → AtTop P ss x → AtTop P new x
  top_same [] new x e h = absurd h
  top_same (s ∷ ss) [] x e h = absurd (no_first s.config (configs_of ss) e)
  top_same (s ∷ ss) (t ∷ ts) x e h =
      subst (λ c. P c x) (sym (same_first t.config s.config (configs_of ts) (configs_of ss) e)) h

  -- it holds of the last configuration
  pub at_top : (ss : List Spot) (c : Config) (x : X) → IsTop ss c → AtTop P ss x → P c x
  at_top [] c x top at = absurd at
  at_top (s ∷ ss) c x top at = subst (λ d. P d x) top at

-- with the same configurations what is kept is of the last one still
pub kept_same : (P : Config → List Generated → Type 0) (Q : Config → List First → Type 0)
    → (ss new : List Spot) (k : Kept) → configs_of new ≡ configs_of ss → IsKept P Q ss k → IsKept P Q new k
kept_same P Q ss new Nothing e h = h
kept_same P Q ss new (Offers os) e h = top_same P ss new os e h
kept_same P Q ss new (Firsts fs) e h = top_same Q ss new fs e h
