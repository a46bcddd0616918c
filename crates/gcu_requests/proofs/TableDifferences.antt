-- What two walks say of two configurations.
use denote.Bor.{Bor}
use Rattle.std.proofs.Common.{◌≡◌, ℕ, List, true, false, cond, Option, Some, None, IsSome, MatchOption, Ordering, Less, Equal, Greater, is_lt, refl, sym, subst}
use Rattle.std.specs.Option.{option_copied}
use Rattle.std.specs.Cmp.Lexicographic.{nat_list_cmp_total}
use Rattle.host_core.specs.Names.{name_cmp}
use Rattle.conf_doc.specs.Pairs.{find}
use Rattle.conf_doc.specs.declared.configuration.Config.{Config}
use Rattle.conf_doc.specs.declared.configuration.Table.{Table}
use Rattle.conf_doc.proofs.Edits.{same_name, turned}
use Rattle.move_core.specs.Contexts.{AgreeElsewhere}
use Rattle.move_core.specs.declared.contexts.Ctx.{Ctx}
use Rattle.gcu_requests.specs.GoalTables.{AgreeAt, DifferAt, IsFirstDifference}
use Rattle.gcu_requests.specs.TableWalks.{AreAt, AreBelow, IsLesser, lesser}

less_is : (c : Ordering) → is_lt c ≡ true → c ≡ Less
less_is Less e = refl
less_is Equal e = cc
less_is Greater e = cc

-- what is before a name that isn't after another one is before that one
before_both : (u l r : List ℕ) → is_lt (name_cmp r l) ≡ false → name_cmp u l ≡ Less → name_cmp u r ≡ Less
before_both u l r not_less less = by (name_cmp r l) refl not_less
  where
    by : (c : Ordering) → name_cmp r l ≡ c → is_lt c ≡ false → name_cmp u r ≡ Less
    by Less e never = absurd cc
    by Equal e _ = subst (λ n. name_cmp u n ≡ Less) (sym (same_name r l e)) less
    by Greater e _ = nat_list_cmp_total.trans u l r less (turned r l Greater e)

module _ (ctx : Ctx) (a b : Config) where
  found_same : (x y : Option Table) → (IsSome x → x ≡ y) → (IsSome y → y ≡ x) → x ≡ y
  found_same None None left right = refl
  found_same (Some t) y left right = left refl
  found_same None (Some t) left right = sym (right refl)

  -- a table that is the same wherever it is there
  agree_at : (u : List ℕ) → (IsSome (find u a) → AgreeAt ctx a b u) → (IsSome (find u b) → AgreeAt ctx b a u)
      → AgreeAt ctx a b u
  agree_at u left right unmodelled = found_same (find u a) (find u b) (λ s. left s unmodelled) (λ s. right s unmodelled)

  -- what a walk over the first one answers, and one over the second
  abbrev Seen : Config → Config → Option (List ℕ) → Type 0
  Seen of other o =
      MatchOption o (AreAt (AgreeAt ctx of other) of)
      (λ t. DifferAt ctx of other t × AreBelow (AgreeAt ctx of other) of t)

  abbrev IsAnswer : Option (List ℕ) → Type 0
  IsAnswer o = MatchOption o (AgreeElsewhere ctx a b) (λ t. IsFirstDifference ctx a b t)

  by_lesser : (l r : Option (List ℕ)) → Seen a b l → Seen b a r → IsAnswer (lesser l r)
  by_lesser None None left right = λ u. agree_at u (left u) (right u)
  by_lesser None (Some r) left right =
      ((right.0.0, λ same. right.0.1 (sym same)), λ u less. agree_at u (left u) (right.1 u less))
  by_lesser (Some l) None left right = (left.0, λ u less. agree_at u (left.1 u less) (right u))
  by_lesser (Some l) (Some r) left right =
      elim (is_lt (name_cmp r l)) as (λ c. is_lt (name_cmp r l) ≡ c → IsAnswer (cond c (Some r) (Some l))) [
        | true ↦ λ e. (
          (right.0.0, λ same. right.0.1 (sym same)),
          λ u less. agree_at u (left.1 u (nat_list_cmp_total.trans u r l less (less_is _ e))) (right.1 u less),
        )
        | false ↦ λ e. (left.0, λ u less. agree_at u (left.1 u less) (right.1 u (before_both u l r e less)))
      ] refl

  seen : (of other : Config) (o : Option (Bor (List ℕ)))
      → MatchOption o (AreAt (AgreeAt ctx of other) of) (λ t. DifferAt ctx of other t.now × AreBelow (AgreeAt ctx of other) of t.now) → Seen of other (option_copied o)
  seen of other None h = h
  seen of other (Some t) h = h

  answered : (o : Option (Bor (List ℕ))) → IsAnswer (option_copied o)
      → MatchOption o (AgreeElsewhere ctx a b) (λ t. IsFirstDifference ctx a b t.now)
  answered None h = h
  answered (Some t) h = h

  pub found : (l r x : Option (Bor (List ℕ)))
      → MatchOption l (AreAt (AgreeAt ctx a b) a) (λ t. DifferAt ctx a b t.now × AreBelow (AgreeAt ctx a b) a t.now)
      → MatchOption r (AreAt (AgreeAt ctx b a) b) (λ t. DifferAt ctx b a t.now × AreBelow (AgreeAt ctx b a) b t.now)
      → IsLesser (option_copied l) (option_copied r) (option_copied x)
      → MatchOption x (AgreeElsewhere ctx a b) (λ t. IsFirstDifference ctx a b t.now)
  found l r x left right is =
      answered x
      (subst IsAnswer (sym is) (by_lesser (option_copied l) (option_copied r) (seen a b l left) (seen b a r right)))
