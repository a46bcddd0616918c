-- A move changes its own table alone, so that half way of a plan all tables without a model are as at its ends.
use Rattle.std.proofs.Common.{◌≡◌, ℕ, zero, suc, List, [], ◌∷◌, cond, Option, Some, None, Ordering, Less, Equal, Greater, refl, sym, ap, ◌∙◌, subst}
use Rattle.std.specs.Prelude.{not}
use Rattle.std.specs.Option.{option_map_or}
use Rattle.std.specs.Cmp.Lexicographic.{nat_list_cmp_total}
use Rattle.std.specs.FinMap.Entries.{find-put}
use Rattle.std.specs.Ordering.{is_eq}
use Rattle.host_core.specs.Names.{name_cmp}
use Rattle.conf_doc.specs.Changes.{with_part}
use Rattle.conf_doc.specs.Pairs.{change_part, find, put, without}
use Rattle.conf_doc.specs.declared.configuration.Config.{Config}
use Rattle.conf_doc.specs.declared.parts.Part.{Part}
use Rattle.conf_doc.specs.declared.parts.Part.TheVariants as part
use Rattle.conf_doc.proofs.Edits.{same_name}
use Rattle.move_core.specs.Contexts.{AgreeElsewhere, IsModelled, rulebook}
use Rattle.move_core.specs.Listed.{IsListed}
use Rattle.move_core.specs.Moves.{part_after, place, step}
use Rattle.move_core.specs.Plans.{IsReachable, IsWay, conf}
use Rattle.move_core.specs.Services.{table_of}
use Rattle.move_core.specs.declared.contexts.Ctx.{Ctx}
use Rattle.move_core.specs.declared.moves.Move.{Move}

-- ---- another name

module _ {A : Type 0} (q k : List ℕ) (apart : q ≡ k → ⊥) where
  put_other : (a : A) (ps : List (List ℕ × A)) → find q (put k a ps) ≡ find q ps
  put_other a ps = find-put name_cmp nat_list_cmp_total q k a ps ∙ by (name_cmp q k) refl
    where
      by : (r : Ordering) → name_cmp q k ≡ r → cond (is_eq r) (Some a) (find q ps) ≡ find q ps
      by Less e = refl
      by Equal e = absurd (apart (same_name q k e))
      by Greater e = refl

  without_other : (ps : List (List ℕ × A)) → find q (without k ps) ≡ find q ps
  without_other [] = refl
  without_other (p ∷ ps) = by (without_other ps) (name_cmp k p.0) refl
    where
      skipped : k ≡ p.0 → (r : Ordering) → name_cmp q p.0 ≡ r → find q ps ≡ cond (is_eq r) (Some p.1) (find q ps)
      skipped same Less e = refl
      skipped same Equal e = absurd (apart (same_name q p.0 e ∙ sym same))
      skipped same Greater e = refl

      by : find q (without k ps) ≡ find q ps → (r : Ordering) → name_cmp k p.0 ≡ r
          → find q (cond (not (is_eq r)) (p ∷ without k ps) (without k ps)) ≡ find q (p ∷ ps)
      by rest Less e = ap (λ (o : Option A). cond (is_eq (name_cmp q p.0)) (Some p.1) o) rest
      by rest Equal e = rest ∙ skipped (same_name k p.0 e) (name_cmp q p.0) refl
      by rest Greater e = ap (λ (o : Option A). cond (is_eq (name_cmp q p.0)) (Some p.1) o) rest

  change_other : (f : A → A) (ps : List (List ℕ × A)) → find q (change_part k f ps) ≡ find q ps
  change_other f ps = by (find k ps)
    where
      by : (o : Option A) → find q (option_map_or (λ a. put k (f a) ps) o ps) ≡ find q ps
      by None = refl
      by (Some a) = put_other (f a) ps

-- ---- another table

part_other : (c : Config) (names : List (List ℕ)) (o : Option Part) (u : List ℕ) → (u ≡ table_of names → ⊥)
    → find u (with_part c names o) ≡ find u c
part_other c [] o u apart = refl
part_other c (t ∷ []) None u apart = without_other u t apart c
part_other c (t ∷ []) (Some (part.Table table)) u apart = put_other u t apart table c
part_other c (t ∷ []) (Some (part.Entry entry)) u apart = refl
part_other c (t ∷ []) (Some (part.Value v)) u apart = refl
part_other c (t ∷ k ∷ []) None u apart = change_other u t apart (without k) c
part_other c (t ∷ k ∷ []) (Some (part.Table table)) u apart = refl
part_other c (t ∷ k ∷ []) (Some (part.Entry entry)) u apart = change_other u t apart (put k entry) c
part_other c (t ∷ k ∷ []) (Some (part.Value v)) u apart = refl
part_other c (t ∷ k ∷ f ∷ []) None u apart = change_other u t apart (change_part k (without f)) c
part_other c (t ∷ k ∷ f ∷ []) (Some (part.Table table)) u apart = refl
part_other c (t ∷ k ∷ f ∷ []) (Some (part.Entry entry)) u apart = refl
part_other c (t ∷ k ∷ f ∷ []) (Some (part.Value v)) u apart = change_other u t apart (change_part k (put f v)) c
part_other c (t ∷ k ∷ f ∷ n ∷ ns) o u apart = refl

-- ---- half way

-- no listed move has its place in a table without a model
abbrev pub HaveModels : Type 0
HaveModels =
    (ctx : Ctx) (cur goal : Config) (m : Move) → AgreeElsewhere ctx cur goal → IsListed (rulebook ctx) cur goal m
    → IsModelled ctx.models (table_of (place m))

pub half_elsewhere : HaveModels → (ctx : Ctx) (goal c : Config) (ms : List Move) (x : Config)
    → IsWay (rulebook ctx) goal c ms x → AgreeElsewhere ctx c goal
    → (k : ℕ) → AgreeElsewhere ctx (conf c ms k) goal
half_elsewhere law ctx goal c [] x way agree k = agree
half_elsewhere law ctx goal c (m ∷ ms) x way agree zero = agree
half_elsewhere law ctx goal c (m ∷ ms) x way agree (suc k) =
    half_elsewhere law ctx goal (step c m) ms x way.1
    (λ t isnt.
    part_other c (place m) (part_after c m) t
    (λ e. isnt (subst (IsModelled ctx.models) (sym e) (law ctx c goal m agree way.0.listed)))
    ∙ agree t isnt) k

-- the rest of a way is one
pub rest_reaches : (ctx : Ctx) (goal c : Config) (ms : List Move) (x : Config) → IsWay (rulebook ctx) goal c ms x
    → (k : ℕ) → IsReachable (rulebook ctx) goal (conf c ms k) x
rest_reaches ctx goal c [] x way k = ([], way)
rest_reaches ctx goal c (m ∷ ms) x way zero = (m ∷ ms, way)
rest_reaches ctx goal c (m ∷ ms) x way (suc k) = rest_reaches ctx goal (step c m) ms x way.1 k
