-- Ways, one step more, and cut at a step.
use Rattle.std.proofs.Common.{◌≡◌, List, [], ◌∷◌, ◌++◌, refl, sym, ap, ◌∙◌, subst}
use Rattle.conf_doc.specs.declared.configuration.Config.{Config}
use Rattle.move_core.specs.Moves.{step}
use Rattle.move_core.specs.Plans.{IsAllowed, IsWay}
use Rattle.move_core.specs.Rulebook.{Rulebook}
use Rattle.move_core.specs.declared.moves.Move.{Move}

module _ (book : Rulebook) (goal : Config) where
  -- one step more
  pub way_more : (c : Config) (ms : List Move) (d : Config) (m : Move) (x : Config) → IsWay book goal c ms d → IsAllowed book goal d m → x ≡ step d m → IsWay book goal c (ms ++ m ∷ []) x
  way_more c [] d m x way allowed is = (subst (λ e. IsAllowed book goal e m) way allowed, is ∙ ap (λ e. step e m) way)
  way_more c (n ∷ ns) d m x way allowed is = (way.0, way_more (step c n) ns d m x way.1 allowed is)

  -- a way leads to one end
  pub one_end : (c : Config) (ms : List Move) (x y : Config) → IsWay book goal c ms x → IsWay book goal c ms y → x ≡ y
  one_end c [] x y one two = one ∙ sym two
  one_end c (m ∷ ms) x y one two = one_end (step c m) ms x y one.1 two.1

  -- the step in the middle of a way is allowed where it stands
  pub way_cut : (c : Config) (before : List Move) (m : Move) (rest : List Move) (x : Config) → IsWay book goal c (before ++ m ∷ rest) x
      → (d : Config) × IsWay book goal c before d × IsAllowed book goal d m
  way_cut c [] m rest x way = (c, refl, way.0)
  way_cut c (n ∷ ns) m rest x way =
      let cut = way_cut (step c n) ns m rest x way.1 in
      (cut.0, (way.0, cut.1), cut.2)
