use Rattle.std.proofs.Common.{map, Contains, inr, sym, ap, subst, ◌∙◌}
use Rattle.move_extend.proofs.referrers.removals_of_key.Goals as goal

pub find_in_config-requires : goal.find_in_config-requires
find_in_config-requires c = λ at w wanted broken.
    inr (subst (λ parts. Contains parts w.text) (sym (ap (map (λ p. p.now)) c.deref.ensures.value ∙ c.in_ok-parts.ensures)) (c.requires at w wanted broken))
