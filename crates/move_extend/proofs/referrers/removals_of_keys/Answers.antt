use Rattle.std.proofs.Common.{inl, refl}
use Rattle.move_extend.proofs.referrers.removals_of_keys.Goals as goal

pub find_in_config-requires : goal.find_in_config-requires
find_in_config-requires c = λ at w wanted broken. inl refl
