use Rattle.std.proofs.Common.{refl, arith, ◌≡◌, ◌/◌, get_or, bit_or}
use Rattle.yang_pattern.proofs.SetLemmas.{or_bit}
use Rattle.yang_pattern.proofs.sets.Places.insert_all.Goals as goal

pub returns : goal.returns
returns c = λ q h.
    let e : get_or c.loop-i.self.words (q / 64) 0 ≡ bit_or (get_or c.args.self.now.words (q / 64) 0) (get_or c.args.other.now.words (q / 64) 0) =
    c.loop-i.invariant.done (q / 64) (omega arith) in
    rw (e, or_bit) refl
