use Rattle.std.proofs.Common.{◌<◌, length, arith}
use Rattle.yang_pattern.proofs.FrameLemmas.{stack_length, enter_full, enter_room, stack_push}
use Rattle.yang_pattern.proofs.frames.Reader.enter.Goals as goal

pub returns-then-len-ge-MOST_GROUPS : goal.returns-then-len-ge-MOST_GROUPS
returns-then-len-ge-MOST_GROUPS c = λ r s is.
    let n = stack_length r c.args.self.outer.items s.outer is.outer in
    enter_full s (omega (arith, n, c.if-len-ge-MOST_GROUPS.true, c.len.ensures))

pub returns : goal.returns
returns c = λ r s is.
    let n = stack_length r c.args.self.outer.items s.outer is.outer in
    let room : length s.outer < 32 = omega (arith, n, c.if-len-ge-MOST_GROUPS.false, c.len.ensures) in
    rw (enter_room s room) (record {
      current = c.new.ensures r;
      outer = stack_push r c.args.self.outer.items c.push.new.self.items c.args.self.current s.outer s.current c.in_ok-push.ensures.items is.current is.outer;
    })
