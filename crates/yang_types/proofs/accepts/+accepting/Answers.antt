use Rattle.std.proofs.Common.{arith, sym, subst}
use Rattle.std.specs.Prelude.{List}
use Rattle.yang_types.specs.Accepts.{AcceptsAny}
use Rattle.yang_types.specs.DataType.{DataType, types_of}
use Rattle.yang_types.proofs.Unions.{member_weight, member_accepts, rest_accepts, none_accepts}
use Rattle.yang_types.proofs.accepts.+accepting.Goals as goal

pub accepts_any-accepts_plain-requires : goal.accepts_any-accepts_plain-requires
accepts_any-accepts_plain-requires t c =
    let w = member_weight c.items-members.result.now c.args.types.now c.loop-ty.ty-index c.ty-item.result c.items-members.ensures c.loop-ty-test.true c.ty-item.is in
    (omega arith, tt)

pub accepts_any-returns-then-accepts_plain : goal.accepts_any-returns-then-accepts_plain
accepts_any-returns-then-accepts_plain t c =
    let m = member_accepts c.items-members.result.now c.args.types.now c.loop-ty.ty-index c.ty-item.result c.args.text.now c.items-members.ensures c.loop-ty-test.true c.ty-item.is (c.accepts_plain.ensures.0 c.if-accepts_plain.true) in
    (λ _. m, λ _. cc)

pub accepts_any-loop-ty-init : goal.accepts_any-loop-ty-init
accepts_any-loop-ty-init t c =
    let P : List DataType → Type 0 = λ ds. AcceptsAny (types_of ds) c.args.text.now in
    λ any. subst P (sym c.items-members.ensures) any

pub accepts_any-loop-ty-preserved : goal.accepts_any-loop-ty-preserved
accepts_any-loop-ty-preserved t c = λ any.
    rest_accepts c.items-members.result.now c.loop-ty.ty-index c.ty-item.result c.args.text.now c.loop-ty-test.true c.ty-item.is (λ accepted. absurd (let e = c.accepts_plain.ensures.1 accepted in cc)) (c.loop-ty.invariant any)

pub accepts_any-returns : goal.accepts_any-returns
accepts_any-returns t c =
    (λ h. absurd (cc), λ any. absurd (none_accepts c.items-members.result.now c.loop-ty.ty-index c.args.text.now c.loop-ty-test.false (c.loop-ty.invariant any)))
