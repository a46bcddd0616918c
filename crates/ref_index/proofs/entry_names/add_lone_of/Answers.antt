use Rattle.std.proofs.Common.{◌<◌, ◌+◌, ℕ, List, Vec, Global, refl, sym, subst, arith}
use Rattle.ref_index.specs.EntryNames.{StayNamed}
use Rattle.ref_index.specs.declared.entry_names.EntryName.{EntryName}
use Rattle.ref_index.proofs.Sides.{LoneOf, adds_lone_of, lone_kept, lone_pushed}
use Rattle.ref_index.proofs.entry_names.add_lone_of.Goals as goal
use Rattle.ref_index.proofs.entry_names.add_lone_of.Goals.{in-Some, in-None+in_ok-push-in-None}

pub returns : goal.returns
returns c =
    let end = c.len-k-end.ensures.len in
    let past = c.loop-k-test.false in
    adds_lone_of c.args.name.now c.args.left.now c.args.right.now c.args.found.now.items c.loop-k.found.items c.loop-k.k (omega (arith, end, past))
    c.loop-k.invariant.0 c.loop-k.invariant.1

pub loop-k-preserved : goal.loop-k-preserved
loop-k-preserved c =
    let key = c.name_at-key.result in
    let Is : List EntryName → Type 0 = λ names. StayNamed c.args.found.now.items names × ((j : ℕ) → j < c.loop-k.k + 1 → LoneOf c.args.name.now c.args.left.now c.args.right.now names j) in
    elim c.match-index_from.branch [
      | in-Some w ↦ subst (λ (v : Vec EntryName Global). Is v.items) (sym w.found-is)
          (lone_kept c.args.found.now.items c.loop-k.found.items c.loop-k.invariant.0 c.args.name.now c.args.left.now c.args.right.now c.loop-k.k key.now c.name_at-key.ensures
          w.in-Some.i w.in-Some.ensures.at c.loop-k.invariant.1)
      | in-None+in_ok-push-in-None w ↦ subst (λ (v : Vec EntryName Global). Is v.items) (sym w.found-is)
          (lone_pushed c.args.found.now.items c.loop-k.found.items c.loop-k.invariant.0 c.args.name.now c.args.left.now c.args.right.now c.loop-k.k key.now c.name_at-key.ensures
          w.push.new.self.items (record { table = c.args.name; key = key }) w.in_ok-push-in-None.ensures.items refl refl c.loop-k.invariant.1)
    ]
