use Rattle.std.proofs.Common.{◌<◌, ◌+◌, ℕ, List, Vec, Global, refl, sym, subst, arith}
use Rattle.ref_index.specs.EntryNames.{StayNamed}
use Rattle.ref_index.specs.declared.entry_names.EntryName.{EntryName}
use Rattle.ref_index.proofs.Sides.{ChangedOf, adds_changed_of, changed_absent, changed_kept, changed_pushed}
use Rattle.ref_index.proofs.entry_names.add_changed_of.Goals as goal
use Rattle.ref_index.proofs.entry_names.add_changed_of.Goals.{in-Some+then-is_apart+in_ok-push, in-Some+else-is_apart, in_default}

pub returns : goal.returns
returns c =
    let end = c.len-k-end.ensures.len in
    let past = c.loop-k-test.false in
    adds_changed_of c.args.parts.now c.args.name.now c.args.left.now c.args.right.now c.args.found.now.items c.loop-k.found.items c.loop-k.k (omega (arith, end, past))
    c.loop-k.invariant.0 c.loop-k.invariant.1

pub loop-k-preserved : goal.loop-k-preserved
loop-k-preserved c =
    let key = c.name_at-key.result in
    let parts = c.args.parts.now in
    let Is : List EntryName → Type 0 = λ names. StayNamed c.args.found.now.items names × ((j : ℕ) → j < c.loop-k.k + 1 → ChangedOf parts c.args.name.now c.args.left.now c.args.right.now names j) in
    elim c.match-index_from.branch [
      | in-Some+then-is_apart+in_ok-push w ↦ subst (λ (v : Vec EntryName Global). Is v.items) (sym w.found-is)
          (changed_pushed c.args.found.now.items c.loop-k.found.items c.loop-k.invariant.0 c.args.name.now c.args.left.now c.args.right.now c.loop-k.k key.now c.name_at-key.ensures
          parts c.loop-k.invariant.1 w.push.new.self.items (record { table = c.args.name; key = key }) w.in_ok-push.ensures.items refl refl)
      | in-Some+else-is_apart w ↦ subst (λ (v : Vec EntryName Global). Is v.items) (sym w.found-is)
          (changed_kept c.args.found.now.items c.loop-k.found.items c.loop-k.invariant.0 c.args.name.now c.args.left.now c.args.right.now c.loop-k.k key.now c.name_at-key.ensures
          parts c.loop-k.invariant.1 w.in-Some.i w.part_at.result.now w.part_at-in-Some.result.now w.part_at-in-Some.ensures.formed w.part_at.ensures.part w.in-Some.ensures.at
          w.part_at-in-Some.ensures.part (w.is_apart.ensures w.if-is_apart.false))
      | in_default w ↦ subst (λ (v : Vec EntryName Global). Is v.items) (sym w.found-is)
          (changed_absent c.args.found.now.items c.loop-k.found.items c.loop-k.invariant.0 c.args.name.now c.args.left.now c.args.right.now c.loop-k.k key.now c.name_at-key.ensures
          parts c.loop-k.invariant.1 w.in_default.ensures.at)
    ]
