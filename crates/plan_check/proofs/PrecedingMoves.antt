-- The moves in the tables of cur and of goal are all that may precede.
use Rattle.std.proofs.Common.{List, map, Contains, inl, inr, refl, subst}
use Rattle.move_core.specs.Contexts.{rulebook}
use Rattle.move_core.specs.Listed.{IsGeneratedMove}
use Rattle.move_core.specs.Moves.{IsDefined, place}
use Rattle.move_core.specs.declared.moves.Generated.{Generated}
use Rattle.move_core.specs.declared.moves.Move.{Move}
use Rattle.plan_check.specs.Backwards.{ArePreceding, HasBeginning, Leads}
use Rattle.plan_check.specs.Beginnings.{Begins, IsListedAt, Precedes}
use Rattle.plan_check.specs.Candidates.{IsPlainAt, Takes}
use Rattle.plan_check.specs.Nearby.{IsInTables}
use Rattle.plan_check.specs.declared.preceding.Sought.{Sought}
use Rattle.plan_check.proofs.ListedShapes.{reached, shape_of}
use Rattle.plan_check.proofs.NearPlaces.{plain_in, required_in}
use Rattle.plan_check.proofs.WholeEntries.{IsWholeAdd, whole_add}

module _ (s : Sought) (old one new : List Move)
    (generated : (g : Generated) → IsGeneratedMove (rulebook s.here.now.ctx.now) s.here.now.cur.now s.here.now.goal.now g → IsDefined s.here.now.cur.now g.mv)
    (listed : (m : Move) → IsListedAt s.here.now m → IsDefined s.here.now.cur.now m)
    (first : Takes (IsInTables s s.here.now.cur.now (map (λ e. e.0) s.here.now.cur.now)) old one)
    (then : Takes (IsInTables s s.here.now.goal.now (map (λ e. e.0) s.here.now.goal.now)) one new) where
  plain : (m : Move) → Leads s.here.now m s.mv.now → IsPlainAt s.here.now (place m) m → Contains new m
  plain m leads is = elim (reached s.here.now m leads.0 (place m) refl is) [
    | inl at ↦ then.kept m (first.all m (plain_in s m leads s.here.now.cur.now (place m) at is))
    | inr at ↦ then.all m (plain_in s m leads s.here.now.goal.now (place m) at is)
  ]

  begun : (m : Move) → Begins s.here.now m → IsDefined s.here.now.cur.now m
  begun m is = subst (IsDefined s.here.now.cur.now) is.move (generated is.first is.generated)

  whole : IsWholeAdd s.here.now s.mv.now → HasBeginning s.here.now s.mv.now new
  whole is =
      let leads : Leads s.here.now is.mv s.mv.now = (begun is.mv is.begins, is.leads) in
      record { mv = is.mv; begins = is.begins; leads = leads; there = plain is.mv leads is.plain }

  pub preceding : ArePreceding s.here.now s.mv.now new
  preceding m is more = elim (shape_of s.here.now m (listed m is) is) [
    | inl known ↦ elim known [
      | inl at ↦ inl (plain m (listed m is, more) at, (listed m is, more))
      | inr puts ↦ inl (
        then.kept m (first.all m (required_in s m (listed m is, more) s.here.now.cur.now puts.table puts.key puts.entry puts.gives)),
        (listed m is, more),
      )
    ]
    | inr adds ↦
        inr (whole (whole_add s.here.now s.mv.now adds.table adds.key adds.new adds.entry.entry adds.entry.lacks adds.entry.there adds.entry.alike
        (subst (λ y. Precedes s.here.now y s.mv.now) adds.move more)))
  ]
