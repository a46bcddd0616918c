use Rattle.std.proofs.Common.{[], ◌∷◌, ◌++◌, Contains, refl, sym, ap, ◌∙◌, subst}
use Rattle.plan_check.specs.Backwards.{LeadsAs}
use Rattle.plan_check.proofs.Loops.{not_so}
use Rattle.plan_check.proofs.Rounds.{joins_none, joins_one}
use Rattle.plan_check.proofs.listed.join.Goals as goal

pub returns-then-has_move : goal.returns-then-has_move
returns-then-has_move c =
    let s = c.args.sought.now in
    let ms = c.args.found.now.items in
    let there = subst (λ l. Contains l c.args.mv.now) c.deref.ensures.value (c.has_move.ensures.0 c.if-has_move.true) in
    joins_none s.here.now (LeadsAs s.here.now c.args.mv.now s.mv.now) ms (λ a is. subst (Contains ms) (sym is.0) there)

pub returns-then-not-leads : goal.returns-then-not-leads
returns-then-not-leads c =
    let s = c.args.sought.now in
    joins_none s.here.now (LeadsAs s.here.now c.args.mv.now s.mv.now) c.args.found.now.items
    (λ a is. absurd (not_so c.in_ok-leads.leads c.in_ok-leads.ensures.1 c.if-not-leads.true is.1))

pub returns-then-generated : goal.returns-then-generated
returns-then-generated c = record {
  mv = c.args.mv.now;
  begins = c.in_ok-generated.ensures.0 c.if-generated.true;
  leads = c.in_ok-leads.ensures.0 c.if-not-leads.false;
}

pub returns : goal.returns
returns c =
    let s = c.args.sought.now in
    let m = c.args.mv.now in
    let leads = c.in_ok-leads.ensures.0 c.if-not-leads.false in
    let other = not_so c.in_ok-generated.generated c.in_ok-generated.ensures.1 c.if-generated.false in
    joins_one s.here.now (LeadsAs s.here.now m s.mv.now) c.args.found.now.items c.push.new.self.items m ((refl, leads), other)
    (λ a is. is.0)
    (c.in_ok-push.ensures.items ∙ ap (λ y. c.args.found.now.items ++ y ∷ []) c.in_ok-copy.ensures)
