use Rattle.std.proofs.Common.{map, sym, ap, subst, ◌∙◌, take_all}
use Rattle.conf_doc.specs.Paths.{IsPath}
use Rattle.conf_doc.proofs.paths.Path.new.Goals as goal

pub invariant_of-result : goal.invariant_of-result
invariant_of-result c =
    rw c.in_ok-new.ensures.ok (subst IsPath (sym (c.loop-name.invariant ∙ ap (map (λ n. n.now)) (take_all _ c.args.names.now c.loop-name-test.false))) c.requires)

pub returns : goal.returns
returns c = rw c.in_ok-new.ensures.ok (c.loop-name.invariant ∙ ap (map (λ n. n.now)) (take_all _ c.args.names.now c.loop-name-test.false))
