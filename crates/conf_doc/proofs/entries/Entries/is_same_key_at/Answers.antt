use Rattle.std.proofs.Common.{◌≡◌, Some, sym, ap, subst, ◌∙◌, length, slice_get, arith}
use Rattle.std.specs.Cmp.Lexicographic.{same_text}
use Rattle.conf_doc.specs.Blocks.{keys_of}
use Rattle.conf_doc.proofs.Lists.{length-map}
use Rattle.conf_doc.proofs.Segments.{same_one}
use Rattle.conf_doc.proofs.entries.Entries.is_same_key_at.Goals as goal

pub returns-clause-same : goal.returns-clause-same
returns-clause-same c = λ yes.
    let mine = c.args.self.now in let its = c.args.other.now in
    let one = ap length c.self.view_is in let two = ap length c.other.view_is in
    let long = length-map (λ e. e.0) mine in let long2 = length-map (λ e. e.0) its in
    let len = c.len.ensures.len in let len2 = c.len-else-i-len.ensures.len in
    same_one (keys_of mine) (keys_of its) c.args.i c.args.j c.name_at.result.now c.name_at-2.result.now
    (omega (arith, one, long, len, c.if-i-len.false)) (omega (arith, two, long2, len2, c.if-j-len.false))
    (subst (λ es. slice_get (keys_of es) c.args.i ≡ Some c.name_at.result.now) c.self.view_is c.name_at.ensures)
    (subst (λ es. slice_get (keys_of es) c.args.j ≡ Some c.name_at-2.result.now) c.other.view_is c.name_at-2.ensures)
    (same_text _ _ (sym yes ∙ c.eq.ensures))
