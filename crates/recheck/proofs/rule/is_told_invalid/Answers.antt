use Rattle.std.proofs.Common.{◌≡◌, ◌↔◌, Option, IfSome, IsTrue, subst}
use Rattle.conf_check.specs.Validity.{IsValidAt}
use Rattle.recheck.specs.Losses.{entry_at}
use Rattle.recheck.specs.declared.kept.Kept.{Kept}
use Rattle.recheck.proofs.EntryValidity.{invalid_there}
use Rattle.recheck.proofs.Losers.{loser_tells}
use Rattle.recheck.proofs.rule.is_told_invalid.Goals as goal

pub first_loser-requires : goal.first_loser-requires
first_loser-requires c =
    let P : Option Kept → Type 0 = λ o. IfSome o (λ k. k.index.models ≡ c.args.models.now) in
    subst P c.in-Some.is c.requires

pub returns-clause-invalid : goal.returns-clause-invalid
returns-clause-invalid c = invalid_there c.args.models.now c.args.next.now _ _ c.is_valid_at.result c.is_valid_at.ensures

pub returns-clause-told : goal.returns-clause-told
returns-clause-told c =
    let models = c.args.models.now in
    let next = c.args.next.now in
    let p = c.in-Some-first_loser.place.now in
    let valid = c.is_valid_at.result in
    let says : IsTrue valid ↔ IsValidAt models next p.table p.key =
    subst (λ t. IsTrue valid ↔ IsValidAt models next t p.key) c.as_str.ensures.text
    (subst (λ k. IsTrue valid ↔ IsValidAt models next c.as_str.result.now k) c.as_str-2.ensures.text c.is_valid_at.ensures) in
    loser_tells models c.args.kept.now next c.args.mv.now c.in-Some.kept (entry_at p) c.in-Some.is c.in-Some-first_loser.ensures valid says
