use Rattle.std.proofs.Common.{List, refl, sym, subst}
use Rattle.conf_check.specs.Validity.{IsValid}
use Rattle.ref_index.specs.Referrers.{Indexed}
use Rattle.recheck.specs.Entries.{AreWithin, entries_of}
use Rattle.recheck.specs.Verdicts.{AreSound}
use Rattle.recheck.specs.declared.verdicts.Verdict.{Verdict}
use Rattle.recheck.proofs.EntryCounts.{counted_after, ordered_after}
use Rattle.recheck.proofs.LookedEntries.{still_kept}
use Rattle.recheck.proofs.rule.recheck_rest.Goals as goal

pub check_rest-requires : goal.check_rest-requires
check_rest-requires c =
    let k = c.in_ok-index.field-0 in
    let P : Indexed → Type 0 = λ ix. AreSound ix.models ix.config k.verdicts.items in
    let Q : List Verdict → Type 0 = λ l. AreSound c.args.models.now c.args.config.now l in
    record { sound = subst Q (sym c.new-walk.ensures.verdicts) (subst P c.in_ok-index.ensures.index k.sound) }

pub invariant_of-result : goal.invariant_of-result
invariant_of-result c =
    let k = c.in_ok-index.field-0 in
    let P : Indexed → Type 0 = λ ix. AreSound ix.models ix.config c.into_verdicts-verdicts.result.items in
    let Q : List Verdict → Type 0 = λ l. AreSound c.args.models.now c.args.config.now l in
    let R : Indexed → Type 0 = λ ix. AreWithin k.verdicts.items (entries_of ix.models ix.config) in
    let S : Indexed → Type 0 = λ ix. AreWithin c.into_verdicts-verdicts.result.items (entries_of ix.models ix.config) in
    let T : List Verdict → Type 0 = λ l. AreWithin l (entries_of c.args.models.now c.args.config.now) in
    let V : Indexed → Type 0 = λ ix. IsValid ix.models ix.config in
    record {
      sound = subst P (sym c.in_ok-index.ensures.index) (subst Q (sym c.into_verdicts-verdicts.ensures.verdicts) c.check_rest.ensures.sound);
      ordered = subst S (sym c.in_ok-index.ensures.index) (subst T (sym c.into_verdicts-verdicts.ensures.verdicts)
          (ordered_after c.args.models.now c.args.config.now k.verdicts.items c.new-walk.result.verdicts.items c.check_rest.new.walk.verdicts.items
          c.new-walk.result.behind c.check_rest.new.walk.behind c.args.checked.now c.check_rest.new.checked c.in_ok-valid.valid
          (subst R c.in_ok-index.ensures.index k.ordered) c.new-walk.ensures.verdicts c.new-walk.ensures.behind c.in_ok-valid.ensures.walked));
      few = c.into_verdicts-verdicts.ensures.few;
      whole = λ yes. subst V (sym c.in_ok-index.ensures.index) (c.in_ok-valid.ensures.valid.0 yes);
    }

pub returns-clause-counts : goal.returns-clause-counts
returns-clause-counts c =
    let k = c.in_ok-index.field-0 in
    let R : Indexed → Type 0 = λ ix. AreWithin k.verdicts.items (entries_of ix.models ix.config) in
    counted_after c.args.models.now c.args.config.now k.verdicts.items c.new-walk.result.verdicts.items c.check_rest.new.walk.verdicts.items
    c.new-walk.result.behind c.check_rest.new.walk.behind c.args.checked.now c.check_rest.new.checked c.in_ok-valid.valid
    (subst R c.in_ok-index.ensures.index k.ordered) c.new-walk.ensures.verdicts c.new-walk.ensures.behind c.in_ok-valid.ensures.walked
    c.args.kept _ c.in_ok-index.ensures.left c.into_verdicts-verdicts.ensures.verdicts refl c.in_ok-valid.ensures.looked c.args.mv.now

pub returns-clause-still : goal.returns-clause-still
returns-clause-still c =
    let k = c.in_ok-index.field-0 in
    still_kept c.args.models.now c.args.kept c.args.config.now k.verdicts.items c.new-walk.result.verdicts.items c.check_rest.new.walk.verdicts.items
    c.into_verdicts-verdicts.result.items c.in_ok-index.ensures.left c.new-walk.ensures.verdicts c.in_ok-valid.ensures.looked.stay
    c.into_verdicts-verdicts.ensures.verdicts
