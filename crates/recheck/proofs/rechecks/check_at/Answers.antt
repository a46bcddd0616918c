use Rattle.std.proofs.Common.{refl, arith}
use Rattle.recheck.proofs.VerdictWalks.{fresh, noted, passed, same_sound, when_true}
use Rattle.recheck.proofs.EntryCounts.{invalid_at, noted_at, passed_at}
use Rattle.recheck.proofs.LookedEntries.{looked_invalid, looked_noted, looked_passed}
use Rattle.recheck.proofs.RemainingVerdicts.{not_so}
use Rattle.recheck.proofs.rechecks.check_at.Goals as goal

pub returns-then-passes-clause-valid : goal.returns-then-passes-clause-valid
returns-then-passes-clause-valid c = (
  λ _.
      passed c.args.models.now c.args.config.now c.args.table.now c.args.key.now c.args.walk.now.verdicts.items c.requires.sound
      (when_true _ _ c.if-passes.true c.passes.ensures.found),
  λ _. refl,
)

pub returns-then-passes-clause-sound : goal.returns-then-passes-clause-sound
returns-then-passes-clause-sound c =
    same_sound c.args.models.now c.args.config.now c.args.table.now c.args.key.now _ _ c.passes.ensures.verdicts c.requires.sound

pub returns-then-not-is_valid_at-clause-sound : goal.returns-then-not-is_valid_at-clause-sound
returns-then-not-is_valid_at-clause-sound c =
    same_sound c.args.models.now c.args.config.now c.args.table.now c.args.key.now _ _ c.passes.ensures.verdicts c.requires.sound

pub returns-in_err-note-clause-sound : goal.returns-in_err-note-clause-sound
returns-in_err-note-clause-sound c =
    noted c.args.models.now c.args.config.now c.args.table.now c.args.key.now c.passes.new.self.verdicts.items c.note.new.self.verdicts.items
    (same_sound c.args.models.now c.args.config.now c.args.table.now c.args.key.now _ _ c.passes.ensures.verdicts c.requires.sound)
    (fresh c.args.models.now c.args.config.now c.args.table.now c.args.key.now c.requires.there
    (c.is_valid_at.ensures.0 c.if-not-is_valid_at.false))
    c.note.ensures.noted

pub returns-clause-sound : goal.returns-clause-sound
returns-clause-sound c =
    noted c.args.models.now c.args.config.now c.args.table.now c.args.key.now c.passes.new.self.verdicts.items c.note.new.self.verdicts.items
    (same_sound c.args.models.now c.args.config.now c.args.table.now c.args.key.now _ _ c.passes.ensures.verdicts c.requires.sound)
    (fresh c.args.models.now c.args.config.now c.args.table.now c.args.key.now c.requires.there
    (c.is_valid_at.ensures.0 c.if-not-is_valid_at.false))
    c.note.ensures.noted

pub returns-then-passes-clause-walked : goal.returns-then-passes-clause-walked
returns-then-passes-clause-walked c =
    passed_at c.args.table.now c.args.key.now c.args.walk.now.verdicts.items c.passes.new.self.verdicts.items c.args.walk.now.behind c.passes.new.self.behind
    c.args.checked.now c.passes.result c.passes.ensures.verdicts c.if-passes.true c.passes.ensures.behind c.passes.ensures.next

pub returns-then-not-is_valid_at-clause-walked : goal.returns-then-not-is_valid_at-clause-walked
returns-then-not-is_valid_at-clause-walked c =
    invalid_at c.args.table.now c.args.key.now c.args.walk.now.verdicts.items c.passes.new.self.verdicts.items c.args.walk.now.behind c.passes.new.self.behind
    c.args.checked.now c.saturating_add.result c.passes.result c.passes.ensures.verdicts c.if-passes.false c.passes.ensures.behind
    c.passes.ensures.other (omega (arith, c.saturating_add.ensures))

pub returns-clause-walked : goal.returns-clause-walked
returns-clause-walked c =
    noted_at c.args.table.now c.args.key.now c.args.walk.now.verdicts.items c.passes.new.self.verdicts.items c.note.new.self.verdicts.items
    c.args.walk.now.behind c.passes.new.self.behind c.note.new.self.behind c.args.checked.now c.saturating_add.result c.passes.result
    c.passes.ensures.verdicts c.if-passes.false c.passes.ensures.behind c.passes.ensures.other (omega (arith, c.saturating_add.ensures)) c.passes.new.self.within c.in_ok-note.ensures.at

pub returns-then-passes-clause-looked : goal.returns-then-passes-clause-looked
returns-then-passes-clause-looked c =
    looked_passed c.args.models.now c.args.config.now c.args.table.now c.args.key.now c.args.walk.now.verdicts.items c.passes.new.self.verdicts.items
    c.passes.ensures.verdicts (when_true _ _ c.if-passes.true c.passes.ensures.found)

pub returns-then-not-is_valid_at-clause-looked : goal.returns-then-not-is_valid_at-clause-looked
returns-then-not-is_valid_at-clause-looked c =
    looked_invalid c.args.models.now c.args.config.now c.args.table.now c.args.key.now c.args.walk.now.verdicts.items c.passes.new.self.verdicts.items
    c.passes.ensures.verdicts (not_so _ _ c.if-not-is_valid_at.true c.is_valid_at.ensures.1)

pub returns-clause-looked : goal.returns-clause-looked
returns-clause-looked c =
    looked_noted c.args.models.now c.args.config.now c.args.table.now c.args.key.now c.args.walk.now.verdicts.items c.passes.new.self.verdicts.items
    c.note.new.self.verdicts.items c.passes.new.self.behind c.note.new.self.behind c.passes.ensures.verdicts c.passes.new.self.within c.in_ok-note.ensures.at
