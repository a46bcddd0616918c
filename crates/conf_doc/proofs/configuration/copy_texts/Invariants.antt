use Rattle.std.proofs.Common.{◌≡◌, take}
use Rattle.conf_doc.specs.WellFormed.{AreTexts}
use Rattle.conf_doc.proofs.configuration.copy_texts.Given as goal

abbrev pub invariant-loop-text : goal.invariant-loop-text
invariant-loop-text l = record { same : l.copies ≡ take l.text-index l.text-items; formed : AreTexts l.copies }
