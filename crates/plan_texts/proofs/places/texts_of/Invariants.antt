use Rattle.std.proofs.Common.{◌≡◌, map, take}
use Rattle.conf_doc.specs.WellFormed.{AreTexts}
use Rattle.plan_texts.proofs.places.texts_of.Given as goal

abbrev pub invariant-loop-name : goal.invariant-loop-name
invariant-loop-name l = record { same : map (λ t. t.now) l.texts.items ≡ take l.name-index l.names; formed : AreTexts (take l.name-index l.names) }
