use Rattle.std.proofs.Common.{true, string_bytes}
use Rattle.std.proofs.lemmas.Map.Text.{btree_set_updates_text}
use Rattle.ref_index.proofs.EntryTexts.{added_there}
use Rattle.ref_index.proofs.text_sets.TextSet.add.Goals as goal

pub returns : goal.returns
returns c = λ s. added_there c.args.text.now s c.args.self.now c.insert.new.self
    (λ q. rw (← c.in_ok-copy.ensures.ok) (btree_set_updates_text (string_bytes c.in_ok-copy.copy) c.args.self.now.texts c.insert.new.self true c.in_ok-insert.ensures.updates q))
