use Rattle.conf_store.specs.Files.{intent_file}
use Rattle.conf_store.proofs.FoldResults.{seen}
use Rattle.change_apply.proofs.IntentNames.{intent_not_scratch}
use Rattle.change_apply.proofs.laws.intent_is_kept.Goals as goal

pub returns : goal.returns
returns c = λ before after same. seen before after same intent_file intent_not_scratch
