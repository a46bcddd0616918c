-- Targets, options and demonstrations as the code keeps them.
use Rattle.std.specs.Prelude.{ℕ, List}
use Rattle.gcu_words.specs.Demos as demos
use Rattle.gcu_words.specs.Options as given
use Rattle.gcu_words.specs.Targets as words
use Rattle.gcu_words.specs.declared.demos.Demo.{Demo}
use Rattle.gcu_words.specs.declared.options.Options.{Options}
use Rattle.gcu_words.specs.declared.targets.Source.{Source}
use Rattle.gcu_words.specs.declared.targets.Source.TheVariants.{Patch, File, Checkpoint, Intent}
use Rattle.gcu_words.specs.declared.targets.Target.{Target}

-- the target of a source with its word
abbrev pub target_from : Source → List ℕ → words.Target
target_from Patch word = words.patched word
target_from File word = words.replaced word
target_from Checkpoint word = words.rolled_back word
target_from Intent word = words.resumed

-- the target that it is
abbrev pub target_view : Target → words.Target
target_view t = target_from t.source t.word.now

-- the options that they are
abbrev pub options_view : Options → given.Options
options_view o = record { dry_run = o.dry_run; budget = o.budget }

-- the demonstration that it is
abbrev pub demo_view : Demo → demos.Demo
demo_view d = record { seed = d.seed; ports = d.ports }
