use Rattle.std.proofs.Common.{List, map, ap, sym, ◌∙◌}
use Rattle.yang_text.specs.Declarations.{Declaration}
use Rattle.yang_text.specs.Statements.{declaration}
use Rattle.yang_scope.specs.Faults.{least_of}
use Rattle.yang_scope.proofs.Blocks.{block-is}
use Rattle.yang_faults.specs.DefaultFaults.{bad_defaults}
use Rattle.yang_faults.specs.Fields.{key_names}
use Rattle.yang_faults.proofs.defaults.note_list_defaults.Goals as goal

pub returns : goal.returns
returns c = λ tests decide.
    c.in_ok-note_defaults.ensures (key_names (map declaration c.items-statements.result.now)) c.in_ok-keys.ensures tests decide
    ∙ ap (λ (ds : List Declaration). least_of c.args.least.now (bad_defaults c.args.scope.now.names.now tests c.args.scope.now.file c.args.scope.now.number (key_names ds) ds))
    (c.items-statements.ensures ∙ sym (block-is c.args.list.now))
