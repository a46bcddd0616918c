use Rattle.gcu_inputs.proofs.Finding.{always_refuses, found_input}
use Rattle.gcu_inputs.proofs.patch_input.input_patch.Goals as goal

-- the input was read
pub returns-in-Ok-clause-answer : goal.returns-in-Ok-clause-answer
returns-in-Ok-clause-answer g c =
    found_input (g.H.Host.told c.args.host.now) c.args.path.now c.as_str.result.now c.in-Ok.input
    c.patch_of_input.result
    c.as_str.ensures.text c.in-Ok.ensures.found c.patch_of_input.ensures.answer c.patch_of_input.ensures.cause

pub returns-in-Ok-clause-cause : goal.returns-in-Ok-clause-cause
returns-in-Ok-clause-cause g c =
    always_refuses c.patch_of_input.result (g.H.Host.counts c.args.host.now) (g.H.Host.counts c.input.new.self)
    c.patch_of_input.ensures.cause
