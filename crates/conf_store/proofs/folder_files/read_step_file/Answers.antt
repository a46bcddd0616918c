use Rattle.std.proofs.Common.{ℕ, Global, Vec, option_map, ◌∙◌}
use Rattle.conf_store.specs.Files.{step_name}
use Rattle.conf_store.proofs.Finds.{named_found}
use Rattle.conf_store.proofs.folder_files.read_step_file.Goals as goal

pub returns-clause-found : goal.returns-clause-found
returns-clause-found g c =
    named_found (g.H.Host.told c.args.host.now) (option_map (λ (b : Vec ℕ Global). b.items)) c.read_file.result c.as_str.result.now (step_name c.args.n)
    (c.as_str.ensures.text ∙ c.in_ok-name.ensures) c.read_file.ensures.found
