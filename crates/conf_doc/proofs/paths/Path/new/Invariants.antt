use Rattle.std.proofs.Common.{◌≡◌, map, take, string_bytes}
use Rattle.conf_doc.proofs.paths.Path.new.Given as goal

abbrev pub invariant-loop-name : goal.invariant-loop-name
invariant-loop-name l = map string_bytes l.path.items ≡ map (λ n. n.now) (take l.name-index l.names)
