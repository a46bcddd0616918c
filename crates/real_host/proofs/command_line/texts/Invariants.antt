use Rattle.std.proofs.Common.{◌≡◌, map, string_bytes}
use Rattle.real_host.proofs.command_line.texts.Given as goal

abbrev pub invariant-loop-word : goal.invariant-loop-word
invariant-loop-word l = l.words ≡ map string_bytes l.yielded
