use Rattle.std.proofs.Common.{ap, ◌∙◌, arith, length}
use Rattle.std.specs.Str.{is_utf8}
use Rattle.std.proofs.lemmas.List.{take_at}
use Rattle.std.proofs.lemmas.Str.{is_utf8-from_IsUtf8}
use Rattle.host_core.proofs.short_names.ShortName.new.Goals as goal

pub invariant_of-result : goal.invariant_of-result
invariant_of-result c = (
  omega (arith, ap length c.as_bytes-name.ensures.value, c.requires),
  ap is_utf8 (take_at c.copy_from_slice.new.self _ (length c.as_bytes-name.result.now) (ap length c.copy_from_slice.ensures.after)
      ∙ c.copy_from_slice.ensures.after ∙ c.as_bytes-name.ensures.value)
      ∙ is_utf8-from_IsUtf8 c.args.name.now c.utf8.name,
)
