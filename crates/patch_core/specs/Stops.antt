-- What stops one operation.
use Rattle.std.specs.Prelude.{Option, Some, None}
use Rattle.patch_core.specs.declared.errors.FailWhy.{FailWhy}
use Rattle.patch_core.specs.declared.errors.Stop.{Stop}
use Rattle.patch_core.specs.declared.errors.Stop.TheVariants.{Fails, Memory}

-- why it fails, or none for want of memory
abbrev pub stop_fault : Stop → Option FailWhy
stop_fault (Fails why) = Some why
stop_fault Memory = None
