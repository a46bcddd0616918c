-- What a host makes of errors of the system.
use Rattle.std.specs.Prelude.{◌≡◌, ◌≢◌, ◌⊎◌}
use Rattle.std.specs.declared.io.ErrorKind.{ErrorKind}
use Rattle.std.specs.declared.io.ErrorKind.TheVariants.{NotFound, NotADirectory, OutOfMemory}
use Rattle.host_core.specs.declared.errors.HostError.{HostError}
use Rattle.host_core.specs.declared.errors.HostError.TheVariants.{Failed, Memory}

-- The path names no file (POSIX, 2.3): there is none, or the path leads through something that is no folder.
abbrev pub IsMissing : ErrorKind → Type 0
IsMissing kind = (kind ≡ NotFound) ⊎ (kind ≡ NotADirectory)

-- want of memory is told as such, and any other error as a failed call
pub record TellsError (kind : ErrorKind) (told : HostError) : Type 0 where
  pub starved : kind ≡ OutOfMemory → told ≡ Memory
  pub failed : kind ≢ OutOfMemory → told ≡ Failed
