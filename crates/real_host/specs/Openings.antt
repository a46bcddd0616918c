-- Files that are opened or made where something else may lie in their way.
use Rattle.std.specs.Prelude.{◌≡◌, ◌⊎◌, ℕ, List, Option, Some, None, Result, Ok, Err, IsOkAnd, IsErrAnd, IfOk, IfErr, OnOk}
use Rattle.std.specs.Fs.{file_type, IsFile}
use Rattle.std.specs.IoError.{error_kind}
use Rattle.std.specs.declared.fs.Metadata.{Metadata}
use Rattle.std.specs.declared.io.Error.{Error}
use Rattle.std.specs.declared.io.ErrorKind.{ErrorKind}
use Rattle.std.specs.declared.io.ErrorKind.TheVariants.{AlreadyExists, PermissionDenied}
use Rattle.host_core.specs.declared.errors.Failed.{Failed}
use Rattle.real_host.specs.Errors.{IsMissing}
use Rattle.real_host.specs.Names.{IsOwnScratch}

-- what stands there is no file: a folder, a pipe, a device, or a link that is not followed
abbrev pub IsOdd : Result Metadata Error → Type 0
IsOdd about = IsOkAnd about (λ m. ¬ IsFile (file_type m))

-- the file is gone, or this user may not open it and a command writes none of that name
abbrev pub IsForeign : List ℕ → ErrorKind → Type 0
IsForeign name kind = IsMissing kind ⊎ ((kind ≡ PermissionDenied) × (¬ IsOwnScratch name))

-- what is opened of a file that an earlier command may have left, where it is one
pub record IsLeftFile
    {T : Type 0} (name : List ℕ) (opened : Result T Error)
    (left : Result (Option T) Failed) : Type 0 where
  pub found : IfOk opened (λ file. left ≡ Ok (Some file))
  pub foreign : IfErr opened (λ e. IsForeign name (error_kind e) → left ≡ Ok None)
  pub failed : IfErr opened (λ e. ¬ IsForeign name (error_kind e) → left ≡ Err (record {}))

-- something stands where the file was to be made
abbrev pub IsTaken : {T : Type 0} → Result T Error → Type 0
IsTaken answer = IsErrAnd answer (λ e. error_kind e ≡ AlreadyExists)

module _ {M D T : Type 0}
    (makes : M → Result T Error → M → Type 0) (removes : D → Result (Unit {0}) Error → Type 0) where
  -- what was in the way is removed, and then the file is made
  pub record MakesThen (make : M) (remove : D) (answer : Result T Error) : Type 0 where
    pub removed : Result (Unit {0}) Error
    pub last : M
    pub removes_it : removes remove removed
    pub stays : IfErr removed (λ e. answer ≡ Err e)
    pub makes_then : OnOk removed (makes make answer last)

  -- the file is made at once, or after what was in the way is removed
  pub record MakesAnew (make : M) (remove : D) (answer : Result T Error) : Type 0 where
    pub first : Result T Error
    pub mid : M
    pub makes_first : makes make first mid
    pub free : ¬ IsTaken first → answer ≡ first
    pub taken : IsTaken first → MakesThen mid remove answer
