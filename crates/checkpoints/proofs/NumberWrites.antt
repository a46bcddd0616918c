-- The numbers of checkpoints, and what a file that is put makes of them.
use Rattle.std.proofs.Common.{◌≡◌, ◌≢◌, ℕ, List, cond, length, Option, Some, None, refl, sym, ap, ◌∙◌, arith, length-append}
use Rattle.std.specs.Prelude.{option_and_then}
use Rattle.std.specs.FinMap.{get}
use Rattle.host_core.specs.State.{Files, with_file}
use Rattle.conf_store.specs.Files.{scratch, without_scratch}
use Rattle.conf_store.specs.Puts.{IsSame, put}
use Rattle.checkpoints.specs.Formats.{number_held}
use Rattle.checkpoints.specs.Names.{point_end, point_file}
use Rattle.checkpoints.specs.Numbers.{number}
use Rattle.checkpoints.proofs.NamesOfFiles.{files_differ, other_name, same_name}
use Rattle.checkpoints.proofs.PointMaps.{get_with}

-- no checkpoint's file is the scratch file, whatever its name
apart : (name : List ℕ) → point_file name ≡ scratch → ⊥
apart name e =
    let long : length (point_file name) ≡ 7 = ap length e in
    omega (arith, long, length-append name point_end)

pub behind : (files : Files) (name : List ℕ) → get (without_scratch files) (point_file name) ≡ get files (point_file name)
behind files name =
    get_with scratch None files (point_file name)
    ∙ ap (λ b. cond b None (get files (point_file name))) (other_name (point_file name) scratch (apart name))

-- the file that was put is there
pub put_there : (name bytes : List ℕ) (files : Files) → get (put (point_file name) bytes files) (point_file name) ≡ Some bytes
put_there name bytes files =
    get_with (point_file name) (Some bytes) (without_scratch files) (point_file name)
    ∙ ap (λ b. cond b (Some bytes) (get (without_scratch files) (point_file name))) (same_name (point_file name) (point_file name) refl)

-- and all others are as they were
pub others_with : (name : List ℕ) (content : Option (List ℕ)) (files : Files) (other : List ℕ) → other ≢ name → get (with_file (point_file name) content files) (point_file other) ≡ get files (point_file other)
others_with name content files other differs =
    get_with (point_file name) content files (point_file other)
    ∙ ap (λ b. cond b content (get files (point_file other))) (other_name (point_file other) (point_file name) (files_differ other name differs))

pub others_put : (name bytes : List ℕ) (files : Files) (other : List ℕ) → other ≢ name → get (put (point_file name) bytes files) (point_file other) ≡ get files (point_file other)
others_put name bytes files other differs = others_with name (Some bytes) (without_scratch files) other differs ∙ behind files other

-- the file that was put has its number
pub number_put : (name bytes : List ℕ) (files : Files) → number (put (point_file name) bytes files) name ≡ number_held bytes
number_put name bytes files = ap (option_and_then number_held) (put_there name bytes files)

-- and all others have theirs
pub numbers_put : (name bytes : List ℕ) (files : Files) (other : List ℕ) → other ≢ name → number (put (point_file name) bytes files) other ≡ number files other
numbers_put name bytes files other differs = ap (option_and_then number_held) (others_put name bytes files other differs)

-- files that are the same but for the scratch file have the same checkpoints' files
pub files_same : (f g : Files) → IsSame f g → (name : List ℕ) → get g (point_file name) ≡ get f (point_file name)
files_same f g same name = sym (behind g name) ∙ ap (λ (x : Files). get x (point_file name)) same ∙ behind f name

-- the same through the scratch file
pub number_behind : (files : Files) (name : List ℕ) → number (without_scratch files) name ≡ number files name
number_behind files name = ap (option_and_then number_held) (behind files name)
