-- The names of the folder's files.
use Rattle.std.specs.Prelude.{ℕ, zero, suc, ◌+◌, ◌/◌, ◌%◌, List, [], ◌∷◌, ◌++◌, codes, length, drop, filter, Bool, ◌&&◌, nat_eq, ◌==◌, None}
use Rattle.std.specs.Char.{is_ascii_digit}
use Rattle.std.specs.FinMap.{keys}
use Rattle.std.specs.List.{list_all, starts_with}
use Rattle.host_core.specs.Characters.{decimal_base, digit_zero}
use Rattle.host_core.specs.State.{Files, with_file}

-- where bytes lie until they have their name; nothing reads it
abbrev pub scratch : List ℕ
scratch = codes "tmp.new"

-- the files but for the scratch file
abbrev pub without_scratch : Files → Files
without_scratch files = with_file scratch None files

-- where a configuration is stored
abbrev pub config_file : List ℕ
config_file = codes "config_db.json"

-- while it is there its configuration is the stored one
abbrev pub folded_file : List ℕ
folded_file = codes "config_db.folded"

-- while a change is under way it holds the file text of the change's goal
abbrev pub intent_file : List ℕ
intent_file = codes "intent"

-- ---- step files

-- how the name of a step file begins
abbrev pub step_begin : List ℕ
step_begin = codes "step."

-- how many digits follow
abbrev pub step_digits : ℕ
step_digits = 6

-- the greatest number of so many digits
unfoldable pub last_step : ℕ
last_step = 999999

-- so many digits of a number, the last ones
abbrev pub last_digits : ℕ → ℕ → List ℕ
last_digits zero n = []
last_digits (suc k) n = last_digits k (n / decimal_base) ++ (digit_zero + n % decimal_base) ∷ []

-- the name of the step file of a number
abbrev pub step_name : ℕ → List ℕ
step_name n = step_begin ++ last_digits step_digits n

-- whether a name is `step.` and six digits
abbrev pub is_step_name : List ℕ → Bool
is_step_name name =
    starts_with nat_eq name step_begin
    && (length name == length step_begin + step_digits)
    && list_all is_ascii_digit (drop (length step_begin) name)

-- the names of all step files, in order
abbrev pub step_names : Files → List (List ℕ)
step_names files = filter is_step_name (keys files)
