-- Which calls of a host in memory fail, and how the counts of faults go up.
use Rattle.std.specs.Prelude.{ℕ, ◌+◌, min, max, Bool, false, ◌||◌, ◌==◌, nat_le}
use Rattle.std.specs.List.{list_any}
use Rattle.std.specs.Option.{option_map_or}
use Rattle.host_core.specs.Counts.{Counts, last_count}
use Rattle.host_core.specs.declared.faults.Faults.{Faults}

-- The call of that number fails: it is listed, or not below the number from which on all calls do.
abbrev pub is_faulty : Faults → ℕ → Bool
is_faulty faults number =
    list_any (λ n. n == number) faults.at
    || option_map_or (λ from. nat_le from number) faults.from false

-- one more, up to the last value
abbrev pub raised : ℕ → ℕ
raised n = max n (min (n + 1) last_count)

-- no fault so far
abbrev pub no_faults : Counts
no_faults = record { input = 0; disk = 0; print = 0; service = 0 }

-- one fault of an input more
abbrev pub input_fault : Counts → Counts
input_fault c = record c { input = raised c.input }

-- one fault of the disk more
abbrev pub disk_fault : Counts → Counts
disk_fault c = record c { disk = raised c.disk }

-- one fault of the output more
abbrev pub print_fault : Counts → Counts
print_fault c = record c { print = raised c.print }

-- one fault of a restart more
abbrev pub service_fault : Counts → Counts
service_fault c = record c { service = raised c.service }
