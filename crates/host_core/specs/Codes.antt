-- How the value of a host in memory is told from another one: each part has a code.
use Rattle.std.specs.Prelude.{◌≡◌, ◌⊎◌, ℕ, List, Option, Some, None, refl}
use mathlib.Core.Logic.{inl, inr}
use Rattle.std.specs.FinMap as finmap
use Rattle.std.specs.Coded.{Coded, code_by, coded_ℕ, coded_list, coded_option, coded×, coded⊎}
use Rattle.host_core.specs.Counts.{Counts}
use Rattle.host_core.specs.Crashes.{Moment}
use Rattle.host_core.specs.Steps.{History}
use Rattle.host_core.specs.State.{State, Files, Pending, settled, dirty, listing}
use Rattle.host_core.specs.MemoryHost.{MemoryHost}
use Rattle.host_core.specs.declared.faults.Faults.{Faults}

-- of bytes
abbrev bytes_code : Coded (List ℕ)
bytes_code = coded_list coded_ℕ

-- of files
abbrev pub files_code : Coded Files
files_code = finmap.code bytes_code bytes_code

-- what is pending, by its parts
abbrev pub pending_parts : Pending → Option (List ℕ ⊎ Files)
pending_parts settled = None
pending_parts (dirty name) = Some (inl name)
pending_parts (listing files) = Some (inr files)

-- and back
abbrev pub pending_of : Option (List ℕ ⊎ Files) → Pending
pending_of None = settled
pending_of (Some (inl name)) = dirty name
pending_of (Some (inr files)) = listing files

-- the parts give back what is pending
pub pending_back : (p : Pending) → pending_of (pending_parts p) ≡ p
pending_back settled = refl
pending_back (dirty name) = refl
pending_back (listing files) = refl

-- of what is pending
abbrev pub pending_code : Coded Pending
pending_code =
    code_by (Option (List ℕ ⊎ Files)) (coded_option (coded⊎ bytes_code files_code))
    pending_parts pending_of pending_back

-- of a state
abbrev state_code : Coded State
state_code =
    code_by (Files × (Files × (Pending × (List ℕ × List (List ℕ)))))
    (coded× files_code (coded× files_code
    (coded× pending_code (coded× bytes_code (coded_list bytes_code)))))
    (λ s. (s.inputs, (s.files, (s.pending, (s.output, s.restarts)))))
    (λ p. record {
      inputs = p.0;
      files = p.1.0;
      pending = p.1.1.0;
      output = p.1.1.1.0;
      restarts = p.1.1.1.1;
    })
    (λ _. refl)

-- of counts
abbrev counts_code : Coded Counts
counts_code =
    code_by (ℕ × (ℕ × (ℕ × ℕ)))
    (coded× coded_ℕ (coded× coded_ℕ (coded× coded_ℕ coded_ℕ)))
    (λ c. (c.input, (c.disk, (c.print, c.service))))
    (λ p. record { input = p.0; disk = p.1.0; print = p.1.1.0; service = p.1.1.1 })
    (λ _. refl)

-- of the numbers of failing calls
abbrev faults_code : Coded Faults
faults_code =
    code_by (List ℕ × Option ℕ) (coded× bytes_code (coded_option coded_ℕ))
    (λ f. (f.at, f.from))
    (λ p. record { at = p.0; from = p.1 })
    (λ _. refl)

-- of moments
abbrev moments_code : Coded (List Moment)
moments_code = coded_list (coded× state_code bytes_code)

-- of a state with its past
abbrev pub history_code : Coded History
history_code =
    code_by (State × List Moment) (coded× state_code moments_code)
    (λ h. (h.state, h.past))
    (λ p. record { state = p.0; past = p.1 })
    (λ _. refl)

-- of a host in memory
abbrev pub memory_host_code : Coded MemoryHost
memory_host_code =
    code_by (State × (List Moment × (Counts × (Faults × (ℕ × ℕ)))))
    (coded× state_code (coded× moments_code (coded× counts_code
    (coded× faults_code (coded× coded_ℕ coded_ℕ)))))
    (λ m. (m.state, (m.past, (m.counts, (m.faults, (m.calls, m.starved))))))
    (λ p. record {
      state = p.0;
      past = p.1.0;
      counts = p.1.1.0;
      faults = p.1.1.1.0;
      calls = p.1.1.1.1.0;
      starved = p.1.1.1.1.1;
    })
    (λ _. refl)
