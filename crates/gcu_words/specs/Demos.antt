-- Of what a demonstration is made, as words.
use Rattle.std.specs.Prelude.{◌≡◌, ℕ, ◌≤◌, ◌%◌, List, ◌||◌, ◌==◌, not, if◌then◌else◌, nat_lt, Option, Some, None, option_and_then, option_map}
use Rattle.gcu_demo.specs.Demo.{greatest_seed, group, most_ports}
use Rattle.gcu_words.specs.Decimals.{decimal_within}

-- a seed, and how many ports there are
pub record Demo : Type 0 where
  pub seed : ℕ
  pub ports : ℕ

-- so many ports can be: whole groups, and not too many
abbrev pub IsSize : ℕ → Type 0
IsSize n = (group ≤ n) × (n ≤ most_ports) × (n % group ≡ 0)

-- a decimal without leading zeros, up to the greatest seed
abbrev pub seed_in : List ℕ → Option ℕ
seed_in digits = decimal_within greatest_seed digits

-- whole groups, at least one
abbrev pub in_groups : ℕ → Option ℕ
in_groups n = if nat_lt n group || not (n % group == 0) then None else Some n

-- a decimal without leading zeros, a multiple of the group, up to the most ports
abbrev pub ports_in : List ℕ → Option ℕ
ports_in digits = option_and_then in_groups (decimal_within most_ports digits)

-- the demonstration that two words are
abbrev pub demo_of : List ℕ → List ℕ → Option Demo
demo_of seed ports =
    option_and_then
    (λ s. option_map (λ n. record { seed = s; ports = n }) (ports_in ports))
    (seed_in seed)
