-- The two configurations of a demonstration by its words.
use Rattle.std.proofs.Common.{◌≡◌, ◌≢◌, ℕ, List, [], ◌∷◌, Bool, true, false, ◌&&◌, ◌||◌, not, nat_le, nat_lt, refl, sym, ap, ◌∙◌, Option, Some, None, option_map, if◌then◌else◌}
use Rattle.std.specs.Prelude.{codes, option_and_then, ◌==◌, ◌%◌}
use Rattle.std.specs.Char.{is_ascii_digit}
use Rattle.std.specs.List.{list_all}
use Rattle.host_core.specs.Characters.{digit_zero}
use Rattle.conf_doc.specs.declared.configuration.Config.{Config}
use Rattle.patch_core.specs.Indexes.{number}
use Rattle.gcu_demo.specs.Demo as generated
use Rattle.gcu_words.specs.Decimals.{decimal_within, number_within}
use Rattle.gcu_words.specs.Demos.{Demo, in_groups, ports_in, seed_in}
use Rattle.gcu_words.specs.Form.{Form, form}
use Rattle.gcu_words.specs.Form as forms

-- ---- numbers

number_is : (most : ℕ) (digits : List ℕ) (n : ℕ) → number_within most digits ≡ Some n → number digits ≡ n
number_is most digits n e = by (list_all is_ascii_digit digits && nat_le (number digits) most) e
  where
    by : (b : Bool) → (if b then Some (number digits) else None) ≡ Some n → number digits ≡ n
    by true e = let same : number digits ≡ n = cc in same
    by false e = absurd cc

decimal_is : (most : ℕ) (digits : List ℕ) (n : ℕ) → decimal_within most digits ≡ Some n → number digits ≡ n
decimal_is most [] n e = absurd cc
decimal_is most (d ∷ []) n e = number_is most (d ∷ []) n e
decimal_is most (d ∷ c ∷ ds) n e = by (d == digit_zero) e
  where
    by : (b : Bool) → (if b then None else number_within most (d ∷ c ∷ ds)) ≡ Some n → number (d ∷ c ∷ ds) ≡ n
    by true e = absurd cc
    by false e = number_is most (d ∷ c ∷ ds) n e

grouped_is : (k n : ℕ) → in_groups k ≡ Some n → k ≡ n
grouped_is k n e = by (nat_lt k generated.group || not (k % generated.group == 0)) e
  where
    by : (b : Bool) → (if b then None else Some k) ≡ Some n → k ≡ n
    by true e = absurd cc
    by false e = let same : k ≡ n = cc in same

ports_are : (digits : List ℕ) (n : ℕ) → ports_in digits ≡ Some n → number digits ≡ n
ports_are digits n e = by (decimal_within generated.most_ports digits) refl e
  where
    by : (o : Option ℕ) → decimal_within generated.most_ports digits ≡ o → option_and_then in_groups o ≡ Some n
        → number digits ≡ n
    by None is e = absurd cc
    by (Some k) is e = decimal_is generated.most_ports digits k is ∙ grouped_is k n e

-- ---- the configurations

-- a command that is a demonstration plans between those of its seed and its number of ports
abbrev pub IsDemonstrated : Option Form → (start goal : Config) → Type 0
IsDemonstrated (Some (forms.demo seed ports)) start goal =
    (start ≡ generated.start seed ports) × (goal ≡ generated.goal seed ports)
IsDemonstrated other start goal = Unit {0}

module _ (seed ports : List ℕ) (start goal : Config) where
  -- the form of such words
  abbrev worded : Option ℕ → Option ℕ → Option Form
  worded a b = option_map (λ (d : Demo). forms.demo d.seed d.ports)
      (option_and_then (λ s. option_map (λ n. record { seed = s; ports = n }) b) a)

  pub by_words : form (codes "demo" ∷ seed ∷ ports ∷ []) ≢ None
      → IsDemonstrated (form (codes "demo" ∷ seed ∷ ports ∷ [])) start goal
      → (start ≡ generated.start (number seed) (number ports)) × (goal ≡ generated.goal (number seed) (number ports))
  by_words some is = by (seed_in seed) refl (ports_in ports) refl some is
    where
      by : (a : Option ℕ) → seed_in seed ≡ a → (b : Option ℕ) → ports_in ports ≡ b → worded a b ≢ None
          → IsDemonstrated (worded a b) start goal
          → (start ≡ generated.start (number seed) (number ports))
          × (goal ≡ generated.goal (number seed) (number ports))
      by None a b have some is = absurd (some refl)
      by (Some s) a None have some is = absurd (some refl)
      by (Some s) a (Some n) have some is =
          let first : s ≡ number seed = sym (decimal_is generated.greatest_seed seed s a) in
          let second : n ≡ number ports = sym (ports_are ports n have) in
          (is.0 ∙ (λ i. generated.start (first i) (second i)), is.1 ∙ (λ i. generated.goal (first i) (second i)))
