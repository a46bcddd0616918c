-- The plain name of a file, by how its name begins.
use Rattle.std.proofs.Common.{◌≡◌, ℕ, Bool, true, false, cond, List, ◌++◌, Option, Some, None, refl, sym, ap, ◌∙◌}
use Rattle.std.specs.Cmp.Lexicographic.{bytes_decides}
use Rattle.std.specs.Str.{bytes_eq}
use Rattle.scopes.specs.Files.{asic_begin, asic_config, config_name, plain_name}
use Rattle.scopes.specs.Renaming.{named}
use Rattle.scopes.specs.declared.scope.Scope.TheVariants.{Asic}

-- a file that is not the configuration and does not begin like the others is none of an ASIC
pub no_begin : (n : ℕ) (name begin config : List ℕ) → begin ≡ asic_begin n → config ≡ asic_config n → false ≡ bytes_eq name config
    → ((rest : List ℕ) → name ≡ begin ++ rest → ⊥) → plain_name (Asic n) name ≡ None
no_begin n name begin config is_begin is_config other none = by (plain_name (Asic n) name) refl
  where
    at : (plain : List ℕ) (b : Bool) → name ≡ cond b (asic_config n) (asic_begin n ++ plain) → ⊥
    at plain true is = let same = (bytes_decides name config).1 (is ∙ sym is_config) in absurd cc
    at plain false is = none plain (is ∙ ap (λ b. b ++ plain) (sym is_begin))

    by : (o : Option (List ℕ)) → plain_name (Asic n) name ≡ o → plain_name (Asic n) name ≡ None
    by None is = is
    by (Some p) is = absurd (at p (bytes_eq p config_name) (named (Asic n) name p is))
