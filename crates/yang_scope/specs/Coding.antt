-- How a module is told from others.
use Rattle.std.specs.Prelude.{ℕ, refl}
use Rattle.std.specs.Coded.{Coded, code_by, coded×, coded_ℕ}
use Rattle.yang_text.specs.Coding.{coded_declaration}
use Rattle.yang_text.specs.Declarations.{Declaration}
use Rattle.yang_scope.specs.Modules.{Module}

-- a module is its two parts
abbrev pub coded_module : Coded Module
coded_module =
    code_by (ℕ × Declaration) (coded× coded_ℕ coded_declaration) (λ m. (m.file, m.statement))
    (λ p. record { file = p.0; statement = p.1 }) (λ _. refl)
