-- How a node of the models is told from others.
use Rattle.std.specs.Prelude.{ℕ, refl}
use Rattle.std.specs.Coded.{Coded, code_by, coded×, coded_ℕ}
use Rattle.yang_text.specs.Coding.{coded_declaration}
use Rattle.yang_text.specs.Declarations.{Declaration}
use Rattle.yang_must.specs.Spots.{ModelContainer}

-- a module's container is its three parts
abbrev pub coded_container : Coded ModelContainer
coded_container =
    code_by (ℕ × (ℕ × Declaration)) (coded× coded_ℕ (coded× coded_ℕ coded_declaration))
    (λ x. (x.file, (x.number, x.statement)))
    (λ p. record { file = p.0; number = p.1.0; statement = p.1.1 }) (λ _. refl)
