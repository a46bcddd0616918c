-- Plain names and the files that a scope knows by them give one another.
use Rattle.std.proofs.Common.{◌≡◌, ℕ, Bool, true, false, cond, List, ◌++◌, length, drop, Some, None, refl, sym, ap, ◌∙◌}
use Rattle.std.proofs.Math.Seq.{drop-append_seam}
use Rattle.std.specs.Cmp.Lexicographic.{bytes_decides, same_text}
use Rattle.std.specs.Str.{bytes_eq}
use Rattle.scopes.specs.Files.{asic_begin, asic_config, config_name, file_name, plain_name, plain_part}
use Rattle.scopes.specs.declared.scope.Scope.{Scope}
use Rattle.scopes.specs.declared.scope.Scope.TheVariants.{Localhost, Asic}

-- a text is itself
pub itself : (name : List ℕ) → bytes_eq name name ≡ true
itself name = (bytes_decides name name).1 refl

-- the part of a file's name is the plain name that it was made of
part_back : (scope : Scope) (plain : List ℕ) → plain_part scope (file_name scope plain) ≡ plain
part_back Localhost plain = refl
part_back (Asic n) plain = by (bytes_eq plain config_name) refl
  where
    by : (b : Bool) → bytes_eq plain config_name ≡ b
        → plain_part (Asic n) (cond b (asic_config n) (asic_begin n ++ plain)) ≡ plain
    by true is =
        ap (λ b. cond b config_name (drop (length (asic_begin n)) (asic_config n)))
        (itself (asic_config n))
        ∙ sym (same_text plain config_name (sym is))
    by false isnt = drop-append_seam (asic_begin n) plain

-- a file that is known by that part of its name
known_by : (scope : Scope) (name plain : List ℕ) → plain_part scope name ≡ plain
    → file_name scope plain ≡ name
    → plain_name scope name ≡ Some plain
known_by scope name plain part file =
    ap (λ p. cond (bytes_eq (file_name scope p) name) (Some p) None) part
    ∙ ap (λ b. cond b (Some plain) None) ((bytes_decides (file_name scope plain) name).1 file)

-- a scope knows its file by the plain name
pub known : (scope : Scope) (plain : List ℕ) → plain_name scope (file_name scope plain) ≡ Some plain
known scope plain = known_by scope (file_name scope plain) plain (part_back scope plain) refl

-- and a file that it knows is the one of that name
pub named : (scope : Scope) (name plain : List ℕ) → plain_name scope name ≡ Some plain → name
    ≡ file_name scope plain
named scope name plain = by (bytes_eq (file_name scope (plain_part scope name)) name) refl
  where
    by : (b : Bool) → bytes_eq (file_name scope (plain_part scope name)) name ≡ b
        → cond b (Some (plain_part scope name)) None ≡ Some plain → name ≡ file_name scope plain
    by true is e =
        let part : plain_part scope name ≡ plain = cc in
        sym (same_text (file_name scope (plain_part scope name)) name (sym is))
        ∙ ap (file_name scope) part
    by false isnt e = absurd cc

-- two plain names of one file are one
pub one_name : (scope : Scope) (p q : List ℕ) → file_name scope p ≡ file_name scope q → p ≡ q
one_name scope p q e =
    let both : Some p ≡ Some q = sym (known scope p) ∙ ap (plain_name scope) e ∙ known scope q in
    cc
