-- Which shapes the entries of a whole configuration belong to.
use Rattle.std.specs.Prelude.{◌≡◌, ℕ, List, [], ◌∷◌, Option, option_and_then, slice_get, refl}
use Rattle.std.specs.List.{AllZip}
use Rattle.std.specs.Coded.{Coded-set, coded_list, coded_option, coded_ℕ}
use Rattle.std.proofs.Math.Logic.{∥∥₁_elim, ∥∥₁_prop}
use Rattle.std.proofs.Math.Path.{Σ_path, to_path_p}
use Rattle.conf_doc.specs.declared.configuration.Config.{Config}
use Rattle.conf_doc.specs.declared.configuration.Table.{Table}
use Rattle.yang_model.specs.Belongs.{Belongs, Belongs-once}
use Rattle.yang_model.specs.ModelSets.{ModelSet, shapes_of}

-- for each table and each of its keys the shape, by its place, or None where it belongs to none
abbrev pub Belongings : Type 0
Belongings = List (List (Option ℕ))

-- those of a table
abbrev pub AreBelongingsOf : ModelSet → List ℕ → Table → List (Option ℕ) → Type 0
AreBelongingsOf models name table answers =
    AllZip (λ e answer. Belongs (shapes_of name models) e.0 answer) table answers

-- those of a configuration
abbrev pub AreBelongings : ModelSet → Config → Belongings → Type 0
AreBelongings models config belongings =
    AllZip (λ t answers. AreBelongingsOf models t.0 t.1 answers) config belongings

-- that of an entry, by its place
abbrev pub shape_at : Belongings → ℕ → ℕ → Option ℕ
shape_at belongings table key =
    option_and_then (λ answers. option_and_then (λ answer. answer) (slice_get answers key))
    (slice_get belongings table)

answers_once : (models : ModelSet) (name : List ℕ) (t : Table) (a b : List (Option ℕ))
    → AreBelongingsOf models name t a → AreBelongingsOf models name t b → a ≡ b
answers_once models name [] [] [] p q = refl
answers_once models name [] [] (y ∷ b) p q = absurd q
answers_once models name [] (x ∷ a) b p q = absurd p
answers_once models name (e ∷ t) [] b p q = absurd p
answers_once models name (e ∷ t) (x ∷ a) [] p q = absurd q
answers_once models name (e ∷ t) (x ∷ a) (y ∷ b) p q =
    let here = Belongs-once (shapes_of name models) e.0 x y p.0 q.0 in
    let more = answers_once models name t a b p.1 q.1 in
    λ i. here i ∷ more i

-- there is one list of them
pub AreBelongings-once : (models : ModelSet) (config : Config) (a b : Belongings)
    → AreBelongings models config a → AreBelongings models config b → a ≡ b
AreBelongings-once models [] [] [] p q = refl
AreBelongings-once models [] [] (y ∷ b) p q = absurd q
AreBelongings-once models [] (x ∷ a) b p q = absurd p
AreBelongings-once models (t ∷ config) [] b p q = absurd p
AreBelongings-once models (t ∷ config) (x ∷ a) [] p q = absurd q
AreBelongings-once models (t ∷ config) (x ∷ a) (y ∷ b) p q =
    let here = answers_once models t.0 t.1 x y p.0 q.0 in
    let more = AreBelongings-once models config a b p.1 q.1 in
    λ i. here i ∷ more i

-- of two lists of them there is one way to be equal
pub Belongings-set : (a b : Belongings) → IsProp (a ≡ b)
Belongings-set a b = Coded-set (coded_list (coded_list (coded_option coded_ℕ))) a b

-- those of a configuration, and that they are that
abbrev pub Known : ModelSet → Config → Type 0
Known models config = (b : Belongings) × ∥ AreBelongings models config b ∥₁

-- what is known is one
pub Known-once : (models : ModelSet) (config : Config) → IsProp (Known models config)
Known-once models config u v =
    let same : u.0 ≡ v.0 =
    ∥∥₁_elim u.1 (Belongings-set u.0 v.0)
    (λ a. ∥∥₁_elim v.1 (Belongings-set u.0 v.0)
    (λ b. AreBelongings-once models config u.0 v.0 a b)) in
    Σ_path same (to_path_p (λ i. ∥ AreBelongings models config (same i) ∥₁) (∥∥₁_prop _ _))
