-- The services at the positions that are tied to a table are those that are tied to it.
use Rattle.std.proofs.Common.{◌≡◌, ℕ, zero, suc, Bool, true, false, List, [], ◌∷◌, ◌++◌, length, map, filter, get_or, take, refl, sym, subst, ap, ◌∙◌, append_assoc}
use Rattle.std.specs.Prelude.{flat_map, if◌then◌else◌}
use Rattle.move_core.specs.Moves.{place}
use Rattle.move_core.specs.Services.{is_tied, service_names, services, services_of, table_of, tied_from}
use Rattle.move_core.specs.declared.moves.Move.{Move}
use Rattle.move_core.specs.declared.settings.ServiceTie.{ServiceTie}
use Rattle.move_core.specs.declared.settings.Settings.{Settings}
use Rattle.change_apply.specs.Change.{names, restart_of, restarts_of}

named_there : (before : List ServiceTie) (tie : ServiceTie) (ties : List ServiceTie) → get_or (map (λ t. t.name) (before ++ tie ∷ ties)) (length before) [] ≡ tie.name
named_there [] tie ties = refl
named_there (t ∷ before) tie ties = named_there before tie ties

longer : (before : List ServiceTie) (tie : ServiceTie) → length (before ++ tie ∷ []) ≡ suc (length before)
longer [] tie = refl
longer (t ∷ before) tie = ap suc (longer before tie)

module _ (table : List ℕ) where
  -- the names at the positions from behind the first services on
  tied_names : (all before ties : List ServiceTie) → before ++ ties ≡ all
      → map (λ i. get_or (map (λ t. t.name) all) i []) (tied_from (length before) table ties) ≡ map (λ t. t.name) (filter (is_tied table) ties)
  tied_names all before [] e = refl
  tied_names all before (tie ∷ ties) e =
      by (is_tied table tie)
      (subst (λ n. map (λ i. get_or (map (λ t. t.name) all) i []) (tied_from n table ties) ≡ map (λ t. t.name) (filter (is_tied table) ties)) (longer before tie)
      (tied_names all (before ++ tie ∷ []) ties (append_assoc before (tie ∷ []) ties ∙ e)))
    where
      at : get_or (map (λ t. t.name) all) (length before) [] ≡ tie.name
      at = ap (λ (l : List ServiceTie). get_or (map (λ t. t.name) l) (length before) []) (sym e) ∙ named_there before tie ties

      by : (b : Bool) → map (λ i. get_or (map (λ t. t.name) all) i []) (tied_from (suc (length before)) table ties) ≡ map (λ t. t.name) (filter (is_tied table) ties)
          → map (λ i. get_or (map (λ t. t.name) all) i []) (if b then length before ∷ tied_from (suc (length before)) table ties else tied_from (suc (length before)) table ties)
          ≡ map (λ (t : ServiceTie). t.name) (if b then tie ∷ filter (is_tied table) ties else filter (is_tied table) ties)
      by true later = λ i. at i ∷ later i
      by false later = later

map_twice : {A B C : Type 0} (f : A → B) (g : B → C) (xs : List A) → map g (map f xs) ≡ map (λ x. g (f x)) xs
map_twice f g [] = refl
map_twice f g (x ∷ xs) = ap (λ l. g (f x) ∷ l) (map_twice f g xs)

names_are : (settings : Settings) (m : Move) → names (restarts_of settings (services_of settings m)) ≡ service_names settings m
names_are settings m =
    map_twice (restart_of settings) (λ r. r.name) (services_of settings m)
    ∙ tied_names (table_of (place m)) settings.services [] settings.services refl

-- of the first moves
pub restarted_are : (settings : Settings) (moves : List Move) (k : ℕ)
    → flat_map names (take k (map (restarts_of settings) (map (services_of settings) moves))) ≡ services settings (take k moves)
restarted_are settings [] zero = refl
restarted_are settings [] (suc k) = refl
restarted_are settings (m ∷ moves) zero = refl
restarted_are settings (m ∷ moves) (suc k) = λ i. names_are settings m i ++ restarted_are settings moves k i
