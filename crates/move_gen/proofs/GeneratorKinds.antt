-- What each generator puts, as the kinds say it.
use Rattle.std.proofs.Common.{◌↔◌, List, Result, Ok, Err, inl, inr, refl, arith}
use Rattle.std.specs.Prelude.{OnOk}
use Rattle.conf_doc.specs.declared.configuration.Config.{Config}
use Rattle.move_core.specs.Appends.{Appends}
use Rattle.move_core.specs.Generated.{IsFromFields, IsFromItems, IsFromKeys, IsFromSeeds, IsGenerated}
use Rattle.move_core.specs.Rulebook.{Rulebook}
use Rattle.move_core.specs.declared.moves.Generated.{Generated}
use Rattle.move_gen.specs.Giving.{Gives}
use Rattle.move_gen.proofs.ListGrowth.{appends_alike}

module _ {A T E : Type 0} (P Q : A → Type 0) where
  pub on_ok : (r : Result T E) (xs ys : List A) → ((a : A) → P a ↔ Q a) → Gives P r xs ys → OnOk r (Appends Q xs ys)
  on_ok (Ok x) xs ys alike h = appends_alike P Q xs ys alike h
  on_ok (Err e) xs ys alike h = tt

module _ (book : Rulebook) (cur goal : Config) (g : Generated) where
  pub second_kind : IsFromKeys cur goal g ↔ IsGenerated book cur goal 2 g
  second_kind = (λ is. inr (inl (refl, is)), back)
    where
      back : IsGenerated book cur goal 2 g → IsFromKeys cur goal g
      back (inl is) = let e = is.0 in absurd (omega (arith, e))
      back (inr (inl is)) = is.1
      back (inr (inr (inl is))) = let e = is.0 in absurd (omega (arith, e))
      back (inr (inr (inr (inl is)))) = let e = is.0 in absurd (omega (arith, e))
      back (inr (inr (inr (inr is)))) = let e = is.0 in absurd (omega (arith, e))

  pub third_kind : IsFromFields cur goal g ↔ IsGenerated book cur goal 3 g
  third_kind = (λ is. inr (inr (inl (refl, is))), back)
    where
      back : IsGenerated book cur goal 3 g → IsFromFields cur goal g
      back (inl is) = let e = is.0 in absurd (omega (arith, e))
      back (inr (inl is)) = let e = is.0 in absurd (omega (arith, e))
      back (inr (inr (inl is))) = is.1
      back (inr (inr (inr (inl is)))) = let e = is.0 in absurd (omega (arith, e))
      back (inr (inr (inr (inr is)))) = let e = is.0 in absurd (omega (arith, e))

  pub fourth_kind : IsFromSeeds book cur goal g ↔ IsGenerated book cur goal 4 g
  fourth_kind = (λ is. inr (inr (inr (inl (refl, is)))), back)
    where
      back : IsGenerated book cur goal 4 g → IsFromSeeds book cur goal g
      back (inl is) = let e = is.0 in absurd (omega (arith, e))
      back (inr (inl is)) = let e = is.0 in absurd (omega (arith, e))
      back (inr (inr (inl is))) = let e = is.0 in absurd (omega (arith, e))
      back (inr (inr (inr (inl is)))) = is.1
      back (inr (inr (inr (inr is)))) = let e = is.0 in absurd (omega (arith, e))

  pub fifth_kind : IsFromItems cur goal g ↔ IsGenerated book cur goal 5 g
  fifth_kind = (λ is. inr (inr (inr (inr (refl, is)))), back)
    where
      back : IsGenerated book cur goal 5 g → IsFromItems cur goal g
      back (inl is) = let e = is.0 in absurd (omega (arith, e))
      back (inr (inl is)) = let e = is.0 in absurd (omega (arith, e))
      back (inr (inr (inl is))) = let e = is.0 in absurd (omega (arith, e))
      back (inr (inr (inr (inl is)))) = let e = is.0 in absurd (omega (arith, e))
      back (inr (inr (inr (inr is)))) = is.1
