-- Where no entry of a table holds a list, none is given what is for lists alone.
use Rattle.std.proofs.Common.{◌≡◌, ℕ, zero, suc, List, [], ◌∷◌, map, slice_get, Some, subst}
use Rattle.std.proofs.lemmas.Option.{same_Some}
use Rattle.conf_doc.specs.ListHolders.{HasNoList, HaveNoList, IsText}
use Rattle.conf_doc.specs.Pairs.{find}
use Rattle.conf_doc.specs.WellFormed.{Each}
use Rattle.conf_doc.specs.declared.configuration.Config.{Config}
use Rattle.conf_doc.specs.declared.configuration.Entry.{Entry}
use Rattle.conf_doc.specs.declared.configuration.Table.{Table}
use Rattle.conf_doc.specs.declared.configuration.Value.{Value}
use Rattle.conf_doc.specs.declared.configuration.Value.TheVariants.{Text, List as Listed}
use Rattle.move_core.specs.Moves.{Place}
use Rattle.move_core.specs.declared.moves.Generated.{Generated}
use Rattle.move_gen.specs.Given.{AreOfLists, EntryGiver}
use Rattle.move_gen.specs.Giving.{IsNoneFrom}
use Rattle.move_gen.specs.ItemsGiven.{IsOfItemsOfEntry, IsOfLists}
use Rattle.move_gen.proofs.Walks.{place_of}

-- what holds of each part holds of one
each_at : {A : Type 0} (P : A → Type 0) (ps : List (List ℕ × A)) (i : ℕ) (a : A) → Each P ps → slice_get (map (λ p. p.1) ps) i ≡ Some a → P a
each_at P [] i a each at = cc
each_at P (p ∷ ps) zero a each at = subst P (same_Some p.1 a at) each.0
each_at P (p ∷ ps) (suc i) a each at = each_at P ps i a each.1 at

pub none_of_lists : (Is : EntryGiver) (t : List ℕ) (table : Table) (i n : ℕ) → AreOfLists Is → HaveNoList table → IsNoneFrom (Is t) table i n
none_of_lists Is t table i n lists none j from before k e named is g given = lists t k e g given (each_at HasNoList table j e none is)

-- the moves of items are of lists
of_text : (p : Place) (u v : Value) (g : Generated) → IsText v → ¬ IsOfLists p u v g
of_text p (Text s) v g text is = absurd is
of_text p (Listed ss) (Text s) g text is = absurd is
of_text p (Listed ss) (Listed ts) g text is = absurd text

pub of_lists : (cur : Config) → AreOfLists (IsOfItemsOfEntry cur)
of_lists cur t k e g h none =
    let at = place_of e h.is.name h.is.part h.is.there in
    of_text _ h.is.is.before h.is.part g (each_at IsText e at.0 h.is.part none at.3) h.is.is.is
