-- Entries that lost what they want.
use Rattle.std.proofs.Common.{◌≡◌, ◌≤◌, ◌↔◌, ℕ, Bool, true, false, not, IsTrue, List, Option, Some, None, is_some, length, slice_get, Contains, refl, sym, ◌∙◌, subst}
use Rattle.std.specs.Prelude.{IfSome}
use Rattle.std.specs.List.{All}
use Rattle.std.proofs.lemmas.List.Elements.{All-contains}
use denote.Ref.{Bor}
use Rattle.conf_doc.specs.declared.configuration.Config.{Config}
use Rattle.key_split.specs.Key.{key_parts}
use Rattle.move_core.specs.Moves.{place}
use Rattle.move_core.specs.declared.moves.Move.{Move}
use Rattle.yang_model.specs.Belongs.{Belongs}
use Rattle.yang_model.specs.ModelSets.{ModelSet, shapes_of}
use Rattle.conf_check.specs.Validity.{IsValidAt}
use Rattle.ref_index.specs.Agreements.{entry_of}
use Rattle.ref_index.specs.Referrers.{HasWant, want_for}
use Rattle.ref_index.specs.declared.places.Place.{Place}
use Rattle.recheck.specs.Counts.{IsTold}
use Rattle.recheck.specs.Losses.{HasLost, IsLoser, IsWantOfPart, entry_at}
use Rattle.recheck.specs.Turned.{Wants}
use Rattle.recheck.specs.declared.kept.Kept.{Kept}
use Rattle.recheck.specs.declared.verdicts.Verdict.{Verdict}

-- the entry of a place that wants a part of a key wants what the key is
pub wants_key : (models : ModelSet) (config : Config) (table key : List ℕ) (shape part : ℕ) (p : Place) → Belongs (shapes_of table models) key (Some shape)
    → IsWantOfPart models config table shape key part p → Wants models config table key (entry_at p)
wants_key models config table key shape part p belongs is = record {
  place = is.2.position;
  want = want_for table shape part is.0;
  at = is.2.at.entry;
  wanted = is.2.wanted;
  meets = record { in_table = refl; belongs = belongs; part = is.1 };
}

-- what is answered is there
pub found_there : (config : Config) (t k u j : List ℕ) (b : Bool) → t ≡ u → k ≡ j → b ≡ is_some (entry_of t k config) → b ≡ true
    → IsTrue (is_some (entry_of u j config))
found_there config t k u j b e f is holds =
    subst (λ x. IsTrue (is_some (entry_of x j config))) e (subst (λ x. IsTrue (is_some (entry_of t x config))) f (sym is ∙ holds))

-- one of some places that want a part wants it
pub wants_part : (models : ModelSet) (config : Config) (table key : List ℕ) (shape part n : ℕ) (text : List ℕ) (places : List Place) (o : Option (Bor Place))
    → slice_get (key_parts key) part ≡ Some text → n ≡ part → All (HasWant models config (want_for table shape n text)) places
    → IfSome o (λ p. Contains places p.now) → IfSome o (λ p. IsWantOfPart models config table shape key part p.now)
wants_part models config table key shape part n text places None at same all one = tt
wants_part models config table key shape part n text places (Some p) at same all one = (
  text,
  at,
  subst (λ m. HasWant models config (want_for table shape m text) p.now) same (All-contains (HasWant models config (want_for table shape n text)) places p.now all one),
)

-- an entry that wants what isn't there any more has lost it
pub has_lost : (models : ModelSet) (config next : Config) (table key : List ℕ) (o : Option (Bor Place)) (b : Bool) → b ≡ is_some (entry_of table key next) → b ≡ false
    → IfSome o (λ p. Wants models config table key (entry_at p.now)) → IfSome o (λ p. IsTrue (is_some (entry_of p.now.table p.now.key next)))
    → IfSome o (λ p. HasLost models config next table (entry_at p.now))
has_lost models config next table key None b is lacks wants there = tt
has_lost models config next table key (Some p) b is lacks wants there =
    record { key = key; gone = λ here. let e : true ≡ false = sym here ∙ sym is ∙ lacks in absurd cc; wants = wants; there = there }

-- where the table is a move's
pub is_loser : (models : ModelSet) (config next : Config) (mv : Move) (table : List ℕ) (o : Option (Bor Place)) → length (place mv) ≤ 2
    → slice_get (place mv) 0 ≡ Some table → IfSome o (λ p. HasLost models config next table (entry_at p.now))
    → IfSome o (λ p. IsLoser models config next mv (entry_at p.now))
is_loser models config next mv table None few of lost = tt
is_loser models config next mv table (Some p) few of lost = record { few = few; table = table; of_move = of; lost = lost }

-- it tells where it breaks a rule
pub loser_tells : (models : ModelSet) (old : Option Kept) (next : Config) (mv : Move) (kept : Kept) (entry : Verdict) → old ≡ Some kept
    → IsLoser models kept.index.config next mv entry → (b : Bool) → IsTrue b ↔ IsValidAt models next entry.table entry.key → IsTrue (not b)
    → IsTold models old next mv
loser_tells models old next mv kept entry was loser true says told = absurd cc
loser_tells models old next mv kept entry was loser false says told = record {
  entry = entry;
  loser = record { before = kept; was = was; loser = loser };
  breaks = λ valid. let yes = says.1 valid in absurd cc;
}
