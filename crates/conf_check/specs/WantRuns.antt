-- The wants of a configuration as they are handed out.
use Rattle.std.specs.Prelude.{◌≡◌, ◌⊎◌, ◌<◌, ◌≤◌, ◌+◌, ◌*◌, ◌-◌, ◌^◌, ℕ, suc, true, Option, Some, None, MatchOption}
use Rattle.conf_check.specs.FirstWants.{AreOfOneEntry}
use Rattle.conf_check.specs.Wants.{Want, want_of, IsNamed, IsPlaceBefore, IsWantAt}
use Rattle.conf_check.specs.declared.want_iter.WantAt.{WantAt}
use Rattle.conf_check.specs.declared.want_iter.WantIter.{WantIter}
use Rattle.conf_check.specs.declared.want_iter.WantPlace.{WantPlace}

-- the place behind one
abbrev pub after : WantPlace → WantPlace
after p = record { table = p.table; key = p.key; field = p.field; item = p.item + 1 }

-- the iterator comes to the place: at or behind where it stands, and in the entry it keeps to
pub record IsToCome (s : WantIter) (p : WantPlace) : Type 0 where
  pub behind : ¬ IsPlaceBefore p s.from
  pub within : s.one_entry ≡ true → AreOfOneEntry p s.from

-- a want that it comes to
abbrev pub IsWantAhead : WantIter → WantPlace → Want → Type 0
IsWantAhead s p w = IsToCome s p × IsWantAt s.models.now s.config.now p w

-- a want is handed out with its names, the first that is ahead; the others stay ahead
pub record GivesFirst (s : WantIter) (a : WantAt) (t : WantIter) : Type 0 where
  pub place : WantPlace
  pub named : IsNamed s.config.now place a
  pub wanted : IsWantAhead s place (want_of a.want)
  pub others :
      (p : WantPlace) (w : Want) → IsWantAhead s p w
      → ((p ≡ place) × (w ≡ want_of a.want)) ⊎ IsWantAhead t p w
  pub behind :
      (p : WantPlace) (w : Want) → IsWantAhead t p w → IsPlaceBefore place p × IsWantAhead s p w

-- no want is ahead
abbrev pub IsDone : WantIter → Type 0
IsDone s = (p : WantPlace) (w : Want) → ¬ IsWantAhead s p w

-- the answer is the first want ahead, with its place
abbrev pub IsFirstAhead : WantIter → Option (WantPlace × WantAt) → Type 0
IsFirstAhead s answer =
    MatchOption answer (IsDone s)
    (λ a. IsWantAhead s a.0 (want_of a.1.want)
    × ((p : WantPlace) (w : Want) → IsWantAhead s p w → ¬ IsPlaceBefore p a.0))

-- the first want ahead is handed out, or None where none is ahead
pub record GivesNextWant (s : WantIter) (answer : Option WantAt) (t : WantIter) : Type 0 where
  pub models : t.models.now ≡ s.models.now
  pub config : t.config.now ≡ s.config.now
  pub gives : MatchOption answer (IsDone s × IsDone t) (λ a. GivesFirst s a t)

-- the number of a field, after that of the key
abbrev pub field_number : Option ℕ → ℕ
field_number None = 0
field_number (Some f) = suc f

-- the numbers of a place are a machine's
pub record AreSmall (p : WantPlace) : Type 0 where
  pub table : p.table < 2 ^ 64
  pub key : p.key < 2 ^ 64
  pub field : field_number p.field ≤ 2 ^ 64
  pub item : p.item < 2 ^ 64

-- more than a machine's number
abbrev pub base : ℕ
base = 2 ^ 64 + 1

-- how many places stand before one
abbrev pub place_number : WantPlace → ℕ
place_number p = ((p.table * base + p.key) * base + field_number p.field) * base + p.item

-- how many places may come from one on
abbrev pub places_left : WantPlace → ℕ
places_left p = base * base * base * base - place_number p
