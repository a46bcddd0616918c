-- Sets of places, and lists of places.
use Rattle.std.specs.Prelude.{◌≡◌, ℕ, ◌+◌, ◌-◌, ◌<◌, ◌≤◌, ◌/◌, ◌%◌, ◌==◌, nat_le, Bool, false, ◌&&◌, ◌||◌, List, slice_index, slice_index_or, length, replicate}
use Rattle.std.specs.Int.{bit_at}
use Rattle.std.proofs.lemmas.List.{length-replicate}
use Rattle.yang_pattern.specs.declared.sets.Places.{Places}
use Rattle.yang_pattern.specs.declared.fragments.Place.{Place}
use Rattle.yang_pattern.specs.Limits.{largest_size, word_bits, set_words}

-- whether a place is in a set
abbrev pub contains : Places → ℕ → Bool
contains set q = bit_at (slice_index set.words (q / word_bits)) (q % word_bits) == 1

-- the place where there is none
abbrev pub nowhere : Place
nowhere = record {
  token = 0;
  follow = record { words = replicate set_words 0; full = length-replicate {A = ℕ} set_words 0 };
  last = false;
}

-- the place of a number
abbrev pub place_at : List Place → ℕ → Place
place_at places p = slice_index_or places p nowhere

-- no set of a fragment has a place that the fragment doesn't have
abbrev pub IsWithin : List Place → Places → Type 0
IsWithin places first =
    ((q : ℕ) → q < largest_size → length places ≤ q → contains first q ≡ false)
    × ((p q : ℕ) → p < length places → q < largest_size → length places ≤ q
    → contains (place_at places p).follow q ≡ false)

-- a place after which another fragment comes
pub record IsLedOn (entered : Places) (empty : Bool) (old new : Place) : Type 0 where
  pub token : new.token ≡ old.token
  pub last : new.last ≡ (old.last && empty)
  pub follow :
      (q : ℕ) → q < largest_size
      → contains new.follow q ≡ (contains old.follow q || (old.last && contains entered q))

-- a place that stands further on
pub record IsShifted (by : ℕ) (old new : Place) : Type 0 where
  pub token : new.token ≡ old.token
  pub last : new.last ≡ old.last
  pub follow :
      (q : ℕ) → q < largest_size
      → contains new.follow q ≡ (nat_le by q && contains old.follow (q - by))

-- places with others behind them
pub record IsAppended (old more new : List Place) : Type 0 where
  pub count : length new ≡ length old + length more
  pub before : (k : ℕ) → k < length old → place_at new k ≡ place_at old k
  pub behind :
      (k : ℕ) → k < length more
      → IsShifted (length old) (place_at more k) (place_at new (length old + k))
