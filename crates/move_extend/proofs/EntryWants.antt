-- The removals of the places of an entry's broken wants, one want after another.
use Rattle.std.proofs.Common.{◌≡◌, ◌≢◌, ◌⊎◌, ◌↔◌, inl, inr, ℕ, List, Some, None, Contains, sym, ap, ◌∙◌, subst}
use Rattle.std.specs.List.{AllPairs}
use Rattle.conf_doc.proofs.Edits.{same_Some}
use Rattle.conf_check.specs.Rows.{IsEntryAt}
use Rattle.conf_check.specs.WantRuns.{GivesFirst, GivesNextWant, IsWantAhead}
use Rattle.conf_check.specs.Wants.{Want, IsNamed, IsWantAt, want_of}
use Rattle.conf_check.specs.declared.want_iter.WantAt.{WantAt}
use Rattle.conf_check.specs.declared.want_iter.WantIter.{WantIter}
use Rattle.conf_check.specs.declared.want_iter.WantPlace.{WantPlace}
use Rattle.move_core.specs.Contexts.{names_of}
use Rattle.move_core.specs.declared.moves.Move.{Move}
use Rattle.move_extend.specs.Found.{Finds}
use Rattle.move_extend.specs.Mentions.{GivesOfEntry, IsRemovalOf}
use Rattle.move_extend.specs.Referrers.{IsBroken, place_of, removal_at}
use Rattle.move_extend.specs.declared.changes.Change.{Change}
use Rattle.move_extend.proofs.Names.{names_named}

-- what is found, where the wants of the entry that the walk has ahead are left
pub record IsEntryWalk (c : Change) (t u k : List ℕ) (old : List Move) (s : WantIter) (found : List Move) : Type 0 where
  pub by : s.models.now ≡ c.models.now
  pub of : s.config.now ≡ c.cur.now
  pub within : (p : WantPlace) (w : Want) → IsWantAhead s p w → IsEntryAt c.cur.now u k p.table p.key
  pub each : (x : Move) → Contains found x → Contains old x ⊎ GivesOfEntry c t u k x
  pub kept : (x : Move) → Contains old x → Contains found x
  pub all : (x : Move) (gives : GivesOfEntry c t u k x) → Contains found x ⊎ IsWantAhead s gives.given.at gives.given.want
  pub once : AllPairs (λ a b. a ≢ b) old → AllPairs (λ a b. a ≢ b) found

-- the wants that a walk begins with
abbrev pub BeginsAt : Change → List ℕ → List ℕ → WantIter → Type 0
BeginsAt c u k s =
    (p : WantPlace) (w : Want) → IsWantAhead s p w ↔ (IsEntryAt c.cur.now u k p.table p.key × IsWantAt c.models.now c.cur.now p w)

-- the want that a walk gives next is one of the configuration
pub walk_wants : (c : Change) (t u k : List ℕ) (old : List Move) (s v : WantIter) (a : WantAt) (found : List Move) → IsEntryWalk c t u k old s found
    → (steps : GivesNextWant s (Some a) v) → IsWantAt c.models.now c.cur.now steps.gives.place (want_of a.want)
walk_wants c t u k old s v a found walk steps =
    subst (λ d. IsWantAt c.models.now d steps.gives.place (want_of a.want)) walk.of
    (subst (λ ms. IsWantAt ms s.config.now steps.gives.place (want_of a.want)) walk.by steps.gives.wanted.1)

module _ (c : Change) (t u k : List ℕ) (old : List Move) where
  pub entry_begins : (s : WantIter) → s.models.now ≡ c.models.now → s.config.now ≡ c.cur.now → BeginsAt c u k s → IsEntryWalk c t u k old s old
  entry_begins s by of begins = record {
    by = by;
    of = of;
    within = λ p w ahead. ((begins p w).0 ahead).0;
    each = λ x h. inl h;
    kept = λ x h. h;
    all = λ x gives. inr ((begins gives.given.at gives.given.want).1 (gives.at, gives.given.wanted));
    once = λ apart. apart;
  }

  module _ (s v : WantIter) (a : WantAt) (found new : List Move) (walk : IsEntryWalk c t u k old s found) (steps : GivesNextWant s (Some a) v)
      (finds : Finds (IsRemovalOf c t a) found new) where
    abbrev first : GivesFirst s a v
    first = steps.gives

    named : names_of c.cur.now first.place ≡ Some (place_of a)
    named = names_named c.cur.now first.place a (subst (λ d. IsNamed d first.place a) walk.of first.named)

    wanted : IsWantAt c.models.now c.cur.now first.place (want_of a.want)
    wanted = walk_wants c t u k old s v a found walk steps

    item : a.item ≡ first.place.item
    item = (subst (λ d. IsNamed d first.place a) walk.of first.named).item

    this : (x : Move) → IsRemovalOf c t a x → GivesOfEntry c t u k x
    this x is = record {
      given = record { at = first.place; want = want_of a.want; wanted = wanted; broken = is.0; place = place_of a; names = named; move = is.1 ∙ ap (removal_at c.cur.now (place_of a)) item };
      at = walk.within first.place (want_of a.want) first.wanted;
    }

    each_now : (x : Move) → Contains found x ⊎ IsRemovalOf c t a x → Contains old x ⊎ GivesOfEntry c t u k x
    each_now x (inl h) = walk.each x h
    each_now x (inr is) = inr (this x is)

    here : (x : Move) (gives : GivesOfEntry c t u k x) → gives.given.at ≡ first.place → gives.given.want ≡ want_of a.want → Contains new x
    here x gives place want =
        let names : gives.given.place ≡ place_of a = same_Some gives.given.place (place_of a) (sym gives.given.names ∙ ap (names_of c.cur.now) place ∙ named) in
        let number : gives.given.at.item ≡ a.item = ap (λ q. q.item) place ∙ sym item in
        finds.all x (subst (IsBroken c.models.now c.next.now t) want gives.given.broken, gives.given.move ∙ (λ i. removal_at c.cur.now (names i) (number i)))

    all_now : (x : Move) (gives : GivesOfEntry c t u k x) → Contains found x ⊎ IsWantAhead s gives.given.at gives.given.want
        → Contains new x ⊎ IsWantAhead v gives.given.at gives.given.want
    all_now x gives (inl h) = inl (finds.kept x h)
    all_now x gives (inr ahead) = elim (first.others gives.given.at gives.given.want ahead) [
      | inl same ↦ inl (here x gives same.0 same.1)
      | inr later ↦ inr later
    ]

    pub entry_goes_on : IsEntryWalk c t u k old v new
    entry_goes_on = record {
      by = steps.models ∙ walk.by;
      of = steps.config ∙ walk.of;
      within = λ p w ahead. walk.within p w (first.behind p w ahead).1;
      each = λ x h. each_now x (finds.each x h);
      kept = λ x h. finds.kept x (walk.kept x h);
      all = λ x gives. all_now x gives (walk.all x gives);
      once = λ apart. finds.once (walk.once apart);
    }

  pub entry_ends : (s v : WantIter) (found : List Move) → IsEntryWalk c t u k old s found → GivesNextWant s None v → Finds (GivesOfEntry c t u k) old found
  entry_ends s v found walk steps = record {
    each = walk.each;
    kept = walk.kept;
    all = λ x gives. elim (walk.all x gives) [
      | inl h ↦ h
      | inr ahead ↦ absurd (steps.gives.0 gives.given.at gives.given.want ahead)
    ];
    once = walk.once;
  }
