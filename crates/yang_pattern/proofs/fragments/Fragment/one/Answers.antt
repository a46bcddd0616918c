use Rattle.std.proofs.Common.{◌≡◌, ◌∙◌, ap, sym, subst, refl, List, [], ◌∷◌, ◌++◌, length, false, ◌||◌, true, ℕ, Bool}
use Rattle.yang_pattern.proofs.Languages.{IsOne, one_to, one_from}
use Rattle.yang_pattern.specs.declared.fragments.Place.{Place}
use Rattle.yang_pattern.specs.declared.sets.Places.{Places}
use Rattle.yang_pattern.specs.PlaceSets.{contains, place_at}
use Rattle.yang_pattern.specs.Machine.{machine_from, Takes}
use Rattle.yang_pattern.proofs.fragments.Fragment.one.Goals as goal

one_place : (x : Place) (places : List Place) (first : Places) → places ≡ x ∷ [] → x.last ≡ true → ((q : ℕ) → contains x.follow q ≡ false) → contains first 0 ≡ true
    → (r : ℕ → ℕ → Bool) → IsOne (machine_from r places first false) (λ c. r x.token c)
one_place x places first is last none starts r = record {
  count = ap length is;
  empty = refl;
  first = starts;
  follow = λ q. ap (λ xs. contains (place_at xs 0).follow q) is ∙ none q;
  last = ap (λ xs. (place_at xs 0).last) is ∙ last;
  reads = λ c. ap (λ xs. r (place_at xs 0).token c) is;
}

pub returns-clause-language : goal.returns-clause-language
returns-clause-language c = λ r u.
    let x : Place = record { token = c.args.token; follow = c.new.result; last = true } in
    let is : c.push.new.self.items ≡ x ∷ [] = c.in_ok-push.ensures.items ∙ ap (λ xs. xs ++ x ∷ []) c.new-places.ensures.items in
    let starts : contains c.insert.new.self 0 ≡ true = c.insert.ensures 0 ∙ ap (λ b. b || true) (c.new-first.ensures 0) in
    let o = one_place x c.push.new.self.items c.insert.new.self is refl c.new.ensures starts r in
    let m = machine_from r c.push.new.self.items c.insert.new.self false in (
      λ t. one_to m (λ d. r c.args.token d) o u t,
      λ (d, e, h). subst (Takes m) (sym e) (one_from m (λ k. r c.args.token k) o d h),
    )
