-- The names of the services from an index on, in a set.
use Rattle.std.proofs.Common.{◌≡◌, ℕ, zero, suc, List, [], ◌∷◌, drop, Bool, true, false, not, cond, ◌||◌, ◌&&◌, BTreeSet, refl, sym, ap, ◌∙◌}
use Rattle.std.specs.BTreeMap.{is_at}
use Rattle.std.specs.BTreeSet.{contains}
use Rattle.std.specs.List.{list_any}
use Rattle.std.specs.declared.cmp.Ordering.{Ordering}
use Rattle.host_core.specs.Names.{name_cmp}
use Rattle.move_core.specs.RulesFile.{has_name, names_differ}
use Rattle.move_core.specs.declared.settings.ServiceTie.{ServiceTie}
use denote.Bor.{Bor}

abbrev pub lent_cmp : Bor (List ℕ) → Bor (List ℕ) → Ordering
lent_cmp a b = name_cmp a.now b.now

-- the set has the names of these services, and no name occurs twice among them
pub record Seen (names : BTreeSet (Bor (List ℕ))) (rest : List ServiceTie) : Type 0 where
  pub differ : names_differ rest ≡ true
  pub has : (q : Bor (List ℕ)) → contains lent_cmp names q ≡ list_any (has_name q.now) rest

pub seen_none : (names : BTreeSet (Bor (List ℕ))) → names.keys ≡ [] → Seen names []
seen_none names none = record { differ = refl; has = λ q. ap (list_any (λ k. is_at (lent_cmp q) k)) none }

or_cond : (b c : Bool) → cond b true c ≡ (b || c)
or_cond true c = refl
or_cond false c = refl

-- one more name, which is new
pub seen_more : (names new : BTreeSet (Bor (List ℕ))) (tie : ServiceTie) (rest : List ServiceTie) (key : Bor (List ℕ))
    → Seen names rest → key.now ≡ tie.name → contains lent_cmp names key ≡ false
    → ((q : Bor (List ℕ)) → contains lent_cmp new q ≡ cond (is_at (lent_cmp key) q) true (contains lent_cmp names q))
    → Seen new (tie ∷ rest)
seen_more names new tie rest key seen is absent updates = record {
  differ =
      let none : list_any (has_name tie.name) rest ≡ false = ap (λ n. list_any (has_name n) rest) (sym is) ∙ sym (seen.has key) ∙ absent in
      rw (none, seen.differ);
  has = λ q. updates q ∙ or_cond (is_at (lent_cmp key) q) (contains lent_cmp names q)
      ∙ ap (λ b. is_at (lent_cmp key) q || b) (seen.has q) ∙ ap (λ n. has_name q.now (record tie { name = n }) || list_any (has_name q.now) rest) is;
}

-- a name that is there occurs twice
pub seen_twice : (names : BTreeSet (Bor (List ℕ))) (ties : List ServiceTie) (i : ℕ) (tie : ServiceTie) (rest : List ServiceTie) (key : Bor (List ℕ))
    → Seen names rest → key.now ≡ tie.name → contains lent_cmp names key ≡ true → drop i ties ≡ tie ∷ rest → names_differ ties ≡ false
seen_twice names ties i tie rest key seen is there left =
    fails ties i (ap names_differ left ∙ ap (λ b. not b && names_differ rest) (ap (λ n. list_any (has_name n) rest) (sym is) ∙ sym (seen.has key) ∙ there))
  where
    and_false : (b : Bool) → (b && false) ≡ false
    and_false true = refl
    and_false false = refl

    fails : (ss : List ServiceTie) (n : ℕ) → names_differ (drop n ss) ≡ false → names_differ ss ≡ false
    fails ss zero h = h
    fails [] (suc n) h = h
    fails (s ∷ ss) (suc n) h = ap (λ b. not (list_any (has_name s.name) ss) && b) (fails ss n h) ∙ and_false (not (list_any (has_name s.name) ss))
