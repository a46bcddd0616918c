-- The fault that is answered is the least.
use Rattle.std.proofs.Common.{◌≡◌, ◌<◌, ◌≤◌, ◌⊎◌, ℕ, Bool, true, false, cond, List, [], ◌∷◌, ◌++◌, Option, Some, None, option_to_list, refl, sym, subst, ◌∙◌, arith, inl, inr, nat_lt, nat_le, nat_eq, ◌&&◌, ◌||◌}
use Rattle.std.specs.Prelude.{fold}
use Rattle.std.proofs.lemmas.Bool.Decides.{nat_tests}
use Rattle.yang_text.specs.Faults.{lower, lower_of, IsNotAbove, IsAmong, IsLeast}
use Rattle.yang_text.specs.Whys.{why_number}
use Rattle.yang_text.specs.declared.faults.Fault.{Fault}

trans : (a b c x y z : ℕ) → (a < b) ⊎ ((a ≡ b) × (x ≤ y)) → (b < c) ⊎ ((b ≡ c) × (y ≤ z)) → (a < c) ⊎ ((a ≡ c) × (x ≤ z))
trans a b c x y z (inl h) (inl k) = inl (omega arith)
trans a b c x y z (inl h) (inr k) = inl (omega arith)
trans a b c x y z (inr h) (inl k) = inl (omega arith)
trans a b c x y z (inr h) (inr k) = inr (omega arith, omega arith)

not_above-trans : (f g h : Fault) → IsNotAbove f g → IsNotAbove g h → IsNotAbove f h
not_above-trans f g h a b = trans f.line g.line h.line (why_number f.why) (why_number g.why) (why_number h.why) a b

itself : (f : Fault) → IsNotAbove f f
itself f = inr (refl, omega arith)

when_true : (a b x y : ℕ) → (nat_lt a b || (nat_eq a b && nat_le x y)) ≡ true → (a < b) ⊎ ((a ≡ b) × (x ≤ y))
when_true a b x y h = grind (arith, nat_tests, h)

when_false : (a b x y : ℕ) → (nat_lt a b || (nat_eq a b && nat_le x y)) ≡ false → (b < a) ⊎ ((b ≡ a) × (y ≤ x))
when_false a b x y h = grind (arith, nat_tests, h)

-- lower is one of the two, and above neither
record Picks (f g r : Fault) : Type 0 where
  one : (r ≡ f) ⊎ (r ≡ g)
  first : IsNotAbove r f
  second : IsNotAbove r g

picks_by : (f g : Fault) (b : Bool) → (nat_lt f.line g.line || (nat_eq f.line g.line && nat_le (why_number f.why) (why_number g.why))) ≡ b → Picks f g (cond b f g)
picks_by f g true e = record { one = inl refl; first = itself f; second = when_true f.line g.line (why_number f.why) (why_number g.why) e }
picks_by f g false e = record { one = inr refl; first = when_false f.line g.line (why_number f.why) (why_number g.why) e; second = itself g }

picks : (f g : Fault) → Picks f g (lower f g)
picks f g = picks_by f g _ refl

at_front : (f g r : Fault) (gs : List Fault) → (lower f g ≡ f) ⊎ (lower f g ≡ g) → IsAmong r (lower f g ∷ gs) → IsAmong r (f ∷ g ∷ gs)
at_front f g r gs (inl e) (inl h) = inl (h ∙ e)
at_front f g r gs (inr e) (inl h) = inr (inl (h ∙ e))
at_front f g r gs one (inr h) = inr (inr h)

least_of : (f r : Fault) (gs : List Fault) → fold lower_of (Some f) gs ≡ Some r → IsLeast r (f ∷ gs)
least_of f r [] e = let same : r ≡ f = cc in record { among = inl same; least = (subst (λ x. IsNotAbove x f) (sym same) (itself f), tt) }
least_of f r (g ∷ gs) e =
    let h = least_of (lower f g) r gs e in
    let p = picks f g in
    record {
      among = at_front f g r gs p.one h.among;
      least = (not_above-trans r (lower f g) f h.least.0 p.first, (not_above-trans r (lower f g) g h.least.0 p.second, h.least.1));
    }

-- what the fold from some first fault gives
pub least_is_least : (o : Option Fault) (fs : List Fault) (r : Fault) → fold lower_of o fs ≡ Some r → IsLeast r (option_to_list o ++ fs)
least_is_least None [] r e = absurd (cc)
least_is_least None (f ∷ fs) r e = least_of f r fs e
least_is_least (Some f) fs r e = least_of f r fs e

some_of : (f : Fault) (fs : List Fault) → fold lower_of (Some f) fs ≡ None → ⊥
some_of f [] e = cc
some_of f (g ∷ gs) e = some_of (lower f g) gs e

-- where there is none, there is no fault
pub none_is_none : (o : Option Fault) (fs : List Fault) → fold lower_of o fs ≡ None → (o ≡ None) × (fs ≡ [])
none_is_none None [] e = (refl, refl)
none_is_none None (f ∷ fs) e = absurd (some_of f fs e)
none_is_none (Some f) fs e = absurd (some_of f fs e)
