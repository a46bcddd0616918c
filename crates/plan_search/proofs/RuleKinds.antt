-- The rules by their kinds.
use Rattle.std.proofs.Common.{inl, inr, refl, arith}
use Rattle.conf_doc.specs.declared.configuration.Config.{Config}
use Rattle.move_core.specs.Plans.{KeepsRules}
use Rattle.move_core.specs.Rulebook.{Rulebook}
use Rattle.move_core.specs.Rules.{EmptiesNoTable, HasNoDependency, KeepsCreateOnly, KeepsRequired, Passes}
use Rattle.move_core.specs.declared.moves.Move.{Move}

module _ (book : Rulebook) (cur next : Config) (m : Move) where
  pub full : Passes book 1 cur next m → book.IsValid next
  full (inl h) = h.1
  full (inr (inl h)) = absurd (let e = h.0 in omega (arith, e))
  full (inr (inr (inl h))) = absurd (let e = h.0 in omega (arith, e))
  full (inr (inr (inr (inl h)))) = absurd (let e = h.0 in omega (arith, e))
  full (inr (inr (inr (inr h)))) = absurd (let e = h.0 in omega (arith, e))

  pub no_dependency : Passes book 2 cur next m → HasNoDependency book cur next m
  no_dependency (inl h) = absurd (let e = h.0 in omega (arith, e))
  no_dependency (inr (inl h)) = h.1
  no_dependency (inr (inr (inl h))) = absurd (let e = h.0 in omega (arith, e))
  no_dependency (inr (inr (inr (inl h)))) = absurd (let e = h.0 in omega (arith, e))
  no_dependency (inr (inr (inr (inr h)))) = absurd (let e = h.0 in omega (arith, e))

  pub no_empty : Passes book 3 cur next m → EmptiesNoTable cur next
  no_empty (inl h) = absurd (let e = h.0 in omega (arith, e))
  no_empty (inr (inl h)) = absurd (let e = h.0 in omega (arith, e))
  no_empty (inr (inr (inl h))) = h.1
  no_empty (inr (inr (inr (inl h)))) = absurd (let e = h.0 in omega (arith, e))
  no_empty (inr (inr (inr (inr h)))) = absurd (let e = h.0 in omega (arith, e))

  pub create_only : Passes book 4 cur next m → KeepsCreateOnly book.settings cur next
  create_only (inl h) = absurd (let e = h.0 in omega (arith, e))
  create_only (inr (inl h)) = absurd (let e = h.0 in omega (arith, e))
  create_only (inr (inr (inl h))) = absurd (let e = h.0 in omega (arith, e))
  create_only (inr (inr (inr (inl h)))) = h.1
  create_only (inr (inr (inr (inr h)))) = absurd (let e = h.0 in omega (arith, e))

  pub required : Passes book 5 cur next m → KeepsRequired book.settings cur next
  required (inl h) = absurd (let e = h.0 in omega (arith, e))
  required (inr (inl h)) = absurd (let e = h.0 in omega (arith, e))
  required (inr (inr (inl h))) = absurd (let e = h.0 in omega (arith, e))
  required (inr (inr (inr (inl h)))) = absurd (let e = h.0 in omega (arith, e))
  required (inr (inr (inr (inr h)))) = h.1

  pub passes_full : KeepsRules book cur next m → Passes book 1 cur next m
  passes_full h = inl (refl, h.full)

  pub passes_no_dependency : KeepsRules book cur next m → Passes book 2 cur next m
  passes_no_dependency h = inr (inl (refl, h.no_dependency))

  pub passes_no_empty : KeepsRules book cur next m → Passes book 3 cur next m
  passes_no_empty h = inr (inr (inl (refl, h.no_empty)))

  pub passes_create_only : KeepsRules book cur next m → Passes book 4 cur next m
  passes_create_only h = inr (inr (inr (inl (refl, h.create_only))))

  pub passes_required : KeepsRules book cur next m → Passes book 5 cur next m
  passes_required h = inr (inr (inr (inr (refl, h.required))))
