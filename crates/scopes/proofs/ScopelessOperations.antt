-- The first operation without a scope, and what a patch is split into.
use Rattle.std.proofs.Common.{◌≡◌, ℕ, ◌+◌, Bool, cond, not, List, [], ◌∷◌, map, nat_lt, Option, Some, None, Ok, Err, refl, sym, ap, ◌∙◌}
use Rattle.conf_doc.proofs.Lists.{length-map}
use Rattle.std.specs.List.{position, prefix_len}
use Rattle.std.specs.Option.{option_map_or}
use Rattle.patch_core.specs.Operation.{operation_of}
use Rattle.patch_core.specs.declared.operations.Op.{Op}
use Rattle.scopes.specs.Splitting.{Part, has_scope, parts, split}
use Rattle.scopes.specs.declared.errors.SplitError.TheVariants.{BadScope}

prefix_map : {X Y : Type 0} (p : Y → Bool) (f : X → Y) (xs : List X) → prefix_len p (map f xs) ≡ prefix_len (λ x. p (f x)) xs
prefix_map p f [] = refl
prefix_map p f (x ∷ xs) = ap (λ n. cond (p (f x)) (1 + n) 0) (prefix_map p f xs)

position_map : {X Y : Type 0} (p : Y → Bool) (f : X → Y) (xs : List X) → position p (map f xs) ≡ position (λ x. p (f x)) xs
position_map p f xs = λ i. cond (nat_lt (prefix_map (λ y. not (p y)) f xs i) (length-map f xs i)) (Some (prefix_map (λ y. not (p y)) f xs i)) None

module _ (ops : List Op) (found : Option ℕ) (is : found ≡ position (λ op. not (has_scope (operation_of op))) ops) where
  splits : split (map operation_of ops) ≡ option_map_or (λ index. Err (BadScope index)) found (Ok (parts (map operation_of ops)))
  splits =
      ap (λ o. option_map_or (λ index. Err (BadScope index)) o (Ok (parts (map operation_of ops))))
      (position_map (λ op. not (has_scope op)) operation_of ops ∙ sym is)

  -- where one has none
  pub split_fails : (index : ℕ) → found ≡ Some index → split (map operation_of ops) ≡ Err (BadScope index)
  split_fails index e = splits ∙ ap (λ o. option_map_or (λ index. Err (BadScope index)) o (Ok (parts (map operation_of ops)))) e

  -- where each has one
  pub split_parts : (all : List Part) → all ≡ parts (map operation_of ops) → found ≡ None → split (map operation_of ops) ≡ Ok all
  split_parts all is_all e =
      splits ∙ ap (λ o. option_map_or (λ index. Err (BadScope index)) o (Ok (parts (map operation_of ops)))) e ∙ (λ i. Ok (sym is_all i))
