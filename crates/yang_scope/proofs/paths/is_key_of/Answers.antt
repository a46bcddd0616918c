use Rattle.std.proofs.Common.{◌≡◌, ◌∙◌, ℕ, List, Bool, false, Option, Some, None, codes, option_map, option_and_then, sym, ap}
use Rattle.std.specs.List.{list_any}
use Rattle.std.specs.Option.{option_copied, option_map_or}
use Rattle.std.specs.Str.{bytes_eq}
use Rattle.yang_text.specs.Declarations.{argument}
use Rattle.yang_text.specs.Statements.{declaration}
use Rattle.yang_scope.specs.Pieces.{pieces}
use Rattle.yang_scope.specs.Statements.{first_child}
use Rattle.yang_scope.proofs.Blocks.{first_child-is, any_mapped, any_swapped}
use Rattle.yang_scope.proofs.paths.is_key_of.Goals as goal

-- whether the key of a list, where it has one, has a name
abbrev among : List ℕ → Option (List ℕ) → Bool
among name key = option_map_or (λ k. list_any (bytes_eq name) (pieces 32 k)) key false

pub returns-in_ok-pieces-in-Some-argument : goal.returns-in_ok-pieces-in-Some-argument
returns-in_ok-pieces-in-Some-argument c =
    let name = c.args.name.now in
    let found : first_child (codes "key") (declaration c.args.list.now) ≡ Some (declaration c.in-Some.key.now) =
    first_child-is (codes "key") c.args.list.now c.items.result.now c.items.ensures
    ∙ ap (option_map declaration) (sym c.first_of.ensures ∙ ap option_copied c.in-Some.is) in
    c.is_among.ensures
    ∙ any_swapped name c.as_slice.result.now
    ∙ ap (list_any (λ n. bytes_eq name n.now)) c.as_slice.ensures.value
    ∙ sym (any_mapped (bytes_eq name) (λ n. n.now) c.in_ok-pieces-in-Some-argument.field-0.items)
    ∙ ap (list_any (bytes_eq name)) (c.in_ok-pieces-in-Some-argument.ensures ∙ ap (pieces 32) c.as_str.ensures.text)
    ∙ sym (ap (among name) (ap (option_and_then argument) found ∙ c.in-Some-argument.is))

pub returns-in-None-argument : goal.returns-in-None-argument
returns-in-None-argument c =
    let found : first_child (codes "key") (declaration c.args.list.now) ≡ Some (declaration c.in-Some.key.now) =
    first_child-is (codes "key") c.args.list.now c.items.result.now c.items.ensures
    ∙ ap (option_map declaration) (sym c.first_of.ensures ∙ ap option_copied c.in-Some.is) in
    sym (ap (among c.args.name.now) (ap (option_and_then argument) found ∙ c.in-None-argument.is))

pub returns-in-None : goal.returns-in-None
returns-in-None c =
    let found : first_child (codes "key") (declaration c.args.list.now) ≡ None =
    first_child-is (codes "key") c.args.list.now c.items.result.now c.items.ensures
    ∙ ap (option_map declaration) (sym c.first_of.ensures ∙ ap option_copied c.in-None.is) in
    sym (ap (among c.args.name.now) (ap (option_and_then argument) found))
