use Rattle.std.proofs.Common.{◌≡◌, [], ap, ◌∙◌, sym, subst, map, List, OnOk}
use Rattle.std.specs.List.{flat_map}
use Rattle.yang_text.specs.Declarations.{Declaration, block_of, declarations}
use Rattle.yang_text.specs.Statements.{declaration}
use Rattle.yang_scope.specs.Faults.{least_of}
use Rattle.yang_faults.specs.Fields.{field_faults}
use Rattle.yang_faults.specs.Own.{module_faults, list_faults}
use Rattle.yang_scope.proofs.Blocks.{declarations-block_of}
use Rattle.yang_faults.proofs.own.note_own.Goals as goal

pub returns-in-Module : goal.returns-in-Module
returns-in-Module g c =
    let s = c.args.statement.now in
    let whole : map declaration c.items-block.result.now ≡ declarations (block_of s.block) = c.items-block.ensures ∙ sym (declarations-block_of s.block) in
    let P : List Declaration → Type 0 = λ ds. OnOk c.note_module.result (c.note_module.new.least ≡ least_of c.args.least.now (module_faults c.args.file s.argument ds)) in
    rw c.in-Module.is (subst P whole c.note_module.ensures)

pub returns-in-TableList : goal.returns-in-TableList
returns-in-TableList g c =
    let s = c.args.statement.now in
    let whole : map declaration c.items-block.result.now ≡ declarations (block_of s.block) = c.items-block.ensures ∙ sym (declarations-block_of s.block) in
    let P : List Declaration → Type 0 = λ ds. OnOk c.note_list.result (c.note_list.new.least ≡ least_of c.args.least.now (list_faults c.args.file ds)) in
    rw c.in-TableList.is (subst P whole c.note_list.ensures)

pub returns-in-FixedContainer : goal.returns-in-FixedContainer
returns-in-FixedContainer g c =
    let s = c.args.statement.now in
    let whole : map declaration c.items-block.result.now ≡ declarations (block_of s.block) = c.items-block.ensures ∙ sym (declarations-block_of s.block) in
    rw c.in-FixedContainer.is
    (c.note_fixed_fields.ensures ∙ ap (λ (ds : List Declaration). least_of c.args.least.now (flat_map (field_faults c.args.file []) ds)) whole)
