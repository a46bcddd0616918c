use Rattle.std.proofs.Common.{◌∙◌, cond, sym, ap, lit<}
use Rattle.std.specs.List.{before_first, after_first}
use Rattle.std.proofs.lemmas.Str.Pattern.{split_once_first}
use Rattle.yang_scope.specs.Meanings.{is_colon, named_in, named_here, space_of}
use Rattle.yang_scope.specs.declared.meanings.Meaning.{Meaning}
use Rattle.yang_scope.proofs.Tables.{any_none}
use Rattle.yang_scope.proofs.module_sets.ModuleSet.meaning_of.Goals as goal

pub returns-in-None : goal.returns-in-None
returns-in-None c =
    let name = c.args.name.now in
    let modules = c.args.self.now in
    let number = c.args.number in
    let none = any_none is_colon name (rw c.in-None.is at (split_once_first 58 name c.split_once.result c.split_once.ensures.cases (lit< tt))) in
    c.named_here.ensures
    ∙ sym (ap (λ b. cond {A = Meaning} b (named_in modules (space_of modules number (before_first is_colon name)) (after_first is_colon name)) (named_here modules number name)) none)
