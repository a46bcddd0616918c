use Rattle.std.proofs.Common.{◌≡◌, ◌≤◌, ◌<◌, List, All, None, Some, map, length, ap, sym, subst, ◌∙◌, arith}
use Rattle.std.proofs.lemmas.List.{length-map}
use Rattle.std.proofs.lemmas.List.Elements.{All-map}
use Rattle.yang_text.specs.Declarations.{Declaration, total_weight}
use Rattle.yang_scope.specs.Faults.{least_of}
use Rattle.yang_scope.specs.Modules.{Module}
use Rattle.yang_scope.specs.declared.faults.Fault.{Fault}
use Rattle.yang_must.specs.Spots.{containers_of}
use Rattle.yang_model.specs.Answers.{faults}
use Rattle.yang_model.specs.Leaves.{stored}
use Rattle.yang_model.specs.Shapes.{models_of}
use Rattle.yang_model.specs.Sizes.{IsSmall, most_files, most_statements}
use Rattle.yang_faults.proofs.FaultFiles.{each_least}
use Rattle.yang_model.proofs.FaultFiles.{faults_below}
use Rattle.yang_model.proofs.FaultAbsence.{no_faults}
use Rattle.yang_model.proofs.Sizes.{are_small}
use Rattle.yang_model.proofs.compiling.compile_named.Goals as goal

pub models_of-requires-clause-small : goal.models_of-requires-clause-small
models_of-requires-clause-small c =
    let files = c.args.files.now in
    let ds : List (List Declaration) = map (λ f. f.1) files in
    let few : length ds ≤ most_files = omega (arith, length-map files (λ f. f.1), c.requires.few) in
    let light : All (λ d. total_weight d ≤ most_statements) ds = All-map (λ d. total_weight d ≤ most_statements) (λ f. f.1) files c.requires.small in
    let P : List Module → Type 0 = λ ms. All IsSmall (containers_of ms) in
    subst P (sym (c.requires.same ∙ c.requires.named)) (are_small ds few light)

pub models_of-requires-clause-files : goal.models_of-requires-clause-files
models_of-requires-clause-files c = λ models gives.
    let ds : List (List Declaration) = map (λ f. f.1) c.args.files.now in
    let (readers, are) = c.readers_exist.ensures in
    record {
      files = ds;
      readers = readers;
      reads = are;
      none = no_faults (faults readers ds) (sym c.in-None.is ∙ c.in_ok-fault.ensures readers are);
      are = gives readers are ∙ ap (λ (ms : List Module). models_of stored ms readers) c.requires.named;
    }

pub returns-in_ok-models_of-in-None-clause-models : goal.returns-in_ok-models_of-in-None-clause-models
returns-in_ok-models_of-in-None-clause-models c = λ readers is.
    let ds : List (List Declaration) = map (λ f. f.1) c.args.files.now in (
      no_faults (faults readers ds) (sym c.in-None.is ∙ c.in_ok-fault.ensures readers is),
      c.in_ok-models_of-in-None.ensures readers is ∙ ap (λ (ms : List Module). models_of stored ms readers) c.requires.named,
    )

pub returns-in-Some-clause-file : goal.returns-in-Some-clause-file
returns-in-Some-clause-file c =
    let files = c.args.files.now in
    let ds : List (List Declaration) = map (λ f. f.1) files in
    let (readers, are) = c.readers_exist.ensures in
    let least : least_of None (faults readers ds) ≡ Some c.in-Some.fault = sym (c.in_ok-fault.ensures readers are) ∙ c.in-Some.is in
    let low : c.in-Some.fault.file < length ds =
    each_least (λ (f : Fault). f.file < length ds) (faults readers ds) c.in-Some.fault (faults_below readers ds) least in
    omega (arith, low, length-map files (λ f. f.1))
