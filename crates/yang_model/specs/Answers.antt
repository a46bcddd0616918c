-- What `compile` answers: the models of the files, or the least of their faults.
use Rattle.std.specs.Prelude.{◌≡◌, ⊤, List, [], ◌++◌, Some, None}
use Rattle.yang_text.specs.Declarations.{Declaration}
use Rattle.yang_scope.specs.Faults.{least_of}
use Rattle.yang_scope.specs.Modules.{modules_of}
use Rattle.yang_scope.specs.declared.faults.Fault.{Fault}
use Rattle.yang_must.specs.Musts.{all_must_faults}
use Rattle.yang_faults.specs.AllFaults.{all_file_faults, all_module_faults}
use Rattle.yang_model.specs.Leaves.{stored}
use Rattle.yang_model.specs.ModelSets.{ModelSet}
use Rattle.yang_model.specs.Readers.{Readers, AreTrue}
use Rattle.yang_model.specs.Shapes.{models_of}
use Rattle.yang_model.specs.declared.errors.ModelError.{ModelError}
use Rattle.yang_model.specs.declared.errors.ModelError.TheVariants.{Fault as AtFault, Memory}

-- all that is wrong with some files
abbrev pub faults : Readers → List (List Declaration) → List Fault
faults readers files =
    all_file_faults files
    ++ (all_module_faults (modules_of files) readers.tests
    ++ all_must_faults readers.read (modules_of files))

-- nothing is wrong with the files, and these are their models
abbrev pub AreModelsOf : List (List Declaration) → ModelSet → Type 0
AreModelsOf files models =
    (readers : Readers) → AreTrue readers
    → (faults readers files ≡ []) × (models ≡ models_of stored (modules_of files) readers)

-- nothing is wrong with some files, and these are their models as readers read them that are true
pub record HaveFiles (models : ModelSet) : Type 0 where
  pub files : List (List Declaration)
  pub readers : Readers
  pub reads : AreTrue readers
  pub none : faults readers files ≡ []
  pub are : models ≡ models_of stored (modules_of files) readers

-- the fault of the lowest file, of its lowest line, and of those the first by name
abbrev pub IsLeastFaultOf : List (List Declaration) → Fault → Type 0
IsLeastFaultOf files fault =
    (readers : Readers) → AreTrue readers
    → least_of None (faults readers files) ≡ Some fault

-- where a fault is answered
abbrev pub IfFault : ModelError → (Fault → Type 0) → Type 0
IfFault (AtFault file line why) P = P (record { file = file; line = line; why = why })
IfFault Memory P = ⊤
