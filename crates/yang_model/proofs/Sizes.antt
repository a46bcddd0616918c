-- What stands in small files is small.
use Rattle.std.proofs.Common.{◌<◌, ◌≤◌, ◌+◌, ◌*◌, ◌^◌, ℕ, suc, Bool, true, false, cond, List, [], ◌∷◌, map, length, codes, All, arith}
use Rattle.std.proofs.lemmas.List.{length-append}
use Rattle.std.proofs.lemmas.List.Sums.{length-filter, count_by-le-length}
use Rattle.std.proofs.lemmas.List.Elements.{All-nil, All-cons, All-head, All-tail, All-append, All-map, All-filter, All-weaker}
use Rattle.yang_text.specs.Declarations.{Declaration, declare, Block, no_more, more, declarations, block, weight, block_weight, total_weight}
use Rattle.yang_scope.specs.Modules.{Module, module_in, modules_in, modules_of}
use Rattle.yang_scope.specs.Statements.{is_keyword, children_of, each_from}
use Rattle.yang_scope.specs.Nodes.{is_shape}
use Rattle.yang_must.specs.Spots.{containers_in, containers_of, tables_of, shapes_of}
use Rattle.yang_model.specs.Sizes.{IsSmall, most_files, most_statements}

light_block : (b : Block) (n : ℕ) → block_weight b ≤ n → All (λ d. weight d ≤ n) (declarations b)
light_block no_more n h = All-nil (λ d. weight d ≤ n)
light_block (more d b) n h = All-cons (λ d. weight d ≤ n) d (declarations b) (omega arith) (light_block b n (omega arith))

-- what stands in braces weighs less
light_inside : (d : Declaration) (n : ℕ) → weight d ≤ n → All (λ e. weight e ≤ n) (block d)
light_inside (declare k a l s e b) n h = light_block b n (omega arith)

light_list : (ds : List Declaration) (n : ℕ) → total_weight ds ≤ n → All (λ d. weight d ≤ n) ds
light_list [] n h = All-nil (λ d. weight d ≤ n)
light_list (d ∷ ds) n h = All-cons (λ d. weight d ≤ n) d ds (omega arith) (light_list ds n (omega arith))

one_if : {X : Type 0} (P : X → Type 0) (b : Bool) (x : X) → P x → All P (cond b (x ∷ []) [])
one_if P true x h = All-cons P x [] h (All-nil P)
one_if P false x h = All-nil P

light_modules_in : (file : ℕ) (ds : List Declaration) (n : ℕ) → All (λ d. weight d ≤ n) ds → All (λ m. weight m.statement ≤ n) (modules_in file ds)
light_modules_in file [] n h = All-nil (λ m. weight m.statement ≤ n)
light_modules_in file (d ∷ ds) n h =
    All-append (λ (m : Module). weight m.statement ≤ n) (module_in file d) (modules_in file ds)
    (one_if (λ (m : Module). weight m.statement ≤ n) (is_keyword (codes "module") d) (record { file = file; statement = d }) (All-head (λ d. weight d ≤ n) d ds h))
    (light_modules_in file ds n (All-tail (λ d. weight d ≤ n) d ds h))

light_modules : (place : ℕ) (files : List (List Declaration)) (n : ℕ) → All (λ ds. total_weight ds ≤ n) files
    → All (λ m. weight m.statement ≤ n) (each_from modules_in place files)
light_modules place [] n h = All-nil (λ m. weight m.statement ≤ n)
light_modules place (ds ∷ files) n h =
    All-append (λ (m : Module). weight m.statement ≤ n) (modules_in place ds) (each_from modules_in (suc place) files)
    (light_modules_in place ds n (light_list ds n (All-head (λ ds. total_weight ds ≤ n) ds files h)))
    (light_modules (suc place) files n (All-tail (λ ds. total_weight ds ≤ n) ds files h))

heavy : (d : Declaration) → 1 ≤ weight d
heavy (declare k a l s e b) = omega arith

one_at_most : {X : Type 0} (b : Bool) (x : X) → length (cond b (x ∷ []) []) ≤ 1
one_at_most true x = omega arith
one_at_most false x = omega arith

few_modules_in : (file : ℕ) (ds : List Declaration) → length (modules_in file ds) ≤ total_weight ds
few_modules_in file [] = omega arith
few_modules_in file (d ∷ ds) =
    let m : Module = record { file = file; statement = d } in
    omega (arith, length-append (module_in file d) (modules_in file ds), one_at_most (is_keyword (codes "module") d) m, heavy d, few_modules_in file ds)

few_modules : (place : ℕ) (files : List (List Declaration)) → All (λ ds. total_weight ds ≤ most_statements) files
    → length (each_from modules_in place files) ≤ length files * most_statements
few_modules place [] h = omega arith
few_modules place (ds ∷ files) h =
    omega (
      arith,
      length-append (modules_in place ds) (each_from modules_in (suc place) files),
      few_modules_in place ds,
      All-head (λ ds. total_weight ds ≤ most_statements) ds files h,
      few_modules (suc place) files (All-tail (λ ds. total_weight ds ≤ most_statements) ds files h),
    )

-- what each of a module's containers is
small_containers : (file number : ℕ) (ds : List Declaration) → number < 2 ^ 32 → All (λ d. weight d ≤ most_statements) ds
    → All IsSmall (map (λ d. record { file = file; number = number; statement = d }) ds)
small_containers file number ds low h =
    All-map IsSmall (λ d. record { file = file; number = number; statement = d }) ds
    (All-weaker (λ d. weight d ≤ most_statements) (λ d. IsSmall (record { file = file; number = number; statement = d }))
    (λ d light. record {
      numbered = low;
      tables =
          All-weaker (λ t. weight t ≤ most_statements) (λ t. weight t < 2 ^ 32) (λ t le. omega arith) (tables_of d)
          (All-filter (is_keyword (codes "container")) (λ t. weight t ≤ most_statements) (block d) (light_inside d most_statements light));
    }) ds h)

small_from : (place : ℕ) (modules : List Module) → place + length modules < 2 ^ 32 → All (λ m. weight m.statement ≤ most_statements) modules
    → All IsSmall (each_from containers_in place modules)
small_from place [] low h = All-nil IsSmall
small_from place (m ∷ modules) low h =
    All-append IsSmall (containers_in place m) (each_from containers_in (suc place) modules)
    (small_containers m.file place (children_of (codes "container") m.statement) (omega arith)
    (All-filter (is_keyword (codes "container")) (λ d. weight d ≤ most_statements) (block m.statement) (light_inside m.statement most_statements (All-head (λ m. weight m.statement ≤ most_statements) m modules h))))
    (small_from (suc place) modules (omega arith) (All-tail (λ m. weight m.statement ≤ most_statements) m modules h))

-- the containers of small files are small
pub are_small : (files : List (List Declaration)) → length files ≤ most_files → All (λ ds. total_weight ds ≤ most_statements) files
    → All IsSmall (containers_of (modules_of files))
are_small files few light =
    small_from 0 (modules_of files) (omega (arith, few_modules 0 files light)) (light_modules 0 files most_statements light)

length_block : (b : Block) → length (declarations b) ≤ block_weight b
length_block no_more = omega arith
length_block (more d b) = omega (arith, heavy d, length_block b)

length_inside : (d : Declaration) → length (block d) < weight d
length_inside (declare k a l s e b) = omega (arith, length_block b)

-- a table has no more shapes than statements
pub few_shapes : (t : Declaration) → length (shapes_of t) < weight t
few_shapes t = omega (arith, length-filter is_shape (block t), count_by-le-length is_shape (block t), length_inside t)
