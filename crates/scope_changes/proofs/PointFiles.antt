-- No change has to do with the file of a checkpoint, whichever scopes both are in: names end otherwise.
use Rattle.std.proofs.Common.{◌≡◌, ◌<◌, ◌/◌, ◌%◌, ◌+◌, ℕ, zero, suc, Bool, true, false, cond, List, [], ◌∷◌, ◌++◌, length, take, drop, refl, sym, ap, ◌∙◌, subst, arith, append_assoc, codes, decimal, length-drop}
use Rattle.std.specs.Prelude.{◌&&◌, ◌==◌, nat_eq, nat_lt}
use Rattle.std.specs.Char.{is_ascii_digit}
use Rattle.std.specs.Cmp.Lexicographic.{same_text}
use Rattle.std.specs.FinMap.{get}
use Rattle.std.specs.Fmt.{digit_glyph, digits, digits_onto}
use Rattle.std.specs.List.{AllByRecursion, list_all, starts_with}
use Rattle.std.specs.Str.{bytes_eq}
use Rattle.std.proofs.lemmas.Bool.{and_parts, eqb-true}
use Rattle.std.proofs.lemmas.List.{append_cancel_right, same_from_push, take-append-drop}
use Rattle.host_core.specs.State.{Files}
use Rattle.conf_store.specs.Files.{config_file, folded_file, intent_file, is_step_name, scratch, step_begin}
use Rattle.conf_store.specs.Folds.{IsOther}
use Rattle.checkpoints.specs.Names.{is_good_name, point_end, point_file}
use Rattle.checkpoints.specs.Points.{points}
use Rattle.change_apply.specs.Change.{steps}
use Rattle.scopes.specs.Files.{asic_begin, asic_config, config_name, file_name}
use Rattle.scopes.specs.Renaming.{named}
use Rattle.scopes.specs.Seeing.{get-seen}
use Rattle.scopes.specs.Views.{seen_files}
use Rattle.scopes.specs.declared.scope.Scope.{Scope}
use Rattle.scopes.specs.declared.scope.Scope.TheVariants.{Localhost, Asic}
use Rattle.scope_changes.specs.Works.{IsOutside, KeepsOutside, KeepsPointsOfScopes, ScopeWork}

-- ---- how texts end

-- the code of `n`, with which the file of a checkpoint ends
abbrev letter_n : ℕ
letter_n = 110

-- the code of `p`, which stands in it before `.json`
abbrev letter_p : ℕ
letter_p = 112

-- it ends with a character other than that
abbrev EndsOtherwise : ℕ → List ℕ → Type 0
EndsOtherwise x text = (front : List ℕ) × (last : ℕ) × (text ≡ front ++ last ∷ []) × (last ≡ x → ⊥)

-- then it is no text that ends with it
ends_apart : (x : ℕ) (text front : List ℕ) → EndsOtherwise x text → text ≡ front ++ x ∷ [] → ⊥
ends_apart x text front (start, last, is, apart) e = apart (same_from_push start front last x (sym is ∙ e)).1

-- whatever stands before it
ends_behind : (x : ℕ) (before text : List ℕ) → EndsOtherwise x text → EndsOtherwise x (before ++ text)
ends_behind x before text (start, last, is, apart) =
    (before ++ start, last, ap (λ (l : List ℕ). before ++ l) is ∙ sym (append_assoc before start (last ∷ [])), apart)

-- digits end with a digit
digits_end : (x : ℕ) → (is_ascii_digit x ≡ true → ⊥) → (ds : List ℕ) → 0 < length ds → list_all is_ascii_digit ds ≡ true → EndsOtherwise x ds
digits_end x none [] some all = absurd (omega arith)
digits_end x none (d ∷ []) some all =
    let digit : is_ascii_digit d ≡ true = (and_parts (is_ascii_digit d) true all).0 in
    ([], d, refl, λ e. none (ap is_ascii_digit (sym e) ∙ digit))
digits_end x none (d ∷ b ∷ ds) some all =
    let rest = digits_end x none (b ∷ ds) (omega arith) (and_parts (is_ascii_digit d) (list_all is_ascii_digit (b ∷ ds)) all).1 in
    (d ∷ rest.0, rest.1, ap (λ (l : List ℕ). d ∷ l) rest.2, rest.3)

-- and so does a step file
step_ends : (name : List ℕ) → is_step_name name ≡ true → EndsOtherwise letter_n name
step_ends name is =
    let parts = and_parts (starts_with nat_eq name step_begin && length name == 11) (list_all is_ascii_digit (drop 5 name)) is in
    let long : length name ≡ 11 = eqb-true (length name) 11 (and_parts (starts_with nat_eq name step_begin) (length name == 11) parts.0).1 in
    let some : 0 < length (drop 5 name) = omega (arith, long, length-drop 5 name) in
    subst (EndsOtherwise letter_n) (take-append-drop 5 name)
    (ends_behind letter_n (take 5 name) (drop 5 name) (digits_end letter_n (λ e. absurd cc) (drop 5 name) some parts.1))

-- and so does a number
glyph_apart : (n : ℕ) (b : Bool) → cond b (48 + n % 10) (87 + n % 10) ≡ letter_p → ⊥
glyph_apart n true e = omega (arith, e)
glyph_apart n false e = omega (arith, e)

onto_ends : (k n : ℕ) (acc : List ℕ) (last : ℕ) → (front : List ℕ) × (digits_onto k 10 false n (acc ++ last ∷ []) ≡ front ++ last ∷ [])
onto_ends zero n acc last = (acc, refl)
onto_ends (suc k) n acc last =
    let digit = digit_glyph false (n % 10) in
    elim (n / 10 == 0)
    as (λ b. (front : List ℕ) × (cond b (digit ∷ acc ++ last ∷ []) (digits_onto k 10 false (n / 10) (digit ∷ acc ++ last ∷ [])) ≡ front ++ last ∷ []))
    [ true ↦ (digit ∷ acc, refl) | false ↦ onto_ends k (n / 10) (digit ∷ acc) last ]

some_ends : (k n : ℕ) → EndsOtherwise letter_p (digits_onto (suc k) 10 false n [])
some_ends k n =
    let last = digit_glyph false (n % 10) in
    let apart = glyph_apart n (nat_lt (n % 10) 10) in
    let rest = onto_ends k (n / 10) [] last in
    elim (n / 10 == 0)
    as (λ b. EndsOtherwise letter_p (cond b (last ∷ []) (digits_onto k 10 false (n / 10) (last ∷ []))))
    [ true ↦ ([], last, refl, apart) | false ↦ (rest.0, last, rest.1, apart) ]

decimal_ends : (n : ℕ) → EndsOtherwise letter_p (decimal n)
unfolding digits
decimal_ends n = some_ends 63 n

-- ---- the files of a change

-- a configuration's file doesn't end as that of a checkpoint
no_config : (text front : List ℕ) → EndsOtherwise letter_p text → text ++ codes ".json" ≡ front ++ point_end → ⊥
no_config text front ends e =
    let same : text ≡ front ++ codes ".cp" = append_cancel_right text (front ++ codes ".cp") (codes ".json") (e ∙ sym (append_assoc front (codes ".cp") (codes ".json"))) in
    ends_apart letter_p text (front ++ codes ".c") ends (same ∙ sym (append_assoc front (codes ".c") (letter_p ∷ [])))

no_host_config : (front : List ℕ) → config_file ≡ front ++ point_end → ⊥
no_host_config front e = no_config (codes "config_db") front (codes "config_d", 98, refl, λ x. omega (arith, x)) e

no_asic_config : (n : ℕ) (front : List ℕ) → asic_config n ≡ front ++ point_end → ⊥
no_asic_config n front e =
    no_config (codes "config_db" ++ decimal n) front (ends_behind letter_p (codes "config_db") (decimal n) (decimal_ends n))
    (append_assoc (codes "config_db") (decimal n) (codes ".json") ∙ e)

-- nor does any other file that a change has to do with, whatever its scope begins names with
no_other : (before plain front : List ℕ) → EndsOtherwise letter_n plain → before ++ plain ≡ front ++ point_end → ⊥
no_other before plain front ends e =
    ends_apart letter_n (before ++ plain) (front ++ codes ".cp.jso") (ends_behind letter_n before plain ends)
    (e ∙ sym (append_assoc front (codes ".cp.jso") (letter_n ∷ [])))

-- so a plain name that ends so is none of these
is_apart : (before front plain : List ℕ) → (plain ≡ config_file → ⊥) → before ++ plain ≡ front ++ point_end → IsOther plain × (plain ≡ intent_file → ⊥)
is_apart before front plain not_config e = (
  record {
    not_scratch = λ is. differs scratch (codes "tmp.ne", 119, refl, λ x. omega (arith, x)) is;
    not_config = not_config;
    not_folded = λ is. differs folded_file (codes "config_db.folde", 100, refl, λ x. omega (arith, x)) is;
    not_step = by (is_step_name plain) refl;
  },
  λ is. differs intent_file (codes "inten", 116, refl, λ x. omega (arith, x)) is,
)
  where
    differs : (name : List ℕ) → EndsOtherwise letter_n name → plain ≡ name → ⊥
    differs name ends is = no_other before name front ends (ap (λ (p : List ℕ). before ++ p) (sym is) ∙ e)

    by : (b : Bool) → is_step_name plain ≡ b → is_step_name plain ≡ false
    by true is = absurd (no_other before plain front (step_ends plain is) e)
    by false isnt = isnt

-- ---- in the folder

outside : (scope : Scope) (name front : List ℕ) → name ≡ front ++ point_end → IsOutside scope name
outside Localhost name front ends plain some =
    let same : plain ≡ front ++ point_end = sym (named Localhost name plain some) ∙ ends in
    is_apart [] front plain (λ config. no_host_config front (sym config ∙ same)) same
outside (Asic m) name front ends plain some = by (bytes_eq plain config_name) refl
  where
    by : (b : Bool) → bytes_eq plain config_name ≡ b → IsOther plain × (plain ≡ intent_file → ⊥)
    by true is =
        absurd (no_asic_config m front (sym (named (Asic m) name plain some ∙ ap (λ b. cond b (asic_config m) (asic_begin m ++ plain)) is) ∙ ends))
    by false isnt =
        is_apart (asic_begin m) front plain
        (λ config. let is : bytes_eq plain config_name ≡ true = ap (λ (p : List ℕ). bytes_eq p config_name) config in absurd cc)
        (sym (named (Asic m) name plain some ∙ ap (λ b. cond b (asic_config m) (asic_begin m ++ plain)) isnt) ∙ ends)

-- in each scope the file of a checkpoint ends so
point_ends : (scope : Scope) (name : List ℕ) → (front : List ℕ) × (file_name scope (point_file name) ≡ front ++ point_end)
point_ends Localhost name = (name, refl)
point_ends (Asic n) name = by (bytes_eq (point_file name) config_name) refl
  where
    by : (b : Bool) → bytes_eq (point_file name) config_name ≡ b
        → (front : List ℕ) × (cond b (asic_config n) (asic_begin n ++ point_file name) ≡ front ++ point_end)
    by true is = absurd (no_host_config name (sym (same_text (point_file name) config_name (sym is))))
    by false isnt = (asic_begin n ++ name, sym (append_assoc (asic_begin n) name point_end))

all_outside : (scope : Scope) (name : List ℕ) (works : List ScopeWork)
    → AllByRecursion (λ w. 0 < steps w.change → IsOutside w.scope (file_name scope (point_file name))) works
all_outside scope name [] = tt
all_outside scope name (w ∷ works) =
    let ends = point_ends scope name in
    (λ some. outside w.scope (file_name scope (point_file name)) ends.0 ends.1, all_outside scope name works)

-- ---- checkpoints

-- checkpoints are told by their files
abbrev pub PointsInFiles : Type 0
PointsInFiles =
    (before after : Files)
    → ((name : List ℕ) → is_good_name name ≡ true → get after (point_file name) ≡ get before (point_file name))
    → points after ≡ points before

-- so each scope keeps them
pub points_stay : PointsInFiles → (works : List ScopeWork) (before after : Files) → KeepsOutside works before after → KeepsPointsOfScopes before after
points_stay law works before after keeps scope =
    law (seen_files scope before) (seen_files scope after)
    (λ name good.
    get-seen scope after (point_file name)
    ∙ keeps (file_name scope (point_file name)) (all_outside scope name works)
    ∙ sym (get-seen scope before (point_file name)))
