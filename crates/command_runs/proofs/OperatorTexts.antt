-- What operators are told is told by its text: one list of moves, and what stands behind it.
use Rattle.std.proofs.Common.{◌≡◌, ℕ, List, [], ◌∷◌, ◌++◌, true, false, length, append-nil, append_assoc, refl, sym, ap, ◌∙◌, subst, arith}
use Rattle.std.specs.Prelude.{codes, decimal}
use Rattle.std.proofs.lemmas.List.{append_cancel_left}
use Rattle.host_core.specs.State.{IsFront}
use Rattle.conf_doc.specs.Texts.{compact}
use Rattle.patch_core.specs.Writing.{operation_document}
use Rattle.checkpoints.specs.Names.{is_good_name}
use Rattle.move_core.specs.Operations.{op}
use Rattle.move_core.specs.declared.moves.Move.{Move}
use Rattle.operators.specs.Replies.{commits_line, counted, reply_line, said}
use Rattle.sessions.specs.declared.replies.Reply.{Reply}
use Rattle.sessions.specs.declared.replies.Reply.TheVariants.{Began, Exists, Unknown, Refused, Moved, Idle, Applied, Retargeted, Ended}
use Rattle.writing_commands.proofs.CompactLines.{compact_is_one_line}
use Rattle.writing_commands.proofs.Lines.{IsOneLine, decimal_is_one_line, first_lines, one_line-append}
use Rattle.command_runs.specs.Works.{FitTheirPlaces, HaveNames, Told, committed, moves_told, told_lines, told_text}
use Rattle.command_runs.proofs.Acknowledgements as acked
use Rattle.command_runs.proofs.CompactTexts.{compacts_split}
use Rattle.command_runs.proofs.GoodNames.{Lacks, characters, name_is_one_line, name_lacks, no_space}
use Rattle.command_runs.proofs.MoveOperations.{ReadsTokens, move_is_told}
use Rattle.command_runs.proofs.PlanHeads.{HasNone, quiet_has_none}
use Rattle.command_runs.proofs.SessionLines.{behind_space, decimal_is_low, low_more, no_low_reply, no_plan_first, one_reply, same_letter}

-- ---- a line

began_is : IsOneLine (codes "began ")
began_is = (omega arith, (omega arith, (omega arith, (omega arith, (omega arith, (omega arith, tt))))))

refused_is : IsOneLine (codes "refused ")
refused_is = (
  omega arith,
  (
    omega arith,
    (
      omega arith,
      (omega arith, (omega arith, (omega arith, (omega arith, (omega arith, tt))))),
    ),
  ),
)

moved_is : IsOneLine (codes "moved ")
moved_is = (omega arith, (omega arith, (omega arith, (omega arith, (omega arith, (omega arith, tt))))))

applied_is : IsOneLine (codes "applied ")
applied_is = (
  omega arith,
  (
    omega arith,
    (
      omega arith,
      (omega arith, (omega arith, (omega arith, (omega arith, (omega arith, tt))))),
    ),
  ),
)

retargeted_is : IsOneLine (codes "retargeted ")
retargeted_is = (
  omega arith,
  (
    omega arith,
    (
      omega arith,
      (
        omega arith,
        (
          omega arith,
          (
            omega arith,
            (
              omega arith,
              (
                omega arith,
                (
                  omega arith,
                  (
                    omega arith,
                    (omega arith, tt),
                  ),
                ),
              ),
            ),
          ),
        ),
      ),
    ),
  ),
)

commits_are : IsOneLine (codes "commits ")
commits_are = (
  omega arith,
  (
    omega arith,
    (
      omega arith,
      (omega arith, (omega arith, (omega arith, (omega arith, (omega arith, tt))))),
    ),
  ),
)

pub said_is_line : (r : Reply) → IsOneLine (said r)
said_is_line (Began n) = one_line-append (codes "began ") (decimal n) began_is (decimal_is_one_line n)
said_is_line Exists = (omega arith, (omega arith, (omega arith, (omega arith, (omega arith, (omega arith, tt))))))
said_is_line Unknown =
    (omega arith, (omega arith, (omega arith, (omega arith, (omega arith, (omega arith, (omega arith, tt)))))))
said_is_line (Refused n) = one_line-append (codes "refused ") (decimal n) refused_is (decimal_is_one_line n)
said_is_line (Moved seen now) =
    one_line-append (counted (codes "moved") seen ++ codes " ") (decimal now)
    (one_line-append (counted (codes "moved") seen) (codes " ")
    (one_line-append (codes "moved ") (decimal seen) moved_is (decimal_is_one_line seen)) (omega arith, tt))
    (decimal_is_one_line now)
said_is_line Idle = (omega arith, (omega arith, (omega arith, (omega arith, tt))))
said_is_line (Applied m) =
    one_line-append (codes "applied ") (compact (operation_document (op m))) applied_is
    (compact_is_one_line (operation_document (op m)))
said_is_line (Retargeted n) = one_line-append (codes "retargeted ") (decimal n) retargeted_is (decimal_is_one_line n)
said_is_line (Ended true) = (
  omega arith,
  (
    omega arith,
    (
      omega arith,
      (
        omega arith,
        (
          omega arith,
          (
            omega arith,
            (omega arith, (omega arith, (omega arith, (omega arith, tt)))),
          ),
        ),
      ),
    ),
  ),
)
said_is_line (Ended false) = (
  omega arith,
  (
    omega arith,
    (
      omega arith,
      (
        omega arith,
        (
          omega arith,
          (
            omega arith,
            (omega arith, (omega arith, (omega arith, (omega arith, tt)))),
          ),
        ),
      ),
    ),
  ),
)

-- what is told without the end of its line
abbrev line : Told → List ℕ
line t = t.0 ++ 32 ∷ said t.1

line_is_one : (t : Told) → is_good_name t.0 ≡ true → IsOneLine (line t)
line_is_one t good = one_line-append t.0 (32 ∷ said t.1) (name_is_one_line t.0 good) (omega arith, said_is_line t.1)

one_told : (t : Told) (ts : List Told) (z : List ℕ) → told_lines (t ∷ ts) ++ z ≡ line t ++ 10 ∷ (told_lines ts ++ z)
one_told t ts z =
    append_assoc (reply_line t.0 t.1) (told_lines ts) z
    ∙ one_reply t.0 t.1 (told_lines ts ++ z)
    ∙ sym (append_assoc t.0 (32 ∷ said t.1) (10 ∷ (told_lines ts ++ z)))

-- the first word and what stands behind it
pub first_told : (t : Told) (ts : List Told) (n : ℕ) (x : List ℕ)
    → (told_lines (t ∷ ts) ++ commits_line n) ++ x
    ≡ t.0 ++ 32 ∷ (said t.1 ++ 10 ∷ ((told_lines ts ++ commits_line n) ++ x))
first_told t ts n x =
    ap (λ (b : List ℕ). b ++ x) (append_assoc (reply_line t.0 t.1) (told_lines ts) (commits_line n))
    ∙ append_assoc (reply_line t.0 t.1) (told_lines ts ++ commits_line n) x
    ∙ one_reply t.0 t.1 ((told_lines ts ++ commits_line n) ++ x)

-- ---- how many are committed is no reply

pub commits_is : (n : ℕ) (x : List ℕ) → commits_line n ++ x ≡ codes "commits" ++ 32 ∷ (decimal n ++ 10 ∷ x)
commits_is n x = append_assoc (counted (codes "commits") n) (10 ∷ []) x ∙ append_assoc (codes "commits ") (decimal n)
    (10 ∷ x)

pub commits_plain : Lacks 32 (codes "commits")
commits_plain = (
  omega arith,
  (omega arith, (omega arith, (omega arith, (omega arith, (omega arith, (omega arith, tt)))))),
)

pub name_plain : (t : Told) → is_good_name t.0 ≡ true → Lacks 32 t.0
name_plain t good = name_lacks 32 no_space t.0 (characters t.0 good)

no_commits : (t : Told) → is_good_name t.0 ≡ true → (n : ℕ) (x more : List ℕ)
    → commits_line n ++ x ≡ line t ++ 10 ∷ more → ⊥
no_commits t good n x more e =
    let behind = behind_space (codes "commits") t.0 (decimal n ++ 10 ∷ x) (said t.1 ++ 10 ∷ more) commits_plain
    (name_plain t good)
    (sym (commits_is n x) ∙ e ∙ append_assoc t.0 (32 ∷ said t.1) (10 ∷ more)) in
    no_low_reply t.1 (10 ∷ more) (decimal n ++ 10 ∷ x) (low_more (decimal n) (10 ∷ x) (decimal_is_low n)) (sym behind)

-- what stands behind it
commits_same : (n m : ℕ) (x y : List ℕ) → commits_line n ++ x ≡ commits_line m ++ y → x ≡ y
commits_same n m x y e =
    let both = first_lines (counted (codes "commits") n) (counted (codes "commits") m) x y (counted_is n) (counted_is m)
    (sym (append_assoc (counted (codes "commits") n) (10 ∷ []) x) ∙ e ∙ append_assoc (counted (codes "commits") m)
    (10 ∷ []) y) in
    both.1
  where
    counted_is : (k : ℕ) → IsOneLine (counted (codes "commits") k)
    counted_is k = one_line-append (codes "commits ") (decimal k) commits_are (decimal_is_one_line k)

-- ---- all lines

-- one after the other the same is said
abbrev SaySame : List Told → List Told → Type 0
SaySame [] [] = Unit {0}
SaySame (t ∷ ts) (u ∷ us) = (said t.1 ≡ said u.1) × SaySame ts us
SaySame ts us = ⊥

told_split : (ts us : List Told) (n m : ℕ) (x y : List ℕ) → HaveNames ts → HaveNames us
    → told_lines ts ++ (commits_line n ++ x) ≡ told_lines us ++ (commits_line m ++ y)
    → SaySame ts us × (commits_line n ++ x ≡ commits_line m ++ y)
told_split [] [] n m x y named others e = (tt, e)
told_split [] (u ∷ us) n m x y named others e =
    absurd (no_commits u others.0 n x (told_lines us ++ (commits_line m ++ y))
    (e ∙ one_told u us (commits_line m ++ y)))
told_split (t ∷ ts) [] n m x y named others e =
    absurd (no_commits t named.0 m y (told_lines ts ++ (commits_line n ++ x))
    (sym e ∙ one_told t ts (commits_line n ++ x)))
told_split (t ∷ ts) (u ∷ us) n m x y named others e =
    let both = first_lines (line t) (line u) (told_lines ts ++ (commits_line n ++ x))
    (told_lines us ++ (commits_line m ++ y)) (line_is_one t named.0) (line_is_one u others.0)
    (sym (one_told t ts (commits_line n ++ x)) ∙ e ∙ one_told u us (commits_line m ++ y)) in
    let replies = behind_space t.0 u.0 (said t.1) (said u.1) (name_plain t named.0) (name_plain u others.0) both.0 in
    let more = told_split ts us n m x y named.1 others.1 both.1 in
    ((replies, more.0), more.1)

texts_split : (ts us : List Told) (x y : List ℕ) → HaveNames ts → HaveNames us → told_text ts ++ x ≡ told_text us ++ y
    → SaySame ts us × (x ≡ y)
texts_split ts us x y named others e =
    let n = length (moves_told ts) in let m = length (moves_told us) in
    let h = told_split ts us n m x y named others (sym (append_assoc (told_lines ts) (commits_line n) x)
    ∙ e ∙ append_assoc (told_lines us) (commits_line m) y) in
    (h.0, commits_same n m x y h.1)

-- where two outputs are one that begin so, what stands behind is one
pub rests_split : (ts us : List Told) (x y : List ℕ) → HaveNames ts → HaveNames us
    → told_text ts ++ x ≡ told_text us ++ y → x ≡ y
rests_split ts us x y named others e = let h = texts_split ts us x y named others e in h.1

-- ---- the same line is of the same move

module _ (reads : ReadsTokens) where
  one_move : (m n : Move) (ms ns : List Move) → FitTheirPlaces (m ∷ ms) → FitTheirPlaces (n ∷ ns)
      → said (Applied m) ≡ said (Applied n) → ms ≡ ns → m ∷ ms ≡ n ∷ ns
  one_move m n ms ns fit fits e same =
      let texts = append_cancel_left (codes "applied ") (compact (operation_document (op m)))
      (compact (operation_document (op n))) e in
      let documents = compacts_split (operation_document (op m)) (operation_document (op n)) [] []
      (ap (λ (b : List ℕ). b ++ []) texts) in
      ap (λ (k : Move). k ∷ ms) (move_is_told reads m n fit.0 fits.0 documents.0) ∙ ap (λ (ks : List Move). n ∷ ks) same

  committed_same : (r q : Reply) (ms ns : List Move) → FitTheirPlaces (committed r ms)
      → FitTheirPlaces (committed q ns) → said r ≡ said q → ms ≡ ns → committed r ms ≡ committed q ns
  committed_same (Applied m) (Applied n) ms ns fit fits e same = one_move m n ms ns fit fits e same
  committed_same (Applied m) q ms ns fit fits e same = let one = same_letter (Applied m) q e in
      absurd (omega (arith, one))
  committed_same r (Applied n) ms ns fit fits e same = let one = same_letter r (Applied n) e in
      absurd (omega (arith, one))
  committed_same r q ms ns fit fits e same = same

  fit_behind : (r : Reply) (ms : List Move) → FitTheirPlaces (committed r ms) → FitTheirPlaces ms
  fit_behind (Applied m) ms fit = fit.1
  fit_behind other ms fit = fit

  say_same : (ts us : List Told) → SaySame ts us → FitTheirPlaces (moves_told ts) → FitTheirPlaces (moves_told us)
      → moves_told ts ≡ moves_told us
  say_same [] [] same fit fits = refl
  say_same [] (u ∷ us) never fit fits = absurd never
  say_same (t ∷ ts) [] never fit fits = absurd never
  say_same (t ∷ ts) (u ∷ us) same fit fits =
      committed_same t.1 u.1 (moves_told ts) (moves_told us) fit fits same.0
      (say_same ts us same.1 (fit_behind t.1 (moves_told ts) fit) (fit_behind u.1 (moves_told us) fits))

  -- where two outputs are one that begin so, the moves are one
  pub moves_split : (ts us : List Told) (x y : List ℕ) → HaveNames ts → HaveNames us → FitTheirPlaces (moves_told ts)
      → FitTheirPlaces (moves_told us)
      → told_text ts ++ x ≡ told_text us ++ y → moves_told ts ≡ moves_told us
  moves_split ts us x y named others fit fits e = let h = texts_split ts us x y named others e in
      say_same ts us h.0 fit fits

-- ---- at the head of a text

-- no plan stands there
pub told_has_no_plan : (ts : List Told) → HaveNames ts → (x : List ℕ) → HasNone (told_text ts ++ x)
told_has_no_plan [] named x = quiet_has_none _ (acked.other 99 _ (omega arith) (omega arith))
told_has_no_plan (t ∷ ts) named x =
    let n = length (moves_told (t ∷ ts)) in
    subst HasNone
    (sym (ap (λ (b : List ℕ). b ++ x) (append_assoc (reply_line t.0 t.1) (told_lines ts) (commits_line n))
    ∙ append_assoc (reply_line t.0 t.1) (told_lines ts ++ commits_line n) x))
    (no_plan_first t.0 t.1 ((told_lines ts ++ commits_line n) ++ x) named.0)

-- a text at whose head stand no lines of operators with a number of commits behind them
abbrev pub HasNoTold : List ℕ → Type 0
HasNoTold text = (told : List Told) (n : ℕ) → HaveNames told → ¬ IsFront (told_lines told ++ commits_line n) text

-- no front of it has them either
pub no_told_in_front : (part rest : List ℕ) → HasNoTold (part ++ rest) → HasNoTold part
no_told_in_front part rest none told n named (more, e) =
    none told n named (
      more ++ rest,
      ap (λ (t : List ℕ). t ++ rest) e
          ∙ append_assoc (told_lines told ++ commits_line n) more rest,
    )

-- a front of what operators are told that isn't all of it hasn't
pub cut_has_no_told : (ts : List Told) → HaveNames ts → (part : List ℕ) (r : ℕ) (rest : List ℕ)
    → told_text ts ≡ part ++ r ∷ rest → HasNoTold part
cut_has_no_told ts named part r rest e told n others (more, is) =
    let m = length (moves_told ts) in
    let whole : told_lines ts ++ (commits_line m ++ []) ≡ told_lines told ++ (commits_line n ++ (more ++ r ∷ rest)) =
    sym (append_assoc (told_lines ts) (commits_line m) []) ∙ append-nil (told_text ts)
    ∙ e ∙ ap (λ (b : List ℕ). b ++ r ∷ rest) is
    ∙ append_assoc (told_lines told ++ commits_line n) more (r ∷ rest) ∙ append_assoc (told_lines told)
    (commits_line n) (more ++ r ∷ rest) in
    let h = told_split ts told m n [] (more ++ r ∷ rest) named others whole in
    no_more more (commits_same m n [] (more ++ r ∷ rest) h.1)
  where
    no_more : (more : List ℕ) → [] ≡ more ++ r ∷ rest → ⊥
    no_more [] same = acked.not_empty r rest same
    no_more (c ∷ more) same = acked.not_empty c (more ++ r ∷ rest) same
