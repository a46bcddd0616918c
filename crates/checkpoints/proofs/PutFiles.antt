-- Files put anew, one after the other.
use Rattle.std.proofs.Common.{◌≡◌, ◌≢◌, ◌⊎◌, ℕ, zero, suc, ◌+◌, ◌<◌, length, option_map, arith, List, [], ◌∷◌, ◌++◌, All, Bool, true, false, map, take, slice_get, Some, None, inl, inr, ⊎_elim, refl, sym, ap, ◌∙◌, subst, add-one, append-nil}
use Rattle.std.specs.FinMap.{get}
use Rattle.std.specs.List.{concat}
use Rattle.std.specs.Prelude.{bytes_eq, Decides}
use Rattle.std.proofs.lemmas.List.Elements.{All-nil, All-pop, All-push, All-weaker}
use Rattle.std.proofs.lemmas.List.Folds.{concat-append}
use Rattle.std.proofs.lemmas.Option.{slice_get-map}
use Rattle.std.proofs.lemmas.Slice.Eq.{bytes_eq-Decides}
use Rattle.host_core.specs.State.{Files}
use Rattle.conf_doc.proofs.Lists.{map-append, take_more}
use Rattle.conf_store.specs.Puts.{put}
use Rattle.checkpoints.specs.Migrations.{IsDue, IsRewritten, KeepsPoints, NewFile, old_point}
use Rattle.checkpoints.specs.Names.{point_file}
use Rattle.checkpoints.specs.Points.{Points}
use Rattle.checkpoints.specs.MigrationEnds.{ArePut, put_all}
use Rattle.checkpoints.specs.MigrationLines.{lines_of, lines_text, migrated_line}

-- ---- the first ones and the next

pub item_there : (news : List NewFile) (k : ℕ) → k < length news → (n : NewFile) × (slice_get news k ≡ Some n)
item_there [] k within = absurd (omega arith)
item_there (x ∷ xs) zero within = (x, refl)
item_there (x ∷ xs) (suc k) within = item_there xs k (omega (arith, within))

-- its line, by the lines
pub line_there : (news : List NewFile) (k : ℕ) (n : NewFile) → slice_get news k ≡ Some n → (lines : List (List ℕ)) (line : List ℕ) → lines ≡ lines_of news → slice_get lines k ≡ Some line
    → line ≡ migrated_line n.0
line_there news k n is lines line all at =
    let one : Some line ≡ Some (migrated_line n.0) =
    sym at ∙ ap (λ (xs : List (List ℕ)). slice_get xs k) all ∙ slice_get-map (λ (new : NewFile). migrated_line new.0) news k ∙ ap (option_map (λ (new : NewFile). migrated_line new.0)) is in
    cc

-- its name, by the names
name_there : (news : List NewFile) (k : ℕ) (n : NewFile) → slice_get news k ≡ Some n → (name : List ℕ) → slice_get (map (λ (new : NewFile). new.0) news) k ≡ Some name → n.0 ≡ name
name_there news k n is name at =
    let one : Some n.0 ≡ Some name = sym (slice_get-map (λ (new : NewFile). new.0) news k ∙ ap (option_map (λ (new : NewFile). new.0)) is) ∙ at in
    cc

-- one line more
pub line_more : (news : List NewFile) (k : ℕ) (name line : List ℕ) (all more : List (List ℕ)) → k < length news → slice_get (map (λ (new : NewFile). new.0) news) k ≡ Some name
    → line ≡ migrated_line name → all ≡ lines_of (take k news) → more ≡ all ++ line ∷ [] → more ≡ lines_of (take (k + 1) news)
line_more news k name line all more within at is so_far pushed =
    let here = item_there news k within in
    let text : line ≡ migrated_line here.0.0 = is ∙ ap migrated_line (sym (name_there news k here.0 here.1 name at)) in
    pushed
    ∙ ap (λ (xs : List (List ℕ)). xs ++ line ∷ []) so_far
    ∙ ap (λ (l : List ℕ). lines_of (take k news) ++ l ∷ []) text
    ∙ sym (map-append (λ (new : NewFile). migrated_line new.0) (take k news) (here.0 ∷ []))
    ∙ ap lines_of (sym (take_more news k here.0 here.1))

pub take_next : (news : List NewFile) (k : ℕ) (n : NewFile) → slice_get news k ≡ Some n → take (suc k) news ≡ take k news ++ n ∷ []
take_next news k n is = ap (λ (j : ℕ). take j news) (sym (add-one k)) ∙ take_more news k n is

lines_more : (news : List NewFile) (n : NewFile) → lines_text (news ++ n ∷ []) ≡ lines_text news ++ migrated_line n.0
lines_more news n =
    ap concat (map-append (λ (new : NewFile). migrated_line new.0) news (n ∷ []))
    ∙ concat-append (lines_of news) (migrated_line n.0 ∷ [])
    ∙ ap (λ (xs : List ℕ). lines_text news ++ xs) (append-nil (migrated_line n.0))

pub lines_next : (news : List NewFile) (k : ℕ) (n : NewFile) → slice_get news k ≡ Some n → lines_text (take (suc k) news) ≡ lines_text (take k news) ++ migrated_line n.0
lines_next news k n is = ap lines_text (take_next news k n is) ∙ lines_more (take k news) n

-- ---- the files

same_or_not : (p q : List ℕ) → (p ≡ q) ⊎ (p ≡ q → ⊥)
same_or_not p q = by (bytes_eq p q) (bytes_eq-Decides p q)
  where
    by : (b : Bool) → Decides b (p ≡ q) → (p ≡ q) ⊎ (p ≡ q → ⊥)
    by true is = inl (is.0 refl)
    by false isnt = inr (λ e. let no : false ≡ true = isnt.1 e in absurd cc)

put_all_more : (news : List NewFile) (n : NewFile) (files : Files) → put_all (news ++ n ∷ []) files ≡ put (point_file n.0) n.1 (put_all news files)
put_all_more [] n files = refl
put_all_more (m ∷ news) n files = put_all_more news n (put (point_file m.0) m.1 files)

pub keeps_both : (f g h : Files) → KeepsPoints f g → KeepsPoints g h → KeepsPoints f h
keeps_both f g h one two = record {
  points = two.points ∙ one.points;
  numbers = λ q. two.numbers q ∙ one.numbers q;
  kept = two.kept ∙ one.kept;
}

pub none_put : (files : Files) → ArePut [] files files
none_put files = record {
  files = refl;
  formats = All-nil (λ (new : NewFile). old_point files new.0 ≡ None);
  others = λ name all. refl;
  same = record { points = refl; numbers = λ name. refl; kept = refl };
}

one_put : (news : List NewFile) (n : NewFile) (before mid after : Files) → ArePut news before mid → IsRewritten n mid after → ArePut (news ++ n ∷ []) before after
one_put news n before mid after are is = record {
  files = is.files ∙ ap (put (point_file n.0) n.1) are.files ∙ sym (put_all_more news n before);
  formats =
      All-push (λ (new : NewFile). old_point after new.0 ≡ None) news n
      (All-weaker (λ (new : NewFile). old_point mid new.0 ≡ None) (λ (new : NewFile). old_point after new.0 ≡ None) each news are.formats) is.format;
  others = λ name all.
      let parts = All-pop (λ (new : NewFile). new.0 ≢ name) (news ++ n ∷ []) news (Some n) refl all in
      is.formats name (λ e. parts.1 (sym e)) ∙ are.others name parts.0;
  same = keeps_both before mid after are.same is.same;
}
  where
    each : (new : NewFile) → old_point mid new.0 ≡ None → old_point after new.0 ≡ None
    each new none =
        ⊎_elim (λ (e : new.0 ≡ n.0). ap (old_point after) e ∙ is.format) (λ (apart : new.0 ≡ n.0 → ⊥). is.formats new.0 apart ∙ none) (same_or_not new.0 n.0)

pub next_put : (news : List NewFile) (k : ℕ) (n : NewFile) → slice_get news k ≡ Some n → (before mid after : Files)
    → ArePut (take k news) before mid → IsRewritten n mid after → ArePut (take (suc k) news) before after
next_put news k n is before mid after are one = subst (λ (xs : List NewFile). ArePut xs before after) (sym (take_next news k n is)) (one_put (take k news) n before mid after are one)

-- each may still be put
pub due_still : (news : List NewFile) (f g : Files) → KeepsPoints f g → All (λ new. IsDue new f) news → All (λ new. IsDue new g) news
due_still news f g keeps = All-weaker (λ (new : NewFile). IsDue new f) (λ (new : NewFile). IsDue new g) each news
  where
    each : (new : NewFile) → IsDue new f → IsDue new g
    each new due = record {
      good = due.good;
      format = due.format;
      point = ap (λ (p : Points). get p new.0) keeps.points ∙ due.point;
      number = keeps.numbers new.0 ∙ due.number;
    }
