-- The change of one scope with its line before it.
use Rattle.std.proofs.Common.{◌≡◌, ◌≤◌, ◌<◌, ◌⊎◌, inl, inr, ⊎_elim, ℕ, zero, suc, List, [], ◌∷◌, ◌++◌, length, Option, Some, None, Ok, IfSome, option_map, refl, sym, ap, ◌∙◌, subst, arith, append_assoc, append-nil}
use Rattle.std.specs.FinMap.{get}
use Rattle.host_core.specs.Crashes.{Elapses, Image, Left, MayLeaveInPrint}
use Rattle.host_core.specs.State.{Files, IsFront, PrintsPart, State, printed, settled}
use Rattle.host_core.proofs.EntriesOfFiles.{same_files}
use Rattle.conf_doc.specs.declared.configuration.Config.{Config}
use Rattle.conf_store.specs.Changes.{IsSettled}
use Rattle.conf_store.specs.Folds.{StandsFor}
use Rattle.move_core.specs.Plans.{conf}
use Rattle.move_core.specs.declared.moves.Move.{Move}
use Rattle.change_apply.specs.Acknowledgements.{acks}
use Rattle.change_apply.specs.Change.{Change, conf_at, restarted, steps}
use Rattle.change_apply.specs.Ends.{IsApplied}
use Rattle.change_apply.specs.declared.errors.ApplyFault.{ApplyFault}
use Rattle.change_apply.specs.declared.errors.ApplyFault.TheVariants.{Print}
use Rattle.scopes.specs.Views.{seen_files, seen_left}
use Rattle.scopes.specs.declared.scope.Scope.{Scope}
use Rattle.scope_changes.specs.Stages.{FinishesIn, FinishesOne, IsLeftAtLine, IsLeftOne, IsMixed, LeavesIn, LeavesOne, StopsIn, StopsOne, opened}
use Rattle.scope_changes.specs.Works.{ScopeWork, apply_line, line_for, lines, opening}
use Rattle.scope_changes.proofs.Fronts.{behind_same, no_longer, part_front}
use Rattle.scope_changes.proofs.OtherScopes.{files_behind}

-- ---- what is printed

opening_by : (w : ScopeWork) (n : ℕ) → steps w.change ≡ n → 0 < n → opening w ≡ apply_line w.scope
opening_by w zero is some = absurd (omega (arith, some))
opening_by w (suc n) is some = ap (λ k. line_for k (apply_line w.scope)) is

-- where there are steps there is a line
pub opening_some : (w : ScopeWork) → 0 < steps w.change → opening w ≡ apply_line w.scope
opening_some w some = opening_by w (steps w.change) refl some

pub lines_some : (w : ScopeWork) → 0 < steps w.change → lines w ≡ apply_line w.scope ++ acks (steps w.change)
lines_some w some = ap (λ (l : List ℕ). l ++ acks (steps w.change)) (opening_some w some)

-- where there are none there is nothing
lines_none : (w : ScopeWork) → steps w.change ≡ 0 → lines w ≡ []
lines_none w none = ap (λ n. line_for n (apply_line w.scope) ++ acks n) none

restarts_none : (w : ScopeWork) → steps w.change ≡ 0 → restarted w.change (steps w.change) ≡ []
restarts_none w none = ap (λ n. restarted w.change n) none

line_long : (scope : Scope) → 0 < length (apply_line scope)
line_long scope = omega arith

-- ---- no steps

conf_start : (c : Config) (ms : List Move) → conf c ms 0 ≡ c
conf_start c [] = refl
conf_start c (m ∷ ms) = refl

applied_none : (change : Change) (files : Files) → steps change ≡ 0 → StandsFor change.stored files → IsApplied change files files
applied_none change files none stands = record {
  stands = stands.config ∙ ap (λ (c : Config). Ok c) (sym (conf_start change.stored.config change.moves) ∙ ap (conf_at change) (sym none));
  none = λ is. refl;
  some = λ some. absurd (omega (arith, none, some));
}

pub finished_none : (w : ScopeWork) (o : Option State) → steps w.change ≡ 0 → IfSome o IsSettled
    → IfSome o (λ s. StandsFor w.change.stored (seen_files w.scope s.files)) → FinishesOne w o o
finished_none w None none clean stands = refl
finished_none w (Some s) none clean stands =
    let output : s.output ≡ s.output ++ lines w = sym (ap (λ (l : List ℕ). s.output ++ l) (lines_none w none) ∙ append-nil s.output) in
    let restarts : s.restarts ≡ s.restarts ++ restarted w.change (steps w.change) =
    sym (ap (λ (l : List (List ℕ)). s.restarts ++ l) (restarts_none w none) ∙ append-nil s.restarts) in (
      s.files,
      (λ i. Some (record { inputs = s.inputs; files = s.files; pending = clean i; output = output i; restarts = restarts i })),
      record { applied = applied_none w.change (seen_files w.scope s.files) none stands; others = λ name out. refl },
    )

pub leaves_none : {H : Type 0} (moment : H → ℕ) (left_since : H → ℕ → Left → Type 0) (w : ScopeWork) (host : H) (o : Option State)
    → IfSome o (LeavesOne moment left_since w host host)
leaves_none moment left_since w host None = tt
leaves_none moment left_since w host (Some s) = λ t le fronts left since. inl since

-- ---- its line

pub clean_printed : (text : List ℕ) (o m : Option State) → m ≡ option_map (printed text) o → IfSome o IsSettled → IfSome m IsSettled
clean_printed text None m is clean = subst (λ p. IfSome p IsSettled) (sym is) tt
clean_printed text (Some s) m is clean = subst (λ p. IfSome p IsSettled) (sym is) clean

pub stands_printed : (scope : Scope) (change : Change) (text : List ℕ) (o m : Option State) → m ≡ option_map (printed text) o
    → IfSome o (λ s. StandsFor change.stored (seen_files scope s.files)) → IfSome m (λ s. StandsFor change.stored (seen_files scope s.files))
stands_printed scope change text None m is stands = subst (λ p. IfSome p (λ s. StandsFor change.stored (seen_files scope s.files))) (sym is) tt
stands_printed scope change text (Some s) m is stands = subst (λ p. IfSome p (λ s. StandsFor change.stored (seen_files scope s.files))) (sym is) stands

module _ (w : ScopeWork) (some : 0 < steps w.change) where
  finished_by : (s : State) (n : Option State) → FinishesIn w.scope w.change (Some (opened w s)) n → FinishesOne w (Some s) n
  finished_by s n (files, is, applied) =
      let output : (s.output ++ apply_line w.scope) ++ acks (steps w.change) ≡ s.output ++ lines w =
      append_assoc s.output (apply_line w.scope) (acks (steps w.change)) ∙ ap (λ (l : List ℕ). s.output ++ l) (sym (lines_some w some)) in (
        files,
        is ∙ (λ i. Some (record {
          inputs = s.inputs;
          files = files;
          pending = settled;
          output = output i;
          restarts = s.restarts ++ restarted w.change (steps w.change);
        })),
        applied,
      )

  pub finished_opened : (text : List ℕ) (o m n : Option State) → text ≡ apply_line w.scope → m ≡ option_map (printed text) o
      → FinishesIn w.scope w.change m n → FinishesOne w o n
  finished_opened text None m n line is fin = subst (λ p. FinishesIn w.scope w.change p n) is fin
  finished_opened text (Some s) m n line is fin =
      finished_by s n (subst (λ p. FinishesIn w.scope w.change p n) (is ∙ ap (λ (l : List ℕ). Some (printed l s)) line) fin)

  pub stopped_opened : (fault : ApplyFault) (text : List ℕ) (o m n : Option State) → text ≡ apply_line w.scope → m ≡ option_map (printed text) o
      → StopsIn w.scope w.change fault m n → StopsOne w fault o n
  stopped_opened fault text None m n line is stops = subst (λ p. StopsIn w.scope w.change fault p n) is stops
  stopped_opened fault text (Some s) m n line is stops =
      let found = subst (λ p. StopsIn w.scope w.change fault p n) (is ∙ ap (λ (l : List ℕ). Some (printed l s)) line) stops in
      (found.0, found.1, record { some = some; is = inl found.2 })

  pub stopped_at_line : (text : List ℕ) (o n : Option State) → text ≡ apply_line w.scope → PrintsPart text o n → StopsOne w (Print 0) o n
  stopped_at_line text None n line (part, rest, whole, is) = is
  stopped_at_line text (Some s) n line (part, rest, whole, is) = (
    printed part s,
    is,
    record { some = some; is = inr (record { is = refl; part = part; rest = rest; line = sym line ∙ whole; state = refl }) },
  )

  -- ---- crashes

  at_line : (s : State) (text : List ℕ) → s.pending ≡ settled → text ≡ apply_line w.scope → (left : Left) → MayLeaveInPrint text (Some s) left → IsLeftAtLine w s left
  at_line s text clean line left (part, rest, whole, may) = record {
    part = part;
    rest = rest;
    line = opening_some w some ∙ sym line ∙ whole;
    files = subst (λ p. Image p s.files left.files) clean may.files;
    output = may.output;
    restarts = may.restarts;
  }

  -- the same of what is left of the scope where the others are as they were
  at_line_behind : (s : State) (left whole : Left) → IsLeftAtLine w s whole → seen_left w.scope left ≡ seen_left w.scope whole
      → ((name : List ℕ) → get left.files name ≡ get s.files name) → IsLeftAtLine w s left
  at_line_behind s left whole at shown files = record {
    part = at.part;
    rest = at.rest;
    line = at.line;
    files = same_files left.files s.files files;
    output = ap (λ (l : Left). l.output) shown ∙ at.output;
    restarts = ap (λ (l : Left). l.restarts) shown ∙ at.restarts;
  }

  module _ {H : Type 0} (moment : H → ℕ) (left_since : H → ℕ → Left → Type 0) where
    line_leaves_by : (s : State) (text : List ℕ) (old mid : H) → s.pending ≡ settled → text ≡ apply_line w.scope
        → Elapses moment left_since old mid (MayLeaveInPrint text (Some s)) → (t : ℕ) (left : Left) → t ≤ moment old → left_since mid t left
        → left_since old t left ⊎ IsLeftAtLine w s left
    line_leaves_by s text old mid clean line time t left le since =
        ⊎_elim (λ before. inl before) (λ may. inr (at_line s text clean line left may)) (time.nothing_else t left le since)

    pub line_leaves : (o : Option State) (text : List ℕ) (old mid : H) → IfSome o IsSettled → text ≡ apply_line w.scope
        → Elapses moment left_since old mid (MayLeaveInPrint text o) → IfSome o (LeavesOne moment left_since w old mid)
    line_leaves None text old mid clean line time = tt
    line_leaves (Some s) text old mid clean line time = λ t le fronts left since.
        ⊎_elim (λ before. inl before) (λ at. inr (inr at)) (line_leaves_by s text old mid clean line time t left le since)

    module _ (s : State) (text : List ℕ) (old mid new : H) (clean : s.pending ≡ settled) (line : text ≡ apply_line w.scope)
        (time : Elapses moment left_since old mid (MayLeaveInPrint text (Some s))) (t : ℕ) (le : t ≤ moment old)
        (fronts : (left : Left) → left_since old t left → IsFront left.output s.output) where
      -- what is mixed is left at the line
      mixed : (left : Left) → IsMixed w.scope (opened w s) (left_since mid t) left → IsLeftAtLine w s left
      mixed left mix = ⊎_elim earlier at (line_leaves_by s text old mid clean line time t mix.whole le mix.one)
        where
          earlier : left_since old t mix.whole → IsLeftAtLine w s left
          earlier before =
              let same : mix.whole.output ≡ left.output = sym (ap (λ (l : Left). l.output) mix.shown) in
              absurd (no_longer s.output (apply_line w.scope) left.output (line_long w.scope) mix.came.0
              (subst (λ (l : List ℕ). IsFront l s.output) same (fronts mix.whole before)))

          at : IsLeftAtLine w s mix.whole → IsLeftAtLine w s left
          at there =
              let shown : seen_files w.scope left.files ≡ seen_files w.scope s.files =
              ap (λ (l : Left). l.files) mix.shown ∙ ap (seen_files w.scope) there.files in
              at_line_behind s left mix.whole there mix.shown (files_behind w.scope s.files left.files shown mix.others)

      one_left : LeavesIn moment left_since w.scope w.change mid new (opened w s) → (left : Left) → left_since new t left
          → left_since old t left ⊎ IsLeftOne w s left
      one_left run left since = ⊎_elim at_begin (⊎_elim (λ under_way. inr (inl (some, under_way))) (λ mix. inr (inr (mixed left mix)))) (run t left (omega (arith, le, time.later)) since)
        where
          at_begin : left_since mid t left → left_since old t left ⊎ IsLeftOne w s left
          at_begin before = ⊎_elim (λ b. inl b) (λ at. inr (inr at)) (line_leaves_by s text old mid clean line time t left le before)

    pub opened_leaves : (o m : Option State) (text : List ℕ) (old mid new : H) → IfSome o IsSettled → text ≡ apply_line w.scope
        → m ≡ option_map (printed text) o → Elapses moment left_since old mid (MayLeaveInPrint text o)
        → IfSome m (LeavesIn moment left_since w.scope w.change mid new) → IfSome o (LeavesOne moment left_since w old new)
    opened_leaves None m text old mid new clean line is time run = tt
    opened_leaves (Some s) m text old mid new clean line is time run = λ t le fronts left since.
        one_left s text old mid new clean line time t le fronts
        (subst (λ p. IfSome p (LeavesIn moment left_since w.scope w.change mid new)) (is ∙ ap (λ (l : List ℕ). Some (printed l s)) line) run) left since

-- what is left of one has a front of what is printed for it
pub left_front : (w : ScopeWork) (s : State) (left : Left) → IsLeftOne w s left → IsFront left.output (s.output ++ lines w)
left_front w s left (inl (some, is)) =
    let out = is.under_way.output in
    let front : IsFront (acks is.under_way.done ++ out.part) (acks (steps w.change)) =
    part_front is.under_way.done (steps w.change) out.part out.rest is.under_way.within (λ some. (is.under_way.unfinished some).within) out.line in
    let more = behind_same s.output (apply_line w.scope ++ (acks is.under_way.done ++ out.part)) (apply_line w.scope ++ acks (steps w.change))
    (behind_same (apply_line w.scope) (acks is.under_way.done ++ out.part) (acks (steps w.change)) front) in
    let printed : left.output ≡ s.output ++ (apply_line w.scope ++ (acks is.under_way.done ++ out.part)) =
    out.printed
    ∙ append_assoc (s.output ++ apply_line w.scope) (acks is.under_way.done) out.part
    ∙ append_assoc s.output (apply_line w.scope) (acks is.under_way.done ++ out.part) in
    subst (λ (l : List ℕ). IsFront l (s.output ++ lines w)) (sym printed)
    (subst (λ (l : List ℕ). IsFront (s.output ++ (apply_line w.scope ++ (acks is.under_way.done ++ out.part))) (s.output ++ l)) (sym (lines_some w some)) more)
left_front w s left (inr at) =
    let front : IsFront at.part (lines w) = (
      at.rest ++ acks (steps w.change),
      ap (λ (l : List ℕ). l ++ acks (steps w.change)) at.line ∙ append_assoc at.part at.rest (acks (steps w.change)),
    ) in
    subst (λ (l : List ℕ). IsFront l (s.output ++ lines w)) (sym at.output) (behind_same s.output at.part (lines w) front)
