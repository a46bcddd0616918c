-- The last lines of a change's faults, found among those that were made before.
use Rattle.std.proofs.Common.{◌≡◌, ◌<◌, ◌≤◌, ◌⊎◌, inl, inr, ℕ, zero, suc, ◌+◌, eqb, Bool, true, false, cond, List, [], ◌∷◌, ◌++◌, length, map, get_or, take, Option, Some, refl, sym, ap, ◌∙◌, subst, arith}
use Rattle.std.specs.Prelude.{slice_get, unwrap_or}
use Rattle.std.proofs.Math.Seq.{get_or-append_seam}
use Rattle.std.proofs.lemmas.Bool.{eq-eqb, eqb-true}
use Rattle.std.proofs.lemmas.List.{get_or_append_left}
use Rattle.move_core.specs.declared.settings.ServiceTie.{ServiceTie}
use Rattle.move_core.specs.declared.settings.Settings.{Settings}
use Rattle.change_apply.specs.Change.{name_at, restart_of, restarts_of}
use Rattle.change_apply.specs.declared.ready.Restart.{Restart}
use Rattle.gcu_output.specs.Lines.{last_line, service_line}
use Rattle.gcu_output.specs.declared.outcomes.Outcome.TheVariants.{DiskFault}
use Rattle.writing_commands.specs.FaultLines.{AreNamed, AreServiceLines, disk_lines, found, line_at, line_for, lines_for, service_lines_at}
use Rattle.writing_commands.specs.declared.last_lines.ServiceLine.{ServiceLine}

-- ---- faults of the disk

one_longer : (ls : List (List ℕ)) (l : List ℕ) → length (ls ++ l ∷ []) ≡ suc (length ls)
one_longer [] l = refl
one_longer (x ∷ ls) l = ap suc (one_longer ls l)

how_many : (n : ℕ) → length (disk_lines n) ≡ n
how_many zero = refl
how_many (suc n) = one_longer (disk_lines n) (last_line (DiskFault n)) ∙ ap suc (how_many n)

pub lt_or_eq : (j k : ℕ) → j ≤ k → (j < k) ⊎ (j ≡ k)
lt_or_eq zero zero le = inr refl
lt_or_eq (suc j) zero le = absurd (omega (arith, le))
lt_or_eq zero (suc k) le = inl (omega arith)
lt_or_eq (suc j) (suc k) le = up (lt_or_eq j k (omega (arith, le)))
  where
    up : (j < k) ⊎ (j ≡ k) → (suc j < suc k) ⊎ (suc j ≡ suc k)
    up (inl lt) = inl (omega (arith, lt))
    up (inr e) = inr (ap suc e)

-- one line more
there_or_last : (n k : ℕ) → (k < n → line_at (disk_lines n) k ≡ last_line (DiskFault k)) → (k < n) ⊎ (k ≡ n)
    → line_at (disk_lines (suc n)) k ≡ last_line (DiskFault k)
there_or_last n k so_far (inl lt) =
    let long = how_many n in
    get_or_append_left (disk_lines n) (last_line (DiskFault n) ∷ []) [] k (omega (arith, lt, long)) ∙ so_far lt
there_or_last n k so_far (inr e) =
    let at : k ≡ length (disk_lines n) = e ∙ sym (how_many n) in
    ap (λ (j : ℕ). line_at (disk_lines (suc n)) j) at
    ∙ get_or-append_seam (disk_lines n) (last_line (DiskFault n)) [] []
    ∙ ap (λ (j : ℕ). last_line (DiskFault j)) (sym e)

-- the line of each is there
pub disk_there : (n k : ℕ) → k < n → line_at (disk_lines n) k ≡ last_line (DiskFault k)
disk_there zero k low = absurd (omega (arith, low))
disk_there (suc n) k low = there_or_last n k (λ lt. disk_there n k lt) (lt_or_eq k n (omega (arith, low)))

-- ---- faults of services

named : (settings : Settings) (is : List ℕ) → AreNamed settings (restarts_of settings is)
named settings [] [] r due e = absurd cc
named settings [] (x ∷ started) r due e = absurd cc
named settings (i ∷ is) [] r due e =
    let same : restart_of settings i ≡ r = cc in subst (λ (q : Restart). q.name ≡ name_at settings q.service) same refl
named settings (i ∷ is) (x ∷ started) r due e =
    let rest : restarts_of settings is ≡ started ++ r ∷ due = cc in named settings is started r due rest

-- so has each of a step
pub all_named : (settings : Settings) (services : List (List ℕ)) (k : ℕ)
    → AreNamed settings (get_or (map (restarts_of settings) services) k [])
all_named settings [] zero = named settings []
all_named settings [] (suc k) = named settings []
all_named settings (is ∷ services) zero = named settings is
all_named settings (is ∷ services) (suc k) = all_named settings services k

later_named : (settings : Settings) (x : Restart) (rs : List Restart) → AreNamed settings (x ∷ rs)
    → AreNamed settings rs
later_named settings x rs h = λ started r due e. h (x ∷ started) r due (ap (λ (l : List Restart). x ∷ l) e)

-- one restart more before it
found_or_later : (settings : Settings) (k : ℕ) (x r : Restart) (ls : List ServiceLine)
    → x.name ≡ name_at settings x.service → r.name ≡ name_at settings r.service
    → found r.service ls ≡ Some (service_line k r.service r.name) → (b : Bool) → eqb x.service r.service ≡ b
    → cond (eqb x.service r.service) (Some (service_line k x.service x.name)) (found r.service ls)
    ≡ Some (service_line k r.service r.name)
found_or_later settings k x r ls one two later true is =
    let same : x.service ≡ r.service = eqb-true x.service r.service is in
    let name : x.name ≡ r.name = one ∙ ap (λ (i : ℕ). name_at settings i) same ∙ sym two in
    ap (λ b. cond b (Some (service_line k x.service x.name)) (found r.service ls)) is
    ∙ (λ i. Some (service_line k (same i) (name i)))
found_or_later settings k x r ls one two later false isnt =
    ap (λ b. cond b (Some (service_line k x.service x.name)) (found r.service ls)) isnt ∙ later

-- its line is found
pub found_there : (settings : Settings) (k : ℕ) (started : List Restart) (r : Restart) (due : List Restart)
    → AreNamed settings (started ++ r ∷ due)
    → found r.service (lines_for k (started ++ r ∷ due)) ≡ Some (service_line k r.service r.name)
found_there settings k [] r due h =
    ap (λ b. cond b (Some (service_line k r.service r.name)) (found r.service (lines_for k due)))
    (eq-eqb r.service r.service refl)
found_there settings k (x ∷ started) r due h =
    found_or_later settings k x r (lines_for k (started ++ r ∷ due)) (h [] x (started ++ r ∷ due) refl)
    (h (x ∷ started) r due refl)
    (found_there settings k started r due (later_named settings x (started ++ r ∷ due) h)) (eqb x.service r.service)
    refl

-- a step that restarts something is there
there : (all : List (List Restart)) (k : ℕ) (started : List Restart) (r : Restart) (due : List Restart)
    → get_or all k [] ≡ started ++ r ∷ due
    → slice_get all k ≡ Some (started ++ r ∷ due)
there [] zero [] r due e = absurd cc
there [] zero (x ∷ started) r due e = absurd cc
there [] (suc k) [] r due e = absurd cc
there [] (suc k) (x ∷ started) r due e = absurd cc
there (rs ∷ all) zero started r due e = ap (λ (l : List Restart). Some l) e
there (rs ∷ all) (suc k) started r due e = there all k started r due e

at_slice : (all : List (List ServiceLine)) (k : ℕ) (ls : List ServiceLine) → slice_get all k ≡ Some ls
    → get_or all k [] ≡ ls
at_slice [] zero ls e = absurd cc
at_slice [] (suc k) ls e = absurd cc
at_slice (x ∷ all) zero ls e = let same : x ≡ ls = cc in same
at_slice (x ∷ all) (suc k) ls e = at_slice all k ls e

-- the line of a service of a step is found among those of all steps
pub service_there : (settings : Settings) (restarts : List (List Restart)) (lines : List (List ServiceLine)) (k : ℕ)
    (started : List Restart) (r : Restart) (due : List Restart)
    → AreServiceLines restarts lines → AreNamed settings (get_or restarts k [])
    → get_or restarts k [] ≡ started ++ r ∷ due
    → unwrap_or (found r.service (service_lines_at lines k)) [] ≡ service_line k r.service r.name
service_there settings restarts lines k started r due are all is =
    ap (λ (ls : List ServiceLine). unwrap_or (found r.service ls) [])
    (at_slice lines k (lines_for k (started ++ r ∷ due))
    (are k (started ++ r ∷ due) (there restarts k started r due is)))
    ∙ ap (λ (o : Option (List ℕ)). unwrap_or o [])
    (found_there settings k started r due (subst (AreNamed settings) is all))

-- ---- as they are made

-- the first k and the next one are the first k + 1
taken : {A : Type 0} (xs : List A) (k : ℕ) (x : A) → slice_get xs k ≡ Some x → take k xs ++ x ∷ [] ≡ take (suc k) xs
taken [] zero x e = absurd cc
taken [] (suc k) x e = absurd cc
taken (y ∷ xs) zero x e = let same : y ≡ x = cc in ap (λ z. z ∷ []) (sym same)
taken (y ∷ xs) (suc k) x e = ap (λ l. y ∷ l) (taken xs k x e)

map_behind : {A B : Type 0} (f : A → B) (xs : List A) (x : A) → map f (xs ++ x ∷ []) ≡ map f xs ++ f x ∷ []
map_behind f [] x = refl
map_behind f (y ∷ xs) x = ap (λ l. f y ∷ l) (map_behind f xs x)

-- so are what a function makes of them
pub map_next : {A B : Type 0} (f : A → B) (xs : List A) (k : ℕ) (x : A) (y : B) (ys : List B) → slice_get xs k ≡ Some x
    → y ≡ f x → ys ≡ map f (take k xs)
    → ys ++ y ∷ [] ≡ map f (take (k + 1) xs)
map_next f xs k x y ys at is so_far =
    let up : suc k ≡ k + 1 = omega arith in
    (λ i. so_far i ++ is i ∷ []) ∙ sym (map_behind f (take k xs) x) ∙ ap (λ l. map f l) (taken xs k x at)
    ∙ ap (λ (n : ℕ). map f (take n xs)) up

-- the name at a position
pub name_there : (settings : Settings) (j : ℕ) (tie : ServiceTie) → slice_get settings.services j ≡ Some tie
    → name_at settings j ≡ tie.name
name_there settings j tie e = at settings.services j e
  where
    at : (ties : List ServiceTie) (j : ℕ) → slice_get ties j ≡ Some tie
        → get_or (map (λ (t : ServiceTie). t.name) ties) j [] ≡ tie.name
    at [] zero e = absurd cc
    at [] (suc j) e = absurd cc
    at (t ∷ ties) zero e = let same : t ≡ tie = cc in ap (λ (x : ServiceTie). x.name) same
    at (t ∷ ties) (suc j) e = at ties j e

-- the line of one service more
pub lines_next : (settings : Settings) (step : ℕ) (services : List ℕ) (i service : ℕ) (tie : ServiceTie)
    (line name : List ℕ) (ls : List ServiceLine)
    → slice_get services i ≡ Some service → slice_get settings.services service ≡ Some tie → name ≡ tie.name
    → line ≡ service_line step service name
    → ls ≡ lines_for step (restarts_of settings (take i services))
    → ls ++ record { service = service; line = line } ∷ []
    ≡ lines_for step (restarts_of settings (take (i + 1) services))
lines_next settings step services i service tie line name ls at there is text so_far =
    map_next (λ (r : ℕ). line_for step (restart_of settings r)) services i service
    (record { service = service; line = line }) ls at
    (λ j. record {
      service = service;
      line = (text ∙ ap (λ (n : List ℕ). service_line step service n)
          (is ∙ sym (name_there settings service tie there))) j;
    })
    (so_far ∙ twice (take i services)) ∙ sym (twice (take (i + 1) services))
  where
    twice : (xs : List ℕ)
        → lines_for step (restarts_of settings xs) ≡ map (λ (r : ℕ). line_for step (restart_of settings r)) xs
    twice [] = refl
    twice (x ∷ xs) = ap (λ (l : List ServiceLine). line_for step (restart_of settings x) ∷ l) (twice xs)

pub at_index : (xs : List ℕ) (i x d : ℕ) → i < length xs → x ≡ get_or xs i d → slice_get xs i ≡ Some x
at_index [] i x d low e = absurd (omega (arith, low))
at_index (y ∷ xs) zero x d low e = ap (λ (z : ℕ). Some z) (sym e)
at_index (y ∷ xs) (suc i) x d low e = at_index xs i x d (omega (arith, low)) e
