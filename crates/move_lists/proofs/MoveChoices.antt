-- What is chosen of the generated moves, as start and goal say.
use Rattle.std.proofs.Common.{◌≡◌, ◌⊎◌, inl, inr, ◌↔◌, ◌+◌, ◌<◌, ℕ, Bool, true, false, not, cond, nat_eq, if◌then◌else◌, true≢false, List, [], ◌∷◌, ◌++◌, length, map, append-nil, take, get_or, refl, sym, ap, subst, ◌∙◌, All}
use Rattle.std.specs.List.{Contains, filter}
use Rattle.std.proofs.lemmas.Bool.{eqb-true}
use Rattle.std.proofs.lemmas.List.{map-append}
use Rattle.std.proofs.lemmas.List.Elements.{Contains-get_or, All-contains, All-filter, filter_more, filter_passes}
use Rattle.conf_doc.specs.declared.configuration.Config.{Config}
use Rattle.move_core.specs.Generated.{IsRestoring}
use Rattle.move_core.specs.Listed.{HasTier, other_tier}
use Rattle.move_core.specs.declared.moves.Generated.{Generated}
use Rattle.move_core.specs.declared.moves.Move.{Move}
use Rattle.move_core.specs.declared.moves.Ranked.{Ranked}
use Rattle.move_lists.specs.Firsts.{IsTold, generated_of}
use Rattle.move_lists.specs.Questions.{AreFirstsIn, IsOffered}
use Rattle.move_lists.specs.Ranking.{IsReachOf, alone, chosen_moves, early_tier, is_chosen, is_restoring_as, leads_early, lone_tier, ranked_alone}
use Rattle.move_lists.specs.Reaches.{Depths, IsOfferedMove}
use Rattle.move_lists.specs.declared.asking.Question.{Question}
use Rattle.move_lists.specs.declared.firsts.First.{First}
use Rattle.move_lists.specs.declared.ranking.Choice.{Choice}
use Rattle.move_lists.specs.declared.ranking.Choice.TheVariants.{Early, Late, Restoring, Other}
use Rattle.move_lists.proofs.Members.{first_member, later_member, member_cases, member_from_map, member_map, no_member}

-- ---- what start and goal say

-- the extended chains of a generated move have the lesser tier
abbrev pub LeadsEarly : Config → Config → Generated → Type 0
LeadsEarly start goal g = ¬ IsRestoring start goal g × (other_tier g.mv 1 ≡ early_tier)

-- it holds, or it doesn't
abbrev pub Meets : Bool → Type 0 → Type 0
Meets true P = P
Meets false P = ¬ P

-- a generated move is among those that are chosen
abbrev pub IsChosen : Choice → Config → Config → Generated → Type 0
IsChosen Early start goal g = LeadsEarly start goal g
IsChosen Late start goal g = ¬ LeadsEarly start goal g
IsChosen Restoring start goal g = IsRestoring start goal g
IsChosen Other start goal g = ¬ IsRestoring start goal g

-- the move of a generated one that is as P says
abbrev pub IsMoveOf : (Generated → Type 0) → List Generated → Move → Type 0
IsMoveOf P firsts m = (g : Generated) × Contains firsts g × P g × (g.mv ≡ m)

-- the moves of those generated ones that are as P says
pub record AreMovesOf (P : Generated → Type 0) (firsts : List Generated) (ms : List Move)
    : Type 0 where
  pub each : All (IsMoveOf P firsts) ms
  pub all : (g : Generated) → Contains firsts g → P g → Contains ms g.mv

-- a generated move alone, with its rank
pub record IsAlone (start goal : Config) (g : Generated) (r : Ranked) : Type 0 where
  pub mv : r.mv ≡ g.mv
  pub depth : r.depth ≡ 0
  pub tier : HasTier start goal g 0 r.tier
  pub class : r.class ≡ g.class

-- it is one of these, restoring or not
abbrev pub IsOneAlone : Config → Config → Bool → List Generated → Ranked → Type 0
IsOneAlone start goal restoring firsts r =
    (g : Generated) × Contains firsts g × Meets restoring (IsRestoring start goal g)
    × IsAlone start goal g r

-- those of the generated moves that are restoring, or aren't, each alone with its rank
pub record AreAlone (start goal : Config) (restoring : Bool) (firsts : List Generated) (rs : List Ranked)
    : Type 0 where
  pub each : All (IsOneAlone start goal restoring firsts) rs
  pub all :
      (g : Generated) → Contains firsts g → Meets restoring (IsRestoring start goal g)
      → (r : Ranked) × Contains rs r × IsAlone start goal g r

-- what extensions reach from the generated moves that are as P says
abbrev pub IsReachFrom : Question → (Generated → Type 0) → List Generated → Depths → Depths → Type 0
IsReachFrom q P firsts beside es = (ms : List Move) × AreMovesOf P firsts ms × IsReachOf q beside ms es

-- the tier of a generated move alone
pub alone_tier : (start goal : Config) (g : Generated) (b : Bool) → Meets b (IsRestoring start goal g) → HasTier start goal g 0 (lone_tier b)
alone_tier start goal g true is = record { restoring = λ r. refl; other = λ not. absurd (not is) }
alone_tier start goal g false not = record { restoring = λ r. absurd (not r); other = λ n. refl }

-- ---- lists of which some are kept

module _ {A : Type 0} (keep : A → Bool) where
  -- what is kept stands in the list and passes the test
  from_kept : (xs : List A) (x : A) → Contains (filter keep xs) x → Contains xs x × (keep x ≡ true)
  from_kept xs x h = (
    All-contains (Contains xs) (filter keep xs) x (All-filter keep (Contains xs) xs (λ k d lt. Contains-get_or xs k d lt)) h,
    All-contains (λ y. keep y ≡ true) (filter keep xs) x (filter_passes keep xs) h,
  )

  -- what stands in the list and passes the test is kept
  in_kept : (xs : List A) (x : A) → Contains xs x → keep x ≡ true → Contains (filter keep xs) x
  in_kept [] x h so = absurd (no_member x h)
  in_kept (y ∷ xs) x h so = by (λ t. in_kept xs x t so) (keep y) refl (member_cases y xs x h)
    where
      kept : List A
      kept = filter keep xs

      by : (Contains xs x → Contains kept x) → (b : Bool) → keep y ≡ b → (y ≡ x) ⊎ Contains xs x → Contains (filter keep (y ∷ xs)) x
      by rest true e (inl same) = subst (λ b. Contains (cond b (y ∷ kept) kept) x) (sym e) (subst (Contains (y ∷ kept)) same (first_member y kept))
      by rest true e (inr t) = subst (λ b. Contains (cond b (y ∷ kept) kept) x) (sym e) (later_member y kept x (rest t))
      by rest false e (inl same) = absurd (true≢false (sym so ∙ ap keep (sym same) ∙ e))
      by rest false e (inr t) = subst (λ b. Contains (cond b (y ∷ kept) kept) x) (sym e) (rest t)

  -- one more that is looked at
  module _ {B : Type 0} (f : A → B) (xs : List A) (i : ℕ) (x : A) (lt : i < length xs) (at : x ≡ get_or xs i x) where
    one_more : (b : Bool) → keep x ≡ b → filter keep (take (i + 1) xs) ≡ filter keep (take i xs) ++ cond b (x ∷ []) []
    one_more b is =
        filter_more keep xs i x lt ∙ ap (λ y. filter keep (take i xs) ++ cond (keep y) (y ∷ []) []) (sym at)
        ∙ ap (λ c. filter keep (take i xs) ++ cond c (x ∷ []) []) is

    -- it is kept
    pub kept_step : (ys new : List B) (y : B) → ys ≡ map f (filter keep (take i xs)) → keep x ≡ true → y ≡ f x → new ≡ ys ++ y ∷ []
        → new ≡ map f (filter keep (take (i + 1) xs))
    kept_step ys new y are so same pushed =
        pushed ∙ ap (λ z. ys ++ z ∷ []) same ∙ ap (λ l. l ++ f x ∷ []) are ∙ sym (map-append f (filter keep (take i xs)) (x ∷ []))
        ∙ ap (map f) (sym (one_more true so))

    -- or not
    pub kept_past : (ys : List B) → ys ≡ map f (filter keep (take i xs)) → keep x ≡ false → ys ≡ map f (filter keep (take (i + 1) xs))
    kept_past ys are not_so =
        are ∙ sym (map-append f (filter keep (take i xs)) [] ∙ append-nil (map f (filter keep (take i xs)))) ∙ ap (map f) (sym (one_more false not_so))

-- ---- what is told

not_told : (P : Type 0) (b : Bool) → (b ≡ true) ↔ P → (not b ≡ true) ↔ ¬ P
not_told P true told = (λ e. absurd (true≢false (sym e)), λ n. absurd (n (told.0 refl)))
not_told P false told = (λ e p. true≢false (sym (told.1 p)), λ n. refl)

meets_told : (P : Type 0) (r b : Bool) → (r ≡ true) ↔ P → ((if r then b else not b) ≡ true) ↔ Meets b P
meets_told P true true told = (λ e. told.0 refl, λ p. refl)
meets_told P true false told = (λ e. absurd (true≢false (sym e)), λ n. absurd (n (told.0 refl)))
meets_told P false true told = (λ e. absurd (true≢false (sym e)), λ p. absurd (true≢false (sym (told.1 p))))
meets_told P false false told = (λ e p. true≢false (sym (told.1 p)), λ n. refl)

early_told : (P : Type 0) (r : Bool) (tier : ℕ) → (r ≡ true) ↔ P
    → ((if r then false else nat_eq tier early_tier) ≡ true) ↔ ((¬ P) × (tier ≡ early_tier))
early_told P true tier told = (λ e. absurd (true≢false (sym e)), λ h. absurd (h.0 (told.0 refl)))
early_told P false tier told = (
  λ e. (λ p. true≢false (sym (told.1 p)), eqb-true tier early_tier e),
  λ h. subst (λ t. nat_eq t early_tier ≡ true) (sym h.1) refl,
)

module _ (start goal : Config) where
  chosen_told : (choice : Choice) (f : First) → IsTold start goal f → (is_chosen choice f ≡ true) ↔ IsChosen choice start goal f.generated
  chosen_told Early f told = early_told (IsRestoring start goal f.generated) f.is_restoring (other_tier f.generated.mv 1) told
  chosen_told Late f told =
      not_told (LeadsEarly start goal f.generated) (leads_early f)
      (early_told (IsRestoring start goal f.generated) f.is_restoring (other_tier f.generated.mv 1) told)
  chosen_told Restoring f told = told
  chosen_told Other f told = not_told (IsRestoring start goal f.generated) f.is_restoring told

-- ---- the moves of those that are chosen

module _ (q : Question) (fs : List First) (are : AreFirstsIn q fs) where
  abbrev start : Config
  start = q.start.now

  abbrev goal : Config
  goal = q.goal.now

  abbrev firsts : List Generated
  firsts = generated_of fs

  told : (f : First) → Contains fs f → IsOffered q f.generated × IsTold start goal f
  told f there = All-contains (λ x. IsOffered q x.generated × IsTold start goal x) fs f are.each there

  -- some generator gives each
  pub offered : All (IsOffered q) firsts
  offered = λ k d lt. by (get_or firsts k d) (Contains-get_or firsts k d lt)
    where
      by : (g : Generated) → Contains firsts g → IsOffered q g
      by g h = let f = member_from_map (λ x. x.generated) fs g h in subst (IsOffered q) f.2 (told f.0 f.1).0

  module _ (choice : Choice) where
    abbrev chosen : List Move
    chosen = chosen_moves choice fs

    one_chosen : (m : Move) → Contains chosen m → IsMoveOf (IsChosen choice start goal) firsts m
    one_chosen m h =
        let f = member_from_map (λ x. x.generated.mv) (filter (is_chosen choice) fs) m h in
        let kept = from_kept (is_chosen choice) fs f.0 f.1 in (
          f.0.generated,
          member_map (λ x. x.generated) fs f.0 kept.0,
          (chosen_told start goal choice f.0 (told f.0 kept.0).1).0 kept.1,
          f.2,
        )

    -- they are those that start and goal choose
    pub are_chosen : (ms : List Move) → ms ≡ chosen → AreMovesOf (IsChosen choice start goal) firsts ms
    are_chosen ms these =
        subst (AreMovesOf (IsChosen choice start goal) firsts) (sym these)
        (record {
          each = λ k d lt. one_chosen (get_or chosen k d) (Contains-get_or chosen k d lt);
          all = λ g h is. all g is (member_from_map (λ x. x.generated) fs g h);
        })
      where
        all : (g : Generated) → IsChosen choice start goal g → (f : First) × Contains fs f × (f.generated ≡ g) → Contains chosen g.mv
        all g is (f, there, same) =
            subst (λ (x : Generated). Contains chosen x.mv) same
            (member_map (λ x. x.generated.mv) (filter (is_chosen choice) fs) f
            (in_kept (is_chosen choice) fs f there
            ((chosen_told start goal choice f (told f there).1).1 (subst (IsChosen choice start goal) (sym same) is))))

    -- they are generated
    pub chosen_first : (ms : List Move) → ms ≡ chosen → All (IsOfferedMove q) ms
    chosen_first ms these = subst (All (IsOfferedMove q)) (sym these) (λ k d lt. by (get_or chosen k d) (Contains-get_or chosen k d lt))
      where
        by : (m : Move) → Contains chosen m → IsOfferedMove q m
        by m h = let g = one_chosen m h in (g.0, All-contains (IsOffered q) firsts g.0 offered g.1, g.3)

  module _ (b : Bool) where
    abbrev ranked : List Ranked
    ranked = ranked_alone b fs

    meets : (f : First) → Contains fs f → (is_restoring_as b f ≡ true) ↔ Meets b (IsRestoring start goal f.generated)
    meets f there = meets_told (IsRestoring start goal f.generated) f.is_restoring b (told f there).1

    is_alone : (f : First) → Meets b (IsRestoring start goal f.generated) → IsAlone start goal f.generated (alone b f)
    is_alone f is = record { mv = refl; depth = refl; tier = alone_tier start goal f.generated b is; class = refl }

    -- they are those alone that are restoring, or aren't, as start and goal say
    pub are_alone : (rs : List Ranked) → rs ≡ ranked → AreAlone start goal b firsts rs
    are_alone rs these =
        subst (AreAlone start goal b firsts) (sym these)
        (record {
          each = λ k d lt. each (get_or ranked k d) (Contains-get_or ranked k d lt);
          all = λ g h is. all g is (member_from_map (λ x. x.generated) fs g h);
        })
      where
        each : (r : Ranked) → Contains ranked r → IsOneAlone start goal b firsts r
        each r h =
            let f = member_from_map (alone b) (filter (is_restoring_as b) fs) r h in
            let kept = from_kept (is_restoring_as b) fs f.0 f.1 in
            let is = (meets f.0 kept.0).0 kept.1 in (
              f.0.generated,
              member_map (λ x. x.generated) fs f.0 kept.0,
              is,
              subst (IsAlone start goal f.0.generated) f.2 (is_alone f.0 is),
            )

        all : (g : Generated) → Meets b (IsRestoring start goal g) → (f : First) × Contains fs f × (f.generated ≡ g)
            → (r : Ranked) × Contains ranked r × IsAlone start goal g r
        all g is (f, there, same) =
            let meant = subst (λ x. Meets b (IsRestoring start goal x)) (sym same) is in (
              alone b f,
              member_map (alone b) (filter (is_restoring_as b) fs) f (in_kept (is_restoring_as b) fs f there ((meets f there).1 meant)),
              subst (λ x. IsAlone start goal x (alone b f)) same (is_alone f meant),
            )
