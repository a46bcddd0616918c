-- Texts at whose head stands nothing that operators are told.
use Rattle.std.proofs.Common.{◌≡◌, ◌≢◌, ℕ, List, [], ◌∷◌, ◌++◌, true, length, sym, ◌∙◌, subst, arith}
use Rattle.std.specs.Prelude.{codes, decimal}
use Rattle.checkpoints.specs.Names.{is_good_name, is_name_character}
use Rattle.move_core.specs.Operations.{plan_lines, plan_text}
use Rattle.move_core.specs.declared.moves.Move.{Move}
use Rattle.operators.specs.Replies.{commits_line, said}
use Rattle.sessions.specs.declared.replies.Reply.{Reply}
use Rattle.writing_commands.proofs.Lines.{IsOneLine, first_lines}
use Rattle.command_runs.specs.Works.{Told, told_lines}
use Rattle.command_runs.proofs.Acknowledgements.{not_empty}
use Rattle.command_runs.proofs.CompactTexts.{heads, tails}
use Rattle.command_runs.proofs.GoodNames.{Lacks, characters, first_words, name_lacks}
use Rattle.command_runs.proofs.OperatorTexts.{HasNoTold, commits_is, commits_plain, first_told, name_plain, said_is_line}
use Rattle.command_runs.proofs.PlanLines.{counted}
use Rattle.command_runs.proofs.SessionLines.{IsLow, behind_space, decimal_is_low, low_more, no_low_reply}

-- what stands behind the first line
abbrev later : List Told → ℕ → List ℕ → List ℕ
later ts n x = (told_lines ts ++ commits_line n) ++ x

-- ---- a text that begins with a word and a space

module _ (w : List ℕ) (plain : Lacks 32 w) where
  -- the word is that of how many are committed
  pub word_is_commits : (z x : List ℕ) (n : ℕ) → w ++ 32 ∷ z ≡ commits_line n ++ x → codes "commits" ≡ w
  word_is_commits z x n e =
      first_words (codes "commits") w (decimal n ++ 10 ∷ x) z commits_plain plain (sym (commits_is n x) ∙ sym e)

  -- or a reply stands behind it
  pub reply_behind : (t : Told) (ts : List Told) (n : ℕ) → is_good_name t.0 ≡ true → (z x : List ℕ)
      → w ++ 32 ∷ z ≡ (told_lines (t ∷ ts) ++ commits_line n) ++ x → said t.1 ++ 10 ∷ later ts n x ≡ z
  reply_behind t ts n good z x e =
      sym (behind_space w t.0 z (said t.1 ++ 10 ∷ later ts n x) plain (name_plain t good) (e ∙ first_told t ts n x))

  module _ (other : codes "commits" ≡ w → ⊥) where
    -- behind it stands a number, say
    pub number_has_no_told : (z : List ℕ) → IsLow z → HasNoTold (w ++ 32 ∷ z)
    number_has_no_told z low [] n named (x, e) = other (word_is_commits z x n e)
    number_has_no_told z low (t ∷ ts) n named (x, e) =
        no_low_reply t.1 (10 ∷ later ts n x) z low (reply_behind t ts n named.0 z x e)

    -- behind it stands a line that is no reply
    pub line_has_no_told : (s z : List ℕ) → IsOneLine s → ((r : Reply) → said r ≡ s → ⊥)
        → HasNoTold (w ++ 32 ∷ (s ++ 10 ∷ z))
    line_has_no_told s z one none [] n named (x, e) = other (word_is_commits (s ++ 10 ∷ z) x n e)
    line_has_no_told s z one none (t ∷ ts) n named (x, e) =
        let both = first_lines (said t.1) s (later ts n x) z (said_is_line t.1) one
        (reply_behind t ts n named.0 (s ++ 10 ∷ z) x e) in
        none t.1 both.0

    -- behind it stands a line, and behind that line no such text
    pub lines_have_no_told : (s z : List ℕ) → IsOneLine s → HasNoTold z → HasNoTold (w ++ 32 ∷ (s ++ 10 ∷ z))
    lines_have_no_told s z one none [] n named (x, e) = other (word_is_commits (s ++ 10 ∷ z) x n e)
    lines_have_no_told s z one none (t ∷ ts) n named (x, e) =
        let both = first_lines (said t.1) s (later ts n x) z (said_is_line t.1) one
        (reply_behind t ts n named.0 (s ++ 10 ∷ z) x e) in
        none ts n named.1 (x, sym both.1)

-- ---- other texts

lacks_split : (c : ℕ) (text a z : List ℕ) → Lacks c text → text ≡ a ++ c ∷ z → ⊥
lacks_split c [] [] z h e = not_empty c z e
lacks_split c [] (d ∷ a) z h e = not_empty d (a ++ c ∷ z) e
lacks_split c (b ∷ text) [] z h e = h.0 (heads b c text z e)
lacks_split c (b ∷ text) (d ∷ a) z h e = lacks_split c text a z h.1 (tails b d text (a ++ c ∷ z) e)

-- without a space
pub one_word_has_no_told : (text : List ℕ) → Lacks 32 text → HasNoTold text
one_word_has_no_told text plain [] n named (x, e) =
    lacks_split 32 text (codes "commits") (decimal n ++ 10 ∷ x) plain (e ∙ commits_is n x)
one_word_has_no_told text plain (t ∷ ts) n named (x, e) =
    lacks_split 32 text t.0 (said t.1 ++ 10 ∷ later ts n x) plain (e ∙ first_told t ts n x)

-- that begins with what is in no name
pub sign_has_no_told : (c : ℕ) (text : List ℕ) → c ≢ 99 → c ≢ 32 → (is_name_character c ≡ true → ⊥)
    → HasNoTold (c ∷ text)
sign_has_no_told c text first space none [] n named (x, e) =
    first (heads c 99 text _ (e ∙ commits_is n x))
sign_has_no_told c text first space none (t ∷ ts) n named (x, e) =
    begins t.0 (name_lacks c none t.0 (characters t.0 named.0)) (e ∙ first_told t ts n x)
  where
    begins : (name : List ℕ) → Lacks c name → c ∷ text ≡ name ++ 32 ∷ (said t.1 ++ 10 ∷ later ts n x) → ⊥
    begins [] h same = space (heads c 32 text _ same)
    begins (b ∷ name) h same = h.0 (sym (heads c b text _ same))

-- that begins with a plan
pub plan_has_no_told : (ms : List Move) (x : List ℕ) → HasNoTold (plan_text ms ++ x)
plan_has_no_told ms x =
    subst HasNoTold (sym (counted ms x))
    (number_has_no_told (codes "plan") (omega arith, (omega arith, (omega arith, (omega arith, tt))))
    (λ e. let h = heads 99 112 _ _ e in omega (arith, h))
    (decimal (length ms) ++ 10 ∷ (plan_lines 1 ms ++ x))
    (low_more (decimal (length ms)) _ (decimal_is_low (length ms))))
