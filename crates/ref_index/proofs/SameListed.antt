-- A want that is looked for in a list of wants.
use Rattle.std.proofs.Common.{◌≡◌, ◌<◌, ◌≤◌, ◌+◌, inl, inr, ℕ, List, [], None, get_or, length, take, sym, subst}
use Rattle.std.proofs.lemmas.List.{take_more, take_all}
use Rattle.std.proofs.lemmas.List.Elements.{Contains-get_or}
use denote.Ref.{Bor}
use Rattle.conf_check.specs.Wants.{want_of}
use Rattle.conf_check.specs.declared.want_iter.WantAt.{WantAt}
use Rattle.ref_index.specs.EntryNames.{IsSameListed}
use Rattle.ref_index.specs.Referrers.{place_of}
use Rattle.ref_index.proofs.Walks.{listed_cases, none_listed}

-- what is read past the end of a list
abbrev pub no_text : Bor (List ℕ)
no_text = record { ref_ptr = (0, 0); now = [] }

abbrev pub no_want : WantAt
no_want =
    record { table = no_text; key = no_text; field = None; item = 0; want = record { table = no_text; shape = 0; part = 0; text = no_text } }

abbrev pub AreSame : WantAt → WantAt → Type 0
AreSame a b = (place_of a ≡ place_of b) × (want_of a.want ≡ want_of b.want)

-- the want at an index is the same
pub same_there : (listed : List WantAt) (i : ℕ) (d b : WantAt) → i < length listed → AreSame (get_or listed i d) b → IsSameListed listed b
same_there listed i d b lt same = record { at = get_or listed i d; there = Contains-get_or listed i d lt; wants = sym same.1; stands = sym same.0 }

-- none is before the first
pub none_yet : (listed : List WantAt) (b : WantAt) → ¬ IsSameListed (take 0 listed) b
none_yet listed b = none_listed (want_of b.want) (place_of b)

-- nor is one more
pub not_here : (listed : List WantAt) (i : ℕ) (d b : WantAt) → i < length listed → ¬ IsSameListed (take i listed) b → ¬ AreSame (get_or listed i d) b
    → ¬ IsSameListed (take (i + 1) listed) b
not_here listed i d b lt before other h =
    elim (listed_cases (take i listed) (get_or listed i d) (want_of b.want) (place_of b) (subst (λ ls. IsSameListed ls b) (take_more listed i d lt) h)) [
      | inl was ↦ before was
      | inr this ↦ other (sym this.1, sym this.0)
    ]

-- so none is
pub not_listed : (listed : List WantAt) (i : ℕ) (b : WantAt) → length listed ≤ i → ¬ IsSameListed (take i listed) b → ¬ IsSameListed listed b
not_listed listed i b past none h = none (subst (λ ls. IsSameListed ls b) (sym (take_all i listed past)) h)
