-- The entry of a keyword in a row of the table.
use Rattle.std.proofs.Common.{◌≡◌, ℕ, List, map, Option, option_map, sym, ap, ◌∙◌}
use Rattle.std.specs.List.{find}
use Rattle.std.specs.Str.{bytes_eq}
use Rattle.yang_faults.specs.Entries.{allowed}
use Rattle.yang_faults.specs.Rows.{Allowed}
use Rattle.yang_faults.specs.declared.rows.Entry.{Entry}
use Rattle.yang_scope.proofs.Blocks.{find-map}

pub find-allowed : (es : List Entry) (found : Option Entry) (keyword : List ℕ) (row : List Allowed)
    → found ≡ find (λ e. bytes_eq keyword e.keyword.now) es → map allowed es ≡ row → find (λ a. bytes_eq keyword a.keyword) row ≡ option_map allowed found
find-allowed es found keyword row is rows =
    ap (find (λ a. bytes_eq keyword a.keyword)) (sym rows) ∙ find-map allowed (λ a. bytes_eq keyword a.keyword) es ∙ ap (option_map allowed) (sym is)
