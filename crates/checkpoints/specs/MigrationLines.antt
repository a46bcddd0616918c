-- The lines that tell which checkpoints are put anew.
use Rattle.std.specs.Prelude.{ℕ, List, ◌++◌, codes, map}
use Rattle.std.specs.List.{concat}
use Rattle.conf_doc.specs.Texts.{line_feed}
use Rattle.checkpoints.specs.Migrations.{NewFile}

-- the line of a checkpoint
abbrev pub migrated_line : List ℕ → List ℕ
migrated_line name = codes "migrated " ++ name ++ line_feed

-- the lines of these, in their order
abbrev pub lines_of : List NewFile → List (List ℕ)
lines_of news = map (λ new. migrated_line new.0) news

-- the lines as one text
abbrev pub lines_text : List NewFile → List ℕ
lines_text news = concat (lines_of news)
