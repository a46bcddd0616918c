-- Where a token leads in a list of a length.
use Rattle.std.specs.Prelude.{◌≡◌, ℕ, ◌<◌}
use Rattle.patch_core.specs.Indexes.{ListToken, index, behind_last, no_index}
use Rattle.patch_core.specs.declared.indexes.Spot.{Spot}
use Rattle.patch_core.specs.declared.indexes.Spot.TheVariants.{At, End, Past, Dash, NoIndex}

-- the spot is where the token leads in a list of that length
abbrev pub Stands : ℕ → Spot → ListToken → Type 0
Stands len (At i) t = (t ≡ index i) × (i < len)
Stands len End t = t ≡ index len
Stands len Past t = (n : ℕ) × (t ≡ index n) × (len < n)
Stands len Dash t = t ≡ behind_last
Stands len NoIndex t = t ≡ no_index
