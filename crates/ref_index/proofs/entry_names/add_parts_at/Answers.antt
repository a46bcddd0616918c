use Rattle.std.proofs.Common.{ℕ, List, inl, inr, subst}
use Rattle.std.specs.Prelude.{OnOk}
use Rattle.std.specs.List.{Contains}
use Rattle.indexmap.proofs.MapLemmas.{OnOk-map}
use Rattle.key_split.specs.Key.{key_parts}
use Rattle.ref_index.specs.Texts.{Has}
use Rattle.ref_index.specs.declared.entry_names.EntryName.{EntryName}
use Rattle.ref_index.proofs.NamedEntries.{got}
use Rattle.ref_index.proofs.entry_names.add_parts_at.Goals as goal

pub returns-clause-stay : goal.returns-clause-stay
returns-clause-stay c = OnOk-map c.add_parts.result _ _ (λ each s has. each s (inl has)) c.add_parts.ensures

pub returns-clause-all : goal.returns-clause-all
returns-clause-all c = λ name at.
    let Is : EntryName → Type 0 = λ n. OnOk c.add_parts.result ((s : List ℕ) → Contains (key_parts n.key.now) s → Has c.add_parts.new.self s) in
    subst Is (got c.args.names.now c.args.i name _ at) (OnOk-map c.add_parts.result _ _ (λ each s part. each s (inr part)) c.add_parts.ensures)
