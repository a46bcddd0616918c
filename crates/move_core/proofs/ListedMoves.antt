-- What holds of every listed move.
use Rattle.std.proofs.Common.{ℕ, zero, suc, inl, inr, subst, sym}
use Rattle.conf_doc.specs.WellFormed.{IsConfig}
use Rattle.conf_doc.specs.declared.configuration.Config.{Config}
use Rattle.move_core.specs.Contexts.{rulebook}
use Rattle.move_core.specs.Extensions.{IsExtension}
use Rattle.move_core.specs.Generated.{AddsEntry, IsGenerated, SaysOfEntry}
use Rattle.move_core.specs.Listed.{Extends, IsGeneratedMove, IsListed, LeadsTo}
use Rattle.move_core.specs.Moves.{IsDefined}
use Rattle.move_core.specs.declared.contexts.Ctx.{Ctx}
use Rattle.move_core.specs.declared.moves.Generated.{Generated}
use Rattle.move_core.specs.declared.moves.Move.{Move}
use Rattle.move_core.proofs.ItemMoves.{item_defined, want_defined}
use Rattle.move_core.proofs.DefinedMoves.{added_defined, delete_defined, field_defined, key_remove_defined, put_defined, table_defined, upper_defined}

entry_defined : (IsAs : SaysOfEntry) (cur goal : Config) (g : Generated) → AddsEntry IsAs cur goal g → IsDefined cur g.mv
entry_defined IsAs cur goal g is = subst (IsDefined cur) (sym is.move) (added_defined cur is.table is.key is.new is.lacks)

module _ (ctx : Ctx) (cur goal : Config) where
  by_kind : (kind : ℕ) (g : Generated) → IsGenerated (rulebook ctx) cur goal kind g → IsDefined cur g.mv
  by_kind kind g (inl is) = table_defined cur goal g.mv is.1.0
  by_kind kind g (inr (inl (k, (inl is, class)))) = key_remove_defined cur goal g.mv is.0
  by_kind kind g (inr (inl (k, (inr is, class)))) = entry_defined _ cur goal g is
  by_kind kind g (inr (inr (inl is))) = field_defined cur goal g.mv is.1.0
  by_kind kind g (inr (inr (inr (inl is)))) = entry_defined _ cur goal g is.1.0
  by_kind kind g (inr (inr (inr (inr is)))) = item_defined cur goal g.mv is.1.0

  pub generated_defined : (g : Generated) → IsGeneratedMove (rulebook ctx) cur goal g → IsDefined cur g.mv
  generated_defined g is = by_kind is.0 g is.1

  extended : IsConfig cur → (kind : ℕ) (m x : Move) → IsExtension (rulebook ctx) cur goal kind m x → IsDefined cur m → IsDefined cur x
  extended formed kind m x (inl is) defined = upper_defined cur goal m x defined is.1
  extended formed kind m x (inr (inl is)) defined = delete_defined cur m x defined is.1
  extended formed kind m x (inr (inr (inl is))) defined =
      subst (IsDefined cur) (sym is.1.move) (want_defined ctx.models cur formed is.1.at is.1.want is.1.item is.1.there)
  extended formed kind m x (inr (inr (inr is))) defined =
      subst (IsDefined cur) (sym is.1.move) (put_defined cur is.1.rule.table is.1.key is.1.rule.field _ is.1.before)

  pub extension_defined : IsConfig cur → (m x : Move) → Extends (rulebook ctx) cur goal m x → IsDefined cur m → IsDefined cur x
  extension_defined formed m x is defined = extended formed is.0 m x is.1 defined

  led : IsConfig cur → (m : Move) (n : ℕ) (x : Move) → LeadsTo (rulebook ctx) cur goal m n x → IsDefined cur m → IsDefined cur x
  led formed m zero x leads defined = subst (IsDefined cur) (sym leads) defined
  led formed m (suc n) x leads defined =
      extension_defined formed leads.0 x leads.2 (led formed m n leads.0 leads.1 defined)

  pub listed_defined : IsConfig cur → (m : Move) → IsListed (rulebook ctx) cur goal m → IsDefined cur m
  listed_defined formed m is = led formed is.first.mv is.depth m is.leads (generated_defined is.first is.generated)
