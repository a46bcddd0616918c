use Rattle.yang_model.proofs.tables.models_of.Goals as goal

pub new-requires : goal.new-requires
new-requires c =
    c.requires.files _
    (λ readers are.
    let tables = c.in_ok-tables.ensures readers are in
    λ i. record { modules = c.in_ok-modules.ensures i; tables = tables i })
