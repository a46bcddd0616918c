-- How what an index shows is told from others: each part has a code.
use Rattle.std.specs.Prelude.{◌≡◌, ◌⊎◌, ℕ, List, refl}
use Rattle.std.proofs.Common.{inl, inr}
use Rattle.std.specs.Coded.{Coded, code_by, coded_ℕ, coded_list, coded×, coded⊎}
use Rattle.conf_doc.specs.declared.configuration.Config.{Config}
use Rattle.conf_doc.specs.declared.configuration.Value.{Value}
use Rattle.conf_doc.specs.declared.configuration.Value.TheVariants.{Text, List as Listed}
use Rattle.yang_model.specs.ModelSets.{ModelSet}
use Rattle.yang_model.specs.ShapeCodes.{coded_models}
use Rattle.ref_index.specs.Referrers.{Indexed}

-- a value is a text or a list of texts
abbrev content_of : Value → List ℕ ⊎ List (List ℕ)
content_of (Text t) = inl t
content_of (Listed ts) = inr ts

abbrev value_of : List ℕ ⊎ List (List ℕ) → Value
value_of (inl t) = Text t
value_of (inr ts) = Listed ts

-- a value is the one that its content gives
pub content_back : (v : Value) → value_of (content_of v) ≡ v
content_back (Text t) = refl
content_back (Listed ts) = refl

abbrev coded_text : Coded (List ℕ)
coded_text = coded_list coded_ℕ

abbrev coded_value : Coded Value
coded_value =
    code_by (List ℕ ⊎ List (List ℕ)) (coded⊎ coded_text (coded_list coded_text))
    content_of value_of content_back

abbrev coded_config : Coded Config
coded_config =
    coded_list (coded× coded_text
    (coded_list (coded× coded_text (coded_list (coded× coded_text coded_value)))))

-- an index as its models and its configuration
abbrev pub coded_indexed : Coded Indexed
coded_indexed =
    code_by (ModelSet × Config) (coded× coded_models coded_config) (λ x. (x.models, x.config))
    (λ p. record { models = p.0; config = p.1 }) (λ _. refl)
