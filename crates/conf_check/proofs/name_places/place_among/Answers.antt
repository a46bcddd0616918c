use Rattle.conf_check.proofs.NamePlaces.{among_keys, among_fields, among_none}
use Rattle.conf_check.proofs.name_places.place_among.Goals as goal

pub returns-in-Some : goal.returns-in-Some
returns-in-Some c = among_keys c.args.name.now c.args.keys.now c.args.fields.now c.in-Some.place c.in-Some.ensures

pub returns-in-Some-place_of_field : goal.returns-in-Some-place_of_field
returns-in-Some-place_of_field c =
    among_fields c.args.name.now c.args.keys.now c.args.fields.now c.in-Some-place_of_field.place c.in-None.ensures c.in-Some-place_of_field.ensures

pub returns-in-None-place_of_field : goal.returns-in-None-place_of_field
returns-in-None-place_of_field c =
    among_none c.args.name.now c.args.keys.now c.args.fields.now c.in-None.ensures c.in-None-place_of_field.ensures
