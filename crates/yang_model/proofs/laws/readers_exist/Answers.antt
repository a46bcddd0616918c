use Rattle.xpath_part.specs.Reading.{read_expression}
use Rattle.yang_model.proofs.laws.readers_exist.Goals as goal

pub returns : goal.returns
returns c =
    let (tests, decide) = c.tests_exist.ensures in
    (record { tests = tests; read = read_expression }, record { tests = decide; expressions = c.reader_reads.ensures })
