use Rattle.std.proofs.Common.{subst, sym}
use Rattle.command_answers.specs.Frames.{TellsFound}
use Rattle.command_answers.proofs.queries.answer_query.Goals as goal

pub returns-in-Ok : goal.returns-in-Ok
returns-in-Ok g c =
    subst (λ found. TellsFound g.H.Host found c.args.host.now c.show_text.new.host c.show_text.result) (sym c.in-Ok.is)
    (record {
      said = c.show_text.ensures.said;
      counts = c.show_text.ensures.counts;
      time = c.show_text.ensures.time;
      goes = c.show_text.ensures.goes;
    })

pub returns-in-Err : goal.returns-in-Err
returns-in-Err g c =
    subst (λ found. TellsFound g.H.Host found c.args.host.now c.say.new.host c.say.result) (sym c.in-Err.is)
    (record {
      said = c.say.ensures.said;
      counts = c.say.ensures.counts;
      time = c.say.ensures.time;
      goes = c.say.ensures.goes;
    })
