-- What is told of the search of a model's problem proves the model.
use Rattle.dp_desk.specs.InMemory.{told}
use Rattle.fz_prove.proofs.Proven.{proves_of}
use Rattle.fz_prove.proofs.proving.prove_model.Goals as goal

pub returns-in-Some : goal.returns-in-Some
returns-in-Some g c =
    proves_of c.args.model.now c.args.problem.now c.args.conflicts (told c.search.new.desk).first c.in-Some.scaffold.now c.in_ok-outcome.outcome c.in_ok-proof-in-Some.proof
    c.goal-asked.ensures.model c.name_count-names.ensures.problem c.name_count-names.ensures.names c.requires.problem c.requires.same c.in_ok-outcome.ensures
    c.in-Some.ensures.shown c.in_ok-proof-in-Some.ensures
