use Rattle.dp_desk.proofs.Files.{held_at, held_nowhere}
use Rattle.dp_desk.proofs.storage.find_file.Goals as goal

pub returns-clause-found : goal.returns-clause-found
returns-clause-found c = held_at c.args.files.now c.args.name.now c.place_of.result c.place_of.ensures

pub returns-clause-absent : goal.returns-clause-absent
returns-clause-absent c = held_nowhere c.args.files.now c.args.name.now c.place_of.result c.place_of.ensures
