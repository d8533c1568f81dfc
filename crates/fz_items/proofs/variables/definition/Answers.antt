use Rattle.fz_items.proofs.variables.definition.Goals as goal

pub returns-in-Bool-clause-reads : goal.returns-in-Bool-clause-reads
returns-in-Bool-clause-reads c = rw c.in-Bool.is c.basic.ensures.reads

pub returns-in-Int-clause-reads : goal.returns-in-Int-clause-reads
returns-in-Int-clause-reads c = rw c.in-Int.is c.basic-in-Int.ensures.reads

pub returns-in-Set-clause-reads : goal.returns-in-Set-clause-reads
returns-in-Set-clause-reads c = rw c.in-Set.is c.basic-in-Set.ensures.reads
