-- The facts of a run, gathered.
use Rattle.dp_command.proofs.Proves.{good_small, limit_said, one_small, says_said}
use Rattle.dp_command.proofs.Families.{family_said}
use Rattle.dp_command.proofs.Requests.{check_solves_not, gen_solves_not, process_solves_not, solve_proves_not}
use Rattle.dp_command.proofs.Says.{filed_said, truth_said, zero_small}
use Rattle.dp_command.proofs.Touches.{replied_by, touches_of}
use Rattle.dp_command.proofs.program.run.Goals as goal

pub returns-clause-answered : goal.returns-clause-answered
returns-clause-answered g c = record {
  replied = c.perform.ensures.answered;
  solved = c.perform.ensures.solved;
  fault = λ e. (c.perform.ensures.read_fault e).1;
  nothing = c.perform.ensures.nothing;
  known = c.perform.ensures.known;
}

pub returns-clause-holds : goal.returns-clause-holds
returns-clause-holds g c =
    let names = (g.D.Desk.sight c.args.desk.now).names in
    let r = c.perform.result in
    let was = g.D.Desk.sight c.args.desk.now in
    let now = g.D.Desk.sight c.perform.new.desk in
    record {
      check = λ check e. truth_said names _ r was now (c.perform.ensures.answered (replied_by _ r (zero_small r e) (check_solves_not _ check))) check e;
      process = λ process e. filed_said names _ was now r (c.perform.ensures.answered (replied_by _ r (zero_small r e) (process_solves_not _ process))) process e;
      prove = λ prove good. says_said names _ r was now (c.perform.ensures.answered (replied_by _ r (good_small r good) (λ solve. solve_proves_not _ solve prove))) prove good;
      gen = λ gen e. family_said names _ r was now (c.perform.ensures.answered (replied_by _ r (zero_small r e) (gen_solves_not _ gen))) gen e;
      limits = λ prove e. limit_said names _ r was now (c.perform.ensures.answered (replied_by _ r (one_small r e) (λ solve. solve_proves_not _ solve prove))) prove e;
    }

pub returns-clause-touched : goal.returns-clause-touched
returns-clause-touched g c =
    touches_of _ c.perform.result (g.D.Desk.sight c.args.desk.now) (g.D.Desk.sight c.perform.new.desk) c.perform.ensures.ended c.perform.ensures.unread_log
    c.perform.ensures.unfiled_words c.perform.ensures.unfiled c.perform.ensures.second_words c.perform.ensures.second_unfiled (g.D.Desk.sight c.args.desk.now).names c.perform.ensures.answered c.perform.ensures.unasked c.perform.ensures.rest

pub returns-clause-faults : goal.returns-clause-faults
returns-clause-faults g c = record {
  read = λ e. (c.perform.ensures.read_fault e).0;
  patient = c.perform.ensures.patient;
  write = c.perform.ensures.write_fault;
  in_seen = c.perform.ensures.in_seen;
  out_seen = c.perform.ensures.out_seen;
  in_counted = c.perform.ensures.in_counted;
  out_counted = c.perform.ensures.out_counted;
}

pub returns-clause-fronts : goal.returns-clause-fronts
returns-clause-fronts g c = record { written = c.perform.ensures.front; left = c.perform.ensures.left }
