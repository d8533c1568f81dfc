-- The answer behind whole files, or nothing.
use Rattle.std.specs.Prelude.{ℕ}
use Rattle.std.proofs.Common.{subst}
use Rattle.dp_command.specs.Texts.{files_of, status_of}
use Rattle.dp_command.proofs.Says.{WasHanded, handed_behind, handed_cut}
use Rattle.dp_command.proofs.saying.hand_over.Goals as goal

pub returns-in-Ok-clause-said : goal.returns-in-Ok-clause-said
returns-in-Ok-clause-said g c =
    subst
    (λ (n : ℕ). WasHanded c.say.result n (files_of c.args.reply.now) c.args.text.now (g.D.Desk.sight c.args.desk.now) (g.D.Desk.sight c.say.new.desk)
    (g.D.Desk.faults_out c.args.desk.now) (g.D.Desk.faults_out c.say.new.desk))
    c.status.ensures
    (handed_behind c.say.result c.status.result (files_of c.args.reply.now) c.args.text.now (g.D.Desk.sight c.args.desk.now) (g.D.Desk.sight c.write_files.new.desk) (g.D.Desk.sight c.say.new.desk)
    (g.D.Desk.faults_out c.args.desk.now) (g.D.Desk.faults_out c.say.new.desk) (g.D.Desk.faults_out c.write_files.new.desk)
    c.write_files.ensures.rest c.say.ensures.rest c.in-Ok.ensures.cause.kept c.in-Ok.ensures.filed c.say.ensures.said)

pub returns-in-Err-clause-said : goal.returns-in-Err-clause-said
returns-in-Err-clause-said g c =
    handed_cut (status_of c.args.reply.now) (files_of c.args.reply.now) c.args.text.now (g.D.Desk.sight c.args.desk.now) (g.D.Desk.sight c.write_files.new.desk)
    (g.D.Desk.faults_out c.args.desk.now) (g.D.Desk.faults_out c.write_files.new.desk)
    c.write_files.ensures.rest (g.met.D.Desk.answer_open c.args.desk.now) c.in-Err.ensures.cut c.in-Err.ensures.cause.failed
