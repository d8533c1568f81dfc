use Rattle.std.proofs.Common.{ap, sym, rules, ◌∙◌}
use Rattle.dp_grammar.specs.Chain.{mapped}
use Rattle.fz_items.specs.Notes.{add_note, note, notes, notes_of}
use Rattle.fz_items.specs.declared.annotations.Notes.{Notes}
use Rattle.fz_items.proofs.Exits.{gives_stop}
use Rattle.fz_items.proofs.NoteLaws.{notes_more, notes_refused, notes_done}
use Rattle.fz_items.proofs.annotations.annotations.Goals as goal

pub notes-smaller : goal.notes-smaller
notes-smaller c =
    (notes_more c.notes.invariant.0.0 (notes_of c.notes.notes) c.notes.source.left (notes c.args.source.now.left) (notes_of c.in_ok-notes.notes) c.annotation.new.source.left (sym c.is_mark.ensures ∙ c.notes-test.true) c.notes.invariant.0.1.0 c.notes.invariant.0.1.1 (search rules)).shorter

pub notes-preserved : goal.notes-preserved
notes-preserved c =
    let on = notes_more c.notes.invariant.0.0 (notes_of c.notes.notes) c.notes.source.left (notes c.args.source.now.left) (notes_of c.in_ok-notes.notes) c.annotation.new.source.left (sym c.is_mark.ensures ∙ c.notes-test.true) c.notes.invariant.0.1.0 c.notes.invariant.0.1.1 (search rules) in
    ((on.most, (on.enough, on.so_far)), search rules)

pub returns-in_err-notes-clause-reads : goal.returns-in_err-notes-clause-reads
returns-in_err-notes-clause-reads c =
    gives_stop {Y = Notes} notes_of _ _ _ _ c.in_err-notes.field-0.0 _ c.from_residual.ensures.1
    (λ cause e. notes_refused c.notes.invariant.0.0 (notes_of c.notes.notes) c.notes.source.left (notes c.args.source.now.left) cause c.annotation.new.source.left (sym c.is_mark.ensures ∙ c.notes-test.true) c.notes.invariant.0.1.0 c.notes.invariant.0.1.1
    (ap (λ ws. mapped (add_note (notes_of c.notes.notes)) (note ws)) (sym c.advance.ensures.left) ∙ e)) c.in_err-notes.ensures.reads

pub returns-clause-reads : goal.returns-clause-reads
returns-clause-reads c =
    notes_done c.notes.invariant.0.0 (notes_of c.notes.notes) c.notes.source.left (notes c.args.source.now.left) (sym c.is_mark.ensures ∙ c.notes-test.false) c.notes.invariant.0.1.1
