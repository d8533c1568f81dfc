use Rattle.std.proofs.Common.{ℕ, map, arith}
use Rattle.std.specs.Prelude.{codes}
use Rattle.dp_gen.specs.Family.{constrains, links, text_of}
use Rattle.dp_gen.proofs.TextLemmas.{clauses_text, constrained, constrained-cons, push_start, push_step}
use Rattle.dp_gen.proofs.model.push_clauses.Goals as goal

pub loop-k-init : goal.loop-k-init
loop-k-init c =
    push_start (constrained c.args.n) c.args.n (codes "constraint bool_clause([r0],[]);\n") c.args.text.now.items c.extend_from_slice.new.self.items _
    c.in_ok-extend_from_slice.ensures.items (clauses_text c.args.n)

pub loop-k-preserved : goal.loop-k-preserved
loop-k-preserved c =
    push_step (constrained c.args.n) (λ (k : ℕ). text_of (map constrains (links k))) (constrained-cons c.args.n) c.loop-k.k c.args.n (omega arith) c.loop-k.text.items c.push_links.new.text.items _
    c.in_ok-push_links.ensures c.loop-k.invariant
