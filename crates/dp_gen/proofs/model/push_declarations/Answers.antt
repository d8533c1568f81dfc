use Rattle.std.proofs.Common.{ℕ, map, arith}
use Rattle.std.specs.Prelude.{codes}
use Rattle.dp_gen.specs.Family.{brought, declares, text_of}
use Rattle.dp_gen.proofs.TextLemmas.{declared, declared-cons, push_start, push_step, variables_text}
use Rattle.dp_gen.proofs.model.push_declarations.Goals as goal

pub loop-k-init : goal.loop-k-init
loop-k-init c =
    push_start declared c.args.n (codes "var bool: z;\nvar bool: r0;\n") c.args.text.now.items c.extend_from_slice.new.self.items _
    c.in_ok-extend_from_slice.ensures.items (variables_text c.args.n)

pub loop-k-preserved : goal.loop-k-preserved
loop-k-preserved c =
    push_step declared (λ (k : ℕ). text_of (map declares (brought k))) declared-cons c.loop-k.k c.args.n (omega arith) c.loop-k.text.items c.push_brought.new.text.items _
    c.in_ok-push_brought.ensures c.loop-k.invariant
