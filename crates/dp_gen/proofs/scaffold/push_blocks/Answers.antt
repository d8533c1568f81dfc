use Rattle.std.proofs.Common.{ℕ, arith}
use Rattle.dp_gen.specs.Family.{steps, text_of}
use Rattle.dp_gen.proofs.TextLemmas.{push_step, stepped, stepped-cons}
use Rattle.dp_gen.proofs.scaffold.push_blocks.Goals as goal

pub loop-k-preserved : goal.loop-k-preserved
loop-k-preserved c =
    push_step stepped (λ (k : ℕ). text_of (steps k)) stepped-cons c.loop-k.k c.args.n (omega arith) c.loop-k.text.items c.push_steps.new.text.items _
    c.in_ok-push_steps.ensures c.loop-k.invariant
