use Rattle.std.proofs.Common.{ℕ, List, ◌++◌, ◌∙◌, ap}
use Rattle.dp_gen.proofs.TextLemmas.{last_text}
use Rattle.dp_gen.proofs.model.push_last.Goals as goal

pub returns : goal.returns
returns c =
    c.in_ok-extend_from_slice.ensures.items
    ∙ ap (λ (t : List ℕ). c.args.text.now.items ++ t) (c.as_bytes.ensures.value ∙ c.in_ok-line.ensures.ok ∙ last_text c.args.n)
