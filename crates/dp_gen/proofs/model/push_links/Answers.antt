use Rattle.std.proofs.Common.{[], ◌∷◌, ◌-◌, ◌∙◌}
use Rattle.dp_gen.specs.Family.{constrains, or_not, q, r}
use Rattle.dp_gen.proofs.TextLemmas.{ended, q_fails_text, q_holds_text, two_pushed}
use Rattle.dp_gen.proofs.model.push_links.Goals as goal

pub returns : goal.returns
returns c =
    let k = c.args.k in
    two_pushed c.args.text.now.items c.extend_from_slice.new.self.items c.extend_from_slice-2.new.self.items c.as_bytes.result.now c.as_bytes-2.result.now
    (ended (constrains (or_not (r k ∷ q k ∷ []) (r (k - 1) ∷ [])))) (ended (constrains (or_not (r k ∷ []) (r (k - 1) ∷ q k ∷ []))))
    c.in_ok-extend_from_slice.ensures.items c.in_ok-extend_from_slice-2.ensures.items
    (c.as_bytes.ensures.value ∙ c.in_ok-q_fails.ensures.ok ∙ q_fails_text k)
    (c.as_bytes-2.ensures.value ∙ c.in_ok-q_holds.ensures.ok ∙ q_holds_text k)
