use Rattle.std.proofs.Common.{◌≡◌, List, [], rules, subst}
use Rattle.dp_grammar.specs.Chain.{mapped}
use Rattle.dp_grammar.specs.Grammar.{Takes}
use Rattle.fz_token.specs.Stream.{stream}
use Rattle.fz_model.specs.Models.{model_of}
use Rattle.fz_model.specs.ModelText.{model}
use Rattle.fz_model.specs.Words.{Word, words}
use Rattle.fz_items.specs.Wholes.{plan_of}
use Rattle.fz_items.proofs.WholeReads.{is_model}
use Rattle.fz_items.proofs.whole.whole.Goals as goal

pub new-requires : goal.new-requires
new-requires c =
    let all = words c.args.text.now (stream c.args.text.now).tokens in
    let source_is : c.new-source.result.left ≡ all = search rules in
    let at_end : c.read_parts.new.source.left ≡ [] = search rules in
    is_model c.args.text.now (plan_of c.in-Ok.parts)
    (subst (λ (ws : List Word). mapped model_of (model.read all) ≡ Takes (plan_of c.in-Ok.parts) ws) at_end
    (subst (λ (ws : List Word). mapped model_of (model.read ws) ≡ Takes (plan_of c.in-Ok.parts) c.read_parts.new.source.left) source_is c.in-Ok.ensures.reads))
