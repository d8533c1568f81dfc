-- An entailed atom changes nothing.
use Rattle.std.proofs.Common.{◌≡◌, ◌∙◌, subst, sym}
use Rattle.dp_domain.specs.Scratches.{Working}
use Rattle.dp_domain.specs.States.{cut}
use Rattle.dp_domain.proofs.StateLaws.{cut-entailed}
use Rattle.dp_domain.proofs.scratch.Scratch.exclude.Goals as goal

pub returns-then-entails-clause-kept : goal.returns-then-entails-clause-kept
returns-then-entails-clause-kept c =
    subst (λ (w : Working). w.present ≡ cut w.present c.args.atom) c.self.view_is (sym (cut-entailed c.self.inside.present c.args.atom (sym c.entails.ensures ∙ c.if-entails.true)))
