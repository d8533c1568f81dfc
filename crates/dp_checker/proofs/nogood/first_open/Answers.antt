use Rattle.std.proofs.Common.{◌≡◌, ◌<◌, false, length, sym, ◌∙◌, subst, arith}
use Rattle.dp_base.specs.Lists.{Among}
use Rattle.dp_base.proofs.Lists.{Among-get_or}
use Rattle.dp_domain.specs.Atoms.{Atomic}
use Rattle.dp_checker.proofs.nogood.first_open.Goals as goal

pub returns-then-not-entails-clause-open : goal.returns-then-not-entails-clause-open
returns-then-not-entails-clause-open c =
    let within : c.loop-atom.atom-index < length c.args.denial.now = omega arith in
    let fails : c.entails.result ≡ false = grind arith in (
      subst (λ (a : Atomic). Among a c.args.denial.now) (sym c.atom-item.is) (Among-get_or c.args.denial.now c.loop-atom.atom-index c.atom-item.result within),
      sym c.entails.ensures ∙ fails,
    )
