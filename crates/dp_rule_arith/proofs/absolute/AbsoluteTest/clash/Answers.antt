-- The terms are of the state, since it covers their scope.
use Rattle.std.proofs.Common.{[], ◌∷◌}
use Rattle.dp_domain.proofs.TermLaws.{terms_covered}
use Rattle.dp_rule_arith.proofs.absolute.AbsoluteTest.clash.Goals as goal

pub bounds-a-requires : goal.bounds-a-requires
bounds-a-requires c = let q = c.args.self.now in (terms_covered c.args.state.now (q.a ∷ q.b ∷ []) c.requires).0

pub bounds-b-requires : goal.bounds-b-requires
bounds-b-requires c = let q = c.args.self.now in (terms_covered c.args.state.now (q.a ∷ q.b ∷ []) c.requires).1.0
