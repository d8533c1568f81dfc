-- What holds of the fields holds of the reading that they are.
use Rattle.std.proofs.Common.{◌≡◌, ◌↔◌, Ok, None, subst}
use Rattle.fz_token.specs.Next.{IsOnlyNext, IsUsedUp}
use Rattle.fz_token.proofs.Tokens.next.Goals as goal

pub returns-in-Ok-Some-clause-only : goal.returns-in-Ok-Some-clause-only
returns-in-Ok-Some-clause-only c = subst (λ r. IsOnlyNext r c.next_token-next.result) c.self.view_is c.next_token-next.ensures.only

pub returns-in-Ok-Some-clause-end : goal.returns-in-Ok-Some-clause-end
returns-in-Ok-Some-clause-end c = subst (λ r. (c.next_token-next.result ≡ Ok None) ↔ IsUsedUp r) c.self.view_is c.next_token-next.ensures.end

pub returns-clause-only : goal.returns-clause-only
returns-clause-only c = subst (λ r. IsOnlyNext r c.next_token-next.result) c.self.view_is c.next_token-next.ensures.only

pub returns-2-clause-only : goal.returns-2-clause-only
returns-2-clause-only c = subst (λ r. IsOnlyNext r c.next_token-next.result) c.self.view_is c.next_token-next.ensures.only

pub returns-2-clause-end : goal.returns-2-clause-end
returns-2-clause-end c = subst (λ r. (c.next_token-next.result ≡ Ok None) ↔ IsUsedUp r) c.self.view_is c.next_token-next.ensures.end
