use Rattle.std.proofs.Common.{rules, ◌≡◌, ◌∙◌, sym, ap, subst, take, true}
use Rattle.std.proofs.Common.{List, ℕ, length, ◌-◌}
use Rattle.dp_lines.specs.Kept.{has_no_feed}
use Rattle.dp_lines.specs.Readers.{State}
use Rattle.dp_lines.proofs.HeldLaws.{kept_back}
use Rattle.dp_lines.proofs.reader.Reader.hold_back.Goals as goal

pub invariant_of-self : goal.invariant_of-self
invariant_of-self c =
    let whole : c.len-self-inside.result ≡ length c.cut_off.new.held.items = search rules in
    kept_back c.self.inside.held.items c.self.inside.start c.self.inside.clear c.self.inside.count c.self.inside.passed c.self.inside.beyond c.self.inside.limits.line
    c.cut_off.new.held.items c.len-self-inside.result c.cut_off.result c.self.invariant
    (subst (λ (s : State). has_no_feed s.held ≡ true) (sym c.self.view_is) c.requires)
    (c.cut_off.ensures.held ∙ ap (λ (t : List ℕ). take c.self.inside.limits.line t) c.give_up.ensures)
    whole
    (c.cut_off.ensures.beyond ∙ ap (λ (t : List ℕ). length t - c.self.inside.limits.line) c.give_up.ensures)
