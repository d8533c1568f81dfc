-- Lines that lead from what is known to what is known behind them, whatever their numbers.
use Rattle.std.proofs.Common.{◌≡◌, ℕ, None, Ok, List, [], ◌∷◌, ◌++◌, map, sym, ap, ◌∙◌, subst}
use Rattle.dp_lines.specs.declared.line.Line.{Line}
use Rattle.dp_parts.specs.Posed.{Posed}
use Rattle.dp_checker.specs.Judged.{after, first_refusal, judge_all, outcome}
use Rattle.dp_checker.specs.Known.{Known}

-- no line is refused, and so much is known behind the last
abbrev pub Leads : Posed → Known → List Line → Known → Type 0
Leads p known [] later = known ≡ later
Leads p known (line ∷ lines) later = (first_refusal p known line ≡ None) × Leads p (after p known line) lines later

pub leads_append : (p : Posed) (a b c : Known) (front back : List Line) → Leads p a front b → Leads p b back c → Leads p a (front ++ back) c
leads_append p a b c [] back e h = subst (λ k. Leads p k back c) (sym e) h
leads_append p a b c (line ∷ front) back h k = (h.0, leads_append p (after p a line) b c front back h.1 k)

-- so the lines are judged, with any numbers
pub leads_judged : (p : Posed) (known later : Known) (given : List (ℕ × Line)) → Leads p known (map (λ line. line.1) given) later → judge_all p (Ok known) given ≡ Ok later
leads_judged p known later [] e = ap Ok e
leads_judged p known later (line ∷ given) h =
    ap (λ why. judge_all p (outcome line.0 (after p known line.1) why) given) h.0 ∙ leads_judged p (after p known line.1) later given h.1
