-- Lines that are gathered one after another, with their numbers.
use Rattle.std.proofs.Common.{◌≡◌, ℕ, ◌+◌, Result, Ok, List, [], ◌∷◌, ◌++◌, length, None, ap, ◌∙◌, arith}
use Rattle.std.specs.List.{enumerate_from}
use Rattle.dp_lines.specs.declared.line.Line.{Line}
use Rattle.dp_parts.specs.Posed.{Posed}
use Rattle.dp_scaffold.specs.Gathering.{Gathered, after, first_refusal, gather, gather_all, outcome}
use Rattle.dp_scaffold.specs.declared.refusal.ScaffoldRefusal.{ScaffoldRefusal}

-- no line is refused, numbered from n on, and so much is said behind the last
abbrev pub Gathers : Posed → ℕ → Gathered → List Line → Gathered → Type 0
Gathers p n g lines later = gather_all p (Ok g) (enumerate_from n lines) ≡ Ok later

-- joined lines are gathered one list after the other
pub all_append : (p : Posed) (n : ℕ) (progress : Result Gathered ScaffoldRefusal) (front back : List Line)
    → gather_all p progress (enumerate_from n (front ++ back)) ≡ gather_all p (gather_all p progress (enumerate_from n front)) (enumerate_from (n + length front) back)
all_append p n progress [] back =
    let same : n ≡ n + 0 = omega arith in
    ap (λ (k : ℕ). gather_all p progress (enumerate_from k back)) same
all_append p n progress (line ∷ front) back =
    let same : (n + 1) + length front ≡ n + length (line ∷ front) = omega arith in
    let now : Result Gathered ScaffoldRefusal = gather p progress (n, line) in
    all_append p (n + 1) now front back
    ∙ ap (λ (k : ℕ). gather_all p (gather_all p now (enumerate_from (n + 1) front)) (enumerate_from k back)) same

-- some lines, then others
pub gathers_append : (p : Posed) (n : ℕ) (a b c : Gathered) (front back : List Line)
    → Gathers p n a front b → Gathers p (n + length front) b back c → Gathers p n a (front ++ back) c
gathers_append p n a b c front back h k =
    all_append p n (Ok a) front back ∙ ap (λ (r : Result Gathered ScaffoldRefusal). gather_all p r (enumerate_from (n + length front) back)) h ∙ k

-- one line that no test refuses
pub gathers_line : (p : Posed) (n : ℕ) (g : Gathered) (line : Line) → first_refusal p g line ≡ None → Gathers p n g (line ∷ []) (after p g n line)
gathers_line p n g line e = ap (outcome n (after p g n line)) e
