use Rattle.std.proofs.Common.{◌≡◌, ℕ, Option, Some, List, [], ◌∷◌, ◌++◌, ℤ, sym, ◌∙◌, ap, subst, arith}
use Rattle.std.proofs.lemmas.Int.{ints}
use mir.Val.{of_z, to_z}
use mir.Syntax.{w64}
use Rattle.dp_base.specs.Names.{named}
use Rattle.dp_domain.specs.Atoms.{Atomic, IsNameable}
use Rattle.dp_domain.specs.declared.atom.Op.{Op}
use Rattle.dp_domain.specs.declared.atom.Op.TheVariants.{Ge, Le, Eq, Ne}
use Rattle.dp_lines.specs.Allowed.{IsAllowed}
use Rattle.dp_lines.specs.declared.line.Line.{Line}
use Rattle.dp_lines.specs.declared.line.Line.TheVariants.{Atom}
use Rattle.dp_parts.specs.Problems.{Csp, posed}
use Rattle.dp_checker.specs.Answers.{known_of}
use Rattle.dp_checker.specs.Judged.{after, with_atom}
use Rattle.dp_checker.specs.Known.{Known}
use Rattle.dp_checker.proofs.checker.learn_line.Goals as goal

-- an atom's line makes the atom of its name's variable known
atom_known : (p : Csp) (known : Known) (atoms : List (ℕ × Atomic)) (line : Line) (id : ℕ) (name : List ℕ) (op : Op) (value : ℤ) (atom : Atomic)
    → line ≡ Atom id name op value → atom ≡ record { var = atom.var; op = op; value = value } → named p.names name ≡ Some atom.var
    → atoms ≡ known.atoms ++ (id, atom) ∷ [] → record known { atoms = atoms } ≡ after (posed p) known line
atom_known p known atoms line id name op value atom is made var added =
    ap (λ (es : List (ℕ × Atomic)). record known { atoms = es }) (added ∙ ap (λ (a : Atomic). known.atoms ++ (id, a) ∷ []) made)
    ∙ sym (ap (λ (l : Line). after (posed p) known l) is ∙ ap (λ (o : Option ℕ). with_atom known id op value o) var)

-- a number that an atom may name is read as it is
nameable_read : (op : Op) (v : ℤ) → IsNameable op v → to_z w64 (of_z w64 v) ≡ v
nameable_read Ge v h = omega (arith, ints, h.0, h.1)
nameable_read Le v h = omega (arith, ints, h.0, h.1)
nameable_read Eq v h = omega (arith, ints, h.0, h.1)
nameable_read Ne v h = omega (arith, ints, h.0, h.1)

value_named : (line : Line) (id : ℕ) (name : List ℕ) (op : Op) (value : ℤ) → line ≡ Atom id name op value → IsAllowed line → IsNameable op value
value_named line id name op value is allowed = (subst (λ (l : Line). IsAllowed l) is allowed).2

pub returns-in_ok-add_atom-in-Atom-clause-known : goal.returns-in_ok-add_atom-in-Atom-clause-known
returns-in_ok-add_atom-in-Atom-clause-known c =
    atom_known c.args.problem.now (known_of c.args.facts.now) c.add_atom.new.atoms.entries c.args.line.now _ _ _ _ c.in_ok-atom-in-Atom.atom
    c.in-Atom.is
    (c.in_ok-atom-in-Atom.ensures.atom.0 ∙ ap (λ (z : ℤ). record { var = c.in_ok-atom-in-Atom.atom.var; op = c.in-Atom.op; value = z })
    (nameable_read c.in-Atom.op c.in-Atom.value (value_named c.args.line.now _ _ _ _ c.in-Atom.is c.requires.allowed)))
    c.in_ok-atom-in-Atom.ensures.atom.1 c.in_ok-add_atom-in-Atom.ensures.added
