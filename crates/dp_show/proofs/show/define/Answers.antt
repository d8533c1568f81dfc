use Rattle.std.proofs.Common.{◌≡◌, ℕ, List, [], ◌∷◌, ◌++◌, ℤ, sym, ◌∙◌, ap, subst, arith}
use Rattle.std.proofs.lemmas.Int.{ints}
use mir.Val.{of_z, to_z}
use mir.Syntax.{w64}
use Rattle.dp_domain.specs.Atoms.{IsNameable}
use Rattle.dp_domain.specs.declared.atom.Op.{Op}
use Rattle.dp_domain.specs.declared.atom.Op.TheVariants.{Ge, Le, Eq, Ne}
use Rattle.dp_lines.specs.Allowed.{IsAllowed}
use Rattle.dp_lines.specs.declared.line.Line.{Line}
use Rattle.dp_lines.specs.declared.line.Line.TheVariants.{Atom}
use Rattle.dp_show.specs.Named.{Atoms, Named}
use Rattle.dp_show.specs.Showing.{after}
use Rattle.dp_show.proofs.Answers.{on_ok}
use Rattle.dp_show.proofs.show.define.Goals as goal

-- a number that an atom may name is read as it is
nameable_read : (op : Op) (v : ℤ) → IsNameable op v → to_z w64 (of_z w64 v) ≡ v
nameable_read Ge v h = omega (arith, ints, h.0, h.1)
nameable_read Le v h = omega (arith, ints, h.0, h.1)
nameable_read Eq v h = omega (arith, ints, h.0, h.1)
nameable_read Ne v h = omega (arith, ints, h.0, h.1)

value_named : (line : Line) (id : ℕ) (name : List ℕ) (op : Op) (value : ℤ) → line ≡ Atom id name op value → IsAllowed line → IsNameable op value
value_named line id name op value is allowed = (subst (λ (l : Line). IsAllowed l) is allowed).2

-- the atom of its line is added
defined : (atoms now : Atoms) (line : Line) (id : ℕ) (name : List ℕ) (op : Op) (value : ℤ) (atom : Named) → line ≡ Atom id name op value
    → atom ≡ record { name = name; op = op; value = value } → now ≡ atoms ++ (id, atom) ∷ [] → now ≡ after atoms line
defined atoms now line id name op value atom is made added =
    added ∙ ap (λ (a : Named). atoms ++ (id, a) ∷ []) made ∙ sym (ap (λ (l : Line). after atoms l) is)

pub returns-in-Atom : goal.returns-in-Atom
returns-in-Atom c =
    let made = c.new.ensures ∙ ap (λ (z : ℤ). record { name = c.in-Atom.name; op = c.in-Atom.op; value = z })
    (nameable_read c.in-Atom.op c.in-Atom.value (value_named c.args.line _ _ _ _ c.in-Atom.is c.requires.allowed)) in
    on_ok c.add_atom.result _ _ (λ h. defined c.args.atoms.now.entries _ c.args.line _ _ _ _ c.new.result c.in-Atom.is made h) c.add_atom.ensures
