-- Parts that are met as soon as one variable has a good value: where atoms stand that are not entailed, and which atoms of a description are needed.
use Rattle.std.specs.Prelude.{ℕ, Bool, not, ◌&&◌, ◌||◌, ◌==◌, Option, Some, None, option_map, if◌then◌else◌, List, [], ◌∷◌, filter, ℤ}
use Rattle.std.specs.List.{list_all}
use Rattle.dp_base.specs.Lists.{Each}
use Rattle.dp_domain.specs.Atoms.{Atomic, meets, negated}
use Rattle.dp_domain.specs.declared.atom.Op.TheVariants.{Eq}
use Rattle.dp_domain.specs.declared.found.Found.{Found}
use Rattle.dp_domain.specs.declared.found.Found.TheVariants.{Atom}
use Rattle.dp_domain.specs.Explanations.{described}
use Rattle.dp_domain.specs.Sets.{IsDomain, is_among}
use Rattle.dp_domain.specs.States.{Domains, entails, values}
use Rattle.dp_domain.specs.Turns.{or_else}
use Rattle.dp_domain.specs.Supports.{bound_by}
use Rattle.dp_rule_clause.specs.declared.turns.Open.{Open}
use Rattle.dp_rule_clause.specs.declared.turns.Open.TheVariants.{Nowhere, On, Apart}
use Rattle.dp_rule_clause.specs.Nogoods.{same_op}

-- where the atoms stand that are not entailed, these and one on the variable
abbrev pub open_on : Domains → ℕ → List Atomic → Open
open_on d x [] = On x
open_on d x (a ∷ atoms) = if (a.var == x) || entails d a then open_on d x atoms else Apart

-- where the atoms stand that are not entailed
abbrev pub open_of : Domains → List Atomic → Open
open_of d [] = Nowhere
open_of d (a ∷ atoms) = if entails d a then open_of d atoms else open_on d a.var atoms

-- the atom that is given, as a turn
abbrev pub as_turn : Option Atomic → Option Found
as_turn given = option_map Atom given

-- whether the atom is `==` on the variable, with a value that is not supported
abbrev pub takes : ℕ → List ℤ → List ℤ → Atomic → Bool
takes x values good a = ((a.var == x) && same_op a.op Eq) && (is_among a.value values && not (is_among a.value good))

-- the negation of the first such atom
abbrev pub taken : ℕ → List ℤ → List ℤ → List Atomic → Option Atomic
taken x values good [] = None
taken x values good (a ∷ atoms) = if takes x values good a then Some (negated a) else taken x values good atoms

-- what the supported values of the variable give to a nogood: a bound, else a value that is taken out
abbrev pub given_by : ℕ → List Atomic → List ℤ → List ℤ → Option Atomic
given_by x atoms values good = or_else (bound_by values good x) (taken x values good atoms)

-- the values where the target fails, where it is on the variable
abbrev pub where_failing : Option Atomic → ℕ → List ℤ → List ℤ
where_failing None x values = values
where_failing (Some a) x values = if a.var == x then filter (meets (negated a)) values else values

-- the variable's good initial values where the target fails
abbrev pub lost_by : (ℕ → ℤ → Bool) → Option Atomic → Domains → ℕ → List ℤ
lost_by good target initial x = filter (good x) (where_failing target x (values initial x))

-- those of the atoms that one of the numbers fails
abbrev pub failed_by : List ℤ → List Atomic → List Atomic
failed_by numbers atoms = filter (λ a. not (list_all (meets a) numbers)) atoms

-- what is needed of the description of one variable: what takes out a good value
abbrev pub reasons_on : (ℕ → ℤ → Bool) → Option Atomic → Domains → Domains → ℕ → List Atomic
reasons_on good target initial now x = failed_by (lost_by good target initial x) (described (values initial x) (values now x) x)

-- the variables' values are domains
abbrev pub AreDomains : Domains → List ℕ → Type 0
AreDomains d scope = Each (λ x. IsDomain (values d x)) scope
