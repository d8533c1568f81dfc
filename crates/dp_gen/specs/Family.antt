-- The generated family: for each number a model of Boolean clauses, in which r goes on from each block to the next and is
-- forbidden behind the last, and a scaffold that says so block by block.
use Rattle.std.specs.Prelude.{ℕ, ◌+◌, ◌-◌, ◌≤◌, List, [], ◌∷◌, ◌++◌, map, codes}
use Rattle.std.specs.List.{flat_map, join_with_byte, range_with_len}
use Rattle.std.specs.Fmt.{decimal}

-- the numbers that have a model
abbrev pub IsSize : ℕ → Type 0
IsSize n = (1 ≤ n) × (n ≤ 5000)

-- the numbers of the blocks: 1 to n
abbrev pub blocks : ℕ → List ℕ
blocks n = range_with_len 1 n

-- the text of lines, LF at the end of each
abbrev pub text_of : List (List ℕ) → List ℕ
text_of lines = flat_map (λ line. line ++ 10 ∷ []) lines

-- ---- the model

-- the name of the variable that goes on from block to block
abbrev pub r : ℕ → List ℕ
r k = codes "r" ++ decimal k

-- the name of the variable that splits block k in two cases
abbrev pub q : ℕ → List ℕ
q k = codes "q" ++ decimal k

-- the variables that block k brings
abbrev pub brought : ℕ → List (List ℕ)
brought k = q k ∷ r k ∷ []

-- the variables in order of declaration; no clause names z
abbrev pub variables : ℕ → List (List ℕ)
variables n = codes "z" ∷ r 0 ∷ flat_map brought (blocks n)

-- a clause: some names, and others
abbrev pub Clause : Type 0
Clause = List (List ℕ) × List (List ℕ)

-- one of some names is true, or one of the others is false
abbrev pub or_not : List (List ℕ) → List (List ℕ) → Clause
or_not some others = (some, others)

-- block k: r goes on, where q holds and where it does not
abbrev pub links : ℕ → List Clause
links k = or_not (r k ∷ q k ∷ []) (r (k - 1) ∷ []) ∷ or_not (r k ∷ []) (r (k - 1) ∷ q k ∷ []) ∷ []

-- r holds at first, goes on through each block, and does not hold at last
abbrev pub clauses : ℕ → List Clause
clauses n = or_not (r 0 ∷ []) [] ∷ flat_map links (blocks n) ++ or_not [] (r n ∷ []) ∷ []

-- the line that declares a variable
abbrev pub declares : List ℕ → List ℕ
declares name = codes "var bool: " ++ name ++ codes ";"

-- names between brackets, a comma between any two
abbrev pub listed : List (List ℕ) → List ℕ
listed names = codes "[" ++ join_with_byte 44 names ++ codes "]"

-- the line of a clause
abbrev pub constrains : Clause → List ℕ
constrains c = codes "constraint bool_clause(" ++ listed c.0 ++ codes "," ++ listed c.1 ++ codes ");"

-- the lines of the model: its variables, its clauses, and that any solution will do
abbrev pub model_lines : ℕ → List (List ℕ)
model_lines n = map declares (variables n) ++ map constrains (clauses n) ++ codes "solve satisfy;" ∷ []

-- the text of the model
abbrev pub model_text : ℕ → List ℕ
model_text n = text_of (model_lines n)

-- ---- the scaffold

-- atom k: the variable holds
abbrev pub names : ℕ → List ℕ → List ℕ
names k name = codes "a " ++ decimal k ++ codes " [" ++ name ++ codes " >= 1]"

-- step k: atom k does not hold where the next atom fails
abbrev pub joins : ℕ → List ℕ
joins k = codes "n " ++ decimal k ++ codes " " ++ decimal k ++ codes " -" ++ decimal (k + 1)

-- block k: r goes on
abbrev pub steps : ℕ → List (List ℕ)
steps k = names (k + 2) (r k) ∷ joins (k + 1) ∷ []

-- the lines of the scaffold: z does not hold, which does not follow; r goes on through each block; so there is no solution
abbrev pub scaffold_lines : ℕ → List (List ℕ)
scaffold_lines n =
    names 1 (codes "z") ∷ codes "n 1 1" ∷ names 2 (r 0) ∷ flat_map steps (blocks n) ++ codes "c UNSAT" ∷ []

-- the text of the scaffold
abbrev pub scaffold_text : ℕ → List ℕ
scaffold_text n = text_of (scaffold_lines n)
