-- Parts of the constraints on products, maxima, minima and absolute values: one each.
use Rattle.std.specs.Prelude.{List, [], ◌∷◌}
use Rattle.dp_domain.specs.declared.term.Term.{Term}
use Rattle.dp_parts.specs.declared.part.Part.{Part}
use Rattle.dp_parts.specs.declared.part.Part.TheVariants.{Times, Greatest, Least, Absolute}

-- the product of the first two terms is the third
abbrev pub multiplied : Term → Term → Term → List Part
multiplied a b c = Times (record { a = a; b = b; c = c }) ∷ []

-- the greater of the first two terms is the third
abbrev pub greater_is : Term → Term → Term → List Part
greater_is a b c = Greatest (record { a = a; b = b; c = c }) ∷ []

-- the lesser of the first two terms is the third
abbrev pub lesser_is : Term → Term → Term → List Part
lesser_is a b c = Least (record { a = a; b = b; c = c }) ∷ []

-- the second term is the first without its sign
abbrev pub absolute_is : Term → Term → List Part
absolute_is a b = Absolute (record { a = a; b = b }) ∷ []
