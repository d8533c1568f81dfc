-- The parts of constraints, each kind by its own definitions.
use Rattle.std.specs.Prelude.{ℕ, List, ℤ, codes}
use Rattle.dp_domain.specs.Faces.{Face}
use Rattle.dp_domain.specs.States.{Domains}
use Rattle.dp_rule_clause.specs.Nogoods.{ClashesNogood, MeetsNogood, face_nogood}
use Rattle.dp_rule_clause.specs.Restrictions.{ClashesWithin, MeetsWithin, face_within}
use Rattle.dp_rule_element.specs.Selections.{ClashesElement, MeetsElement, face_element}
use Rattle.dp_rule_cumulative.specs.TimeTable.{ClashesCumulative, MeetsCumulative, face_cumulative}
use Rattle.dp_rule_alldiff.specs.AllDifferent.{ClashesAllDifferent, MeetsAllDifferent, face_all_different}
use Rattle.dp_rule_arith.specs.Operations.{ClashesAbsolute, ClashesGreatest, ClashesLeast, ClashesTimes, MeetsAbsolute, MeetsGreatest, MeetsLeast, MeetsTimes, face_absolute, face_greatest, face_least, face_times}
use Rattle.dp_rule_linear.specs.AtMost.{ClashesAtMost, MeetsAtMost, face_at_most}
use Rattle.dp_rule_linear.specs.Differs.{ClashesDiffers, MeetsDiffers, face_differs}
use Rattle.dp_parts.specs.declared.part.Part.{Part}
use Rattle.dp_parts.specs.declared.part.Part.TheVariants.{LinLe, LinNe, Nogood, Within, Element, Cumulative, AllDiff, Times, Greatest, Least, Absolute}

-- its variables, its test and its points
abbrev pub face_of : Part → Face
face_of (LinLe q) = face_at_most q
face_of (LinNe q) = face_differs q
face_of (Nogood q) = face_nogood q
face_of (Within q) = face_within q
face_of (Element q) = face_element q
face_of (Cumulative q) = face_cumulative q
face_of (AllDiff q) = face_all_different q
face_of (Times q) = face_times q
face_of (Greatest q) = face_greatest q
face_of (Least q) = face_least q
face_of (Absolute q) = face_absolute q

-- where it clashes
abbrev pub ClashesPart : Part → Domains → Type 0
ClashesPart (LinLe q) d = ClashesAtMost q d
ClashesPart (LinNe q) d = ClashesDiffers q d
ClashesPart (Nogood q) d = ClashesNogood q d
ClashesPart (Within q) d = ClashesWithin q d
ClashesPart (Element q) d = ClashesElement q d
ClashesPart (Cumulative q) d = ClashesCumulative q d
ClashesPart (AllDiff q) d = ClashesAllDifferent q d
ClashesPart (Times q) d = ClashesTimes q d
ClashesPart (Greatest q) d = ClashesGreatest q d
ClashesPart (Least q) d = ClashesLeast q d
ClashesPart (Absolute q) d = ClashesAbsolute q d

-- which assignments meet it
abbrev pub MeetsPart : Part → (ℕ → ℤ) → Type 0
MeetsPart (LinLe q) s = MeetsAtMost q s
MeetsPart (LinNe q) s = MeetsDiffers q s
MeetsPart (Nogood q) s = MeetsNogood q s
MeetsPart (Within q) s = MeetsWithin q s
MeetsPart (Element q) s = MeetsElement q s
MeetsPart (Cumulative q) s = MeetsCumulative q s
MeetsPart (AllDiff q) s = MeetsAllDifferent q s
MeetsPart (Times q) s = MeetsTimes q s
MeetsPart (Greatest q) s = MeetsGreatest q s
MeetsPart (Least q) s = MeetsLeast q s
MeetsPart (Absolute q) s = MeetsAbsolute q s

-- the label of its kind
abbrev pub label_of : Part → List ℕ
label_of (LinLe q) = codes "linear"
label_of (LinNe q) = codes "not_equal"
label_of (Nogood q) = codes "clause"
label_of (Within q) = codes "domain"
label_of (Element q) = codes "element"
label_of (Cumulative q) = codes "time_table"
label_of (AllDiff q) = codes "all_different"
label_of (Times q) = codes "times"
label_of (Greatest q) = codes "maximum"
label_of (Least q) = codes "minimum"
label_of (Absolute q) = codes "absolute"
