-- The laws of parts, kind by kind.
use Rattle.std.specs.Prelude.{◌≡◌, ℕ, ◌↔◌, true, false, ℤ}
use Rattle.dp_domain.specs.Faces.{Covers, Fixes, IsLawful}
use Rattle.dp_domain.specs.States.{Domains, LiesIn, is_dead}
use Rattle.dp_rule_clause.specs.NogoodLaws.{nogood_deciding, nogood_exact, nogood_lawful, nogood_sound}
use Rattle.dp_rule_clause.specs.RestrictionLaws.{within_deciding, within_exact, within_lawful, within_sound}
use Rattle.dp_rule_element.specs.SelectionLaws.{element_deciding, element_exact, element_lawful, element_sound}
use Rattle.dp_rule_cumulative.specs.TimeTableLaws.{cumulative_deciding, cumulative_exact, cumulative_lawful, cumulative_sound}
use Rattle.dp_rule_alldiff.specs.AllDifferentLaws.{all_different_deciding, all_different_exact, all_different_lawful, all_different_sound}
use Rattle.dp_rule_arith.specs.KindLaws.{absolute_deciding, absolute_exact, absolute_lawful, absolute_sound, greatest_deciding, greatest_exact, greatest_lawful, greatest_sound, least_deciding, least_exact, least_lawful, least_sound, times_deciding, times_exact, times_lawful, times_sound}
use Rattle.dp_rule_linear.specs.AtMostLaws.{at_most_deciding, at_most_exact, at_most_lawful, at_most_sound}
use Rattle.dp_rule_linear.specs.DiffersLaws.{differs_deciding, differs_exact, differs_lawful, differs_sound}
use Rattle.dp_parts.specs.Parts.{ClashesPart, MeetsPart, face_of}
use Rattle.dp_parts.specs.declared.part.Part.{Part}
use Rattle.dp_parts.specs.declared.part.Part.TheVariants.{LinLe, LinNe, Nogood, Within, Element, Cumulative, AllDiff, Times, Greatest, Least, Absolute}

-- the test is true exactly where the part clashes
pub part_exact : (q : Part) (d : Domains) → (face_of q).test d ≡ true ↔ ClashesPart q d
part_exact (LinLe q) d = at_most_exact q d
part_exact (LinNe q) d = differs_exact q d
part_exact (Nogood q) d = nogood_exact q d
part_exact (Within q) d = within_exact q d
part_exact (Element q) d = element_exact q d
part_exact (Cumulative q) d = cumulative_exact q d
part_exact (AllDiff q) d = all_different_exact q d
part_exact (Times q) d = times_exact q d
part_exact (Greatest q) d = greatest_exact q d
part_exact (Least q) d = least_exact q d
part_exact (Absolute q) d = absolute_exact q d

-- the test has the laws of every test
pub part_lawful : (q : Part) → IsLawful (face_of q)
part_lawful (LinLe q) = at_most_lawful q
part_lawful (LinNe q) = differs_lawful q
part_lawful (Nogood q) = nogood_lawful q
part_lawful (Within q) = within_lawful q
part_lawful (Element q) = element_lawful q
part_lawful (Cumulative q) = cumulative_lawful q
part_lawful (AllDiff q) = all_different_lawful q
part_lawful (Times q) = times_lawful q
part_lawful (Greatest q) = greatest_lawful q
part_lawful (Least q) = least_lawful q
part_lawful (Absolute q) = absolute_lawful q

-- where an assignment within the state meets the part, it does not clash
pub part_sound : (q : Part) (d : Domains) (s : ℕ → ℤ) → Covers (face_of q).scope d → LiesIn s d → MeetsPart q s → (face_of q).test d ≡ false
part_sound (LinLe q) d s covers lies meets = at_most_sound q d s covers lies meets
part_sound (LinNe q) d s covers lies meets = differs_sound q d s covers lies meets
part_sound (Nogood q) d s covers lies meets = nogood_sound q d s covers lies meets
part_sound (Within q) d s covers lies meets = within_sound q d s covers lies meets
part_sound (Element q) d s covers lies meets = element_sound q d s covers lies meets
part_sound (Cumulative q) d s covers lies meets = cumulative_sound q d s covers lies meets
part_sound (AllDiff q) d s covers lies meets = all_different_sound q d s covers lies meets
part_sound (Times q) d s covers lies meets = times_sound q d s covers lies meets
part_sound (Greatest q) d s covers lies meets = greatest_sound q d s covers lies meets
part_sound (Least q) d s covers lies meets = least_sound q d s covers lies meets
part_sound (Absolute q) d s covers lies meets = absolute_sound q d s covers lies meets

-- where each variable has one value, it clashes exactly where that assignment fails it
pub part_deciding : (q : Part) (d : Domains) (s : ℕ → ℤ) → is_dead d ≡ false → Fixes (face_of q).scope s d → ((face_of q).test d ≡ true) ↔ (MeetsPart q s → ⊥)
part_deciding (LinLe q) d s alive fixes = at_most_deciding q d s alive fixes
part_deciding (LinNe q) d s alive fixes = differs_deciding q d s alive fixes
part_deciding (Nogood q) d s alive fixes = nogood_deciding q d s alive fixes
part_deciding (Within q) d s alive fixes = within_deciding q d s alive fixes
part_deciding (Element q) d s alive fixes = element_deciding q d s alive fixes
part_deciding (Cumulative q) d s alive fixes = cumulative_deciding q d s alive fixes
part_deciding (AllDiff q) d s alive fixes = all_different_deciding q d s alive fixes
part_deciding (Times q) d s alive fixes = times_deciding q d s alive fixes
part_deciding (Greatest q) d s alive fixes = greatest_deciding q d s alive fixes
part_deciding (Least q) d s alive fixes = least_deciding q d s alive fixes
part_deciding (Absolute q) d s alive fixes = absolute_deciding q d s alive fixes
