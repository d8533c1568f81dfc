-- The laws of each kind.
use Rattle.std.specs.Prelude.{◌≡◌, ℕ, true, false, ◌↔◌, unsigned_abs, ℤ, pos, ◌*ℤ◌}
use Rattle.std.specs.Int.{int_min, int_max}
use Rattle.dp_domain.specs.Faces.{Covers, Fixes, IsLawful}
use Rattle.dp_domain.specs.States.{Domains, LiesIn, is_dead}
use Rattle.dp_domain.specs.declared.term.Term.TheVariants.{Const}
use Rattle.dp_rule_arith.specs.OperationLaws.{deciding_by, exact_by, lawful_by, sound_by}
use Rattle.dp_rule_arith.specs.Operations.{ClashesAbsolute, ClashesGreatest, ClashesLeast, ClashesTimes, MeetsAbsolute, MeetsGreatest, MeetsLeast, MeetsTimes, absolute_span, face_absolute, face_greatest, face_least, face_times, greater_span, lesser_span, product_span}
use Rattle.dp_rule_arith.specs.SpanLaws.{absolute_span_of, greater_span_of, lesser_span_of, product_span_of}
use Rattle.dp_rule_arith.specs.declared.absolute.Absolute.{Absolute}
use Rattle.dp_rule_arith.specs.declared.greatest.Greatest.{Greatest}
use Rattle.dp_rule_arith.specs.declared.least.Least.{Least}
use Rattle.dp_rule_arith.specs.declared.times.Times.{Times}

-- ---- products

-- the test is true exactly where it clashes
pub times_exact : (q : Times) (d : Domains) → (face_times q).test d ≡ true ↔ ClashesTimes q d
times_exact q d = exact_by product_span q.a q.b q.c d

-- it has the laws of every test
pub times_lawful : (q : Times) → IsLawful (face_times q)
times_lawful q = lawful_by (λ x y. x *ℤ y) product_span product_span_of q.a q.b q.c

-- an assignment within the state that meets it shows that it does not clash there
pub times_sound : (q : Times) (d : Domains) (s : ℕ → ℤ) → Covers (face_times q).scope d → LiesIn s d → MeetsTimes q s → (face_times q).test d ≡ false
times_sound q d s covers lies meets = sound_by (λ x y. x *ℤ y) product_span product_span_of q.a q.b q.c d s covers lies meets

-- where each variable has one value, it clashes exactly where that assignment fails it
pub times_deciding : (q : Times) (d : Domains) (s : ℕ → ℤ) → is_dead d ≡ false → Fixes (face_times q).scope s d → ((face_times q).test d ≡ true) ↔ (MeetsTimes q s → ⊥)
times_deciding q d s alive fixes = deciding_by (λ x y. x *ℤ y) product_span product_span_of q.a q.b q.c d s alive fixes

-- ---- maxima

-- the test is true exactly where it clashes
pub greatest_exact : (q : Greatest) (d : Domains) → (face_greatest q).test d ≡ true ↔ ClashesGreatest q d
greatest_exact q d = exact_by greater_span q.a q.b q.c d

-- it has the laws of every test
pub greatest_lawful : (q : Greatest) → IsLawful (face_greatest q)
greatest_lawful q = lawful_by int_max greater_span greater_span_of q.a q.b q.c

-- an assignment within the state that meets it shows that it does not clash there
pub greatest_sound : (q : Greatest) (d : Domains) (s : ℕ → ℤ) → Covers (face_greatest q).scope d → LiesIn s d → MeetsGreatest q s → (face_greatest q).test d ≡ false
greatest_sound q d s covers lies meets = sound_by int_max greater_span greater_span_of q.a q.b q.c d s covers lies meets

-- where each variable has one value, it clashes exactly where that assignment fails it
pub greatest_deciding : (q : Greatest) (d : Domains) (s : ℕ → ℤ) → is_dead d ≡ false → Fixes (face_greatest q).scope s d → ((face_greatest q).test d ≡ true) ↔ (MeetsGreatest q s → ⊥)
greatest_deciding q d s alive fixes = deciding_by int_max greater_span greater_span_of q.a q.b q.c d s alive fixes

-- ---- minima

-- the test is true exactly where it clashes
pub least_exact : (q : Least) (d : Domains) → (face_least q).test d ≡ true ↔ ClashesLeast q d
least_exact q d = exact_by lesser_span q.a q.b q.c d

-- it has the laws of every test
pub least_lawful : (q : Least) → IsLawful (face_least q)
least_lawful q = lawful_by int_min lesser_span lesser_span_of q.a q.b q.c

-- an assignment within the state that meets it shows that it does not clash there
pub least_sound : (q : Least) (d : Domains) (s : ℕ → ℤ) → Covers (face_least q).scope d → LiesIn s d → MeetsLeast q s → (face_least q).test d ≡ false
least_sound q d s covers lies meets = sound_by int_min lesser_span lesser_span_of q.a q.b q.c d s covers lies meets

-- where each variable has one value, it clashes exactly where that assignment fails it
pub least_deciding : (q : Least) (d : Domains) (s : ℕ → ℤ) → is_dead d ≡ false → Fixes (face_least q).scope s d → ((face_least q).test d ≡ true) ↔ (MeetsLeast q s → ⊥)
least_deciding q d s alive fixes = deciding_by int_min lesser_span lesser_span_of q.a q.b q.c d s alive fixes

-- ---- absolute values

-- the test is true exactly where it clashes
pub absolute_exact : (q : Absolute) (d : Domains) → (face_absolute q).test d ≡ true ↔ ClashesAbsolute q d
absolute_exact q d = exact_by (λ i j. absolute_span i) q.a (Const (pos 0)) q.b d

-- it has the laws of every test
pub absolute_lawful : (q : Absolute) → IsLawful (face_absolute q)
absolute_lawful q = lawful_by (λ x y. pos (unsigned_abs x)) (λ i j. absolute_span i) absolute_span_of q.a (Const (pos 0)) q.b

-- an assignment within the state that meets it shows that it does not clash there
pub absolute_sound : (q : Absolute) (d : Domains) (s : ℕ → ℤ) → Covers (face_absolute q).scope d → LiesIn s d → MeetsAbsolute q s → (face_absolute q).test d ≡ false
absolute_sound q d s covers lies meets = sound_by (λ x y. pos (unsigned_abs x)) (λ i j. absolute_span i) absolute_span_of q.a (Const (pos 0)) q.b d s covers lies meets

-- where each variable has one value, it clashes exactly where that assignment fails it
pub absolute_deciding : (q : Absolute) (d : Domains) (s : ℕ → ℤ) → is_dead d ≡ false → Fixes (face_absolute q).scope s d → ((face_absolute q).test d ≡ true) ↔ (MeetsAbsolute q s → ⊥)
absolute_deciding q d s alive fixes = deciding_by (λ x y. pos (unsigned_abs x)) (λ i j. absolute_span i) absolute_span_of q.a (Const (pos 0)) q.b d s alive fixes
