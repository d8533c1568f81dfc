-- The laws of a time-table.
use Rattle.std.specs.Prelude.{◌≡◌, ℕ, ◌<◌, ◌≤◌, nat_lt, Bool, true, false, ◌⊎◌, ◌↔◌, length, ℤ}
use Rattle.std.proofs.Common.{refl, sym, ◌∙◌, subst, inl, inr, arith}
use Rattle.std.proofs.lemmas.Bool.{and_from, and_parts, both_ways, cases_lt, false_from_ne_true, or_cases, or_left, or_right}
use Rattle.std.proofs.lemmas.Bool.Decides.{nat_tests, same_from_decides}
use Rattle.dp_base.specs.Lists.{Among}
use Rattle.dp_base.proofs.Lists.{list_any-at, list_any-some, Among-filter_only}
use Rattle.dp_base.proofs.ScopeLaws.{climbs_in_order}
use Rattle.dp_domain.specs.Faces.{AgreesOn, Covers, Fixes, IsLawful}
use Rattle.dp_domain.specs.States.{Domains, LiesIn, IsWithin, is_dead}
use Rattle.dp_domain.specs.Terms.{IsTermOf, term_variables}
use Rattle.dp_domain.proofs.StateLaws.{LiesIn-alive, dead-within}
use Rattle.dp_domain.proofs.TermLaws.{term_covered}
use Rattle.dp_rule_cumulative.specs.Schedules.{Schedule, latest_start, must_run, runs_at, scope_of, starts, usage_of}
use Rattle.dp_rule_cumulative.specs.TimeTable.{ClashesCumulative, MeetsCumulative, face_cumulative, has_overload, is_overloaded, starts_overload, test_cumulative}
use Rattle.dp_rule_cumulative.specs.UsageLaws.{greatest_in_use, latest-enough, latest-runs, must_run-fixed, must_run-local, must_run-sound, must_run-within, start_in_scope, usage-le}
use Rattle.dp_rule_cumulative.specs.declared.task.Task.{Task}

over : (m n : ℕ) → nat_lt m n ≡ true → m < n
over m n e = grind (arith, nat_tests)

over_test : (m n : ℕ) → m < n → nat_lt m n ≡ true
over_test m n h = grind (arith, nat_tests)

clashes_where : (q : Schedule) (d : Domains) → test_cumulative q d ≡ true → ClashesCumulative q d
clashes_where q d e = elim (or_cases (is_dead d) (has_overload q.capacity q.tasks d) e) [
  | inl dead ↦ inl dead
  | inr some ↦ let k = list_any-some (starts_overload q.capacity q.tasks d) q.tasks some in
      let both = and_parts (must_run d (latest_start d k.0) k.0) (is_overloaded q.capacity q.tasks d (latest_start d k.0)) k.2 in
      inr (latest_start d k.0, over q.capacity (usage_of (must_run d (latest_start d k.0)) q.tasks) both.1)
]

-- if too much is used at any time, it is so at the latest start of a task that must run then
overloaded_at_start : (q : Schedule) (d : Domains) (t : ℤ) → q.capacity < usage_of (must_run d t) q.tasks → has_overload q.capacity q.tasks d ≡ true
overloaded_at_start q d t h =
    let k = greatest_in_use (latest_start d) (must_run d t) q.tasks (omega arith) in
    let more = latest-enough d t q.tasks k.0 k.1 in
    list_any-at (starts_overload q.capacity q.tasks d) q.tasks k.0 (Among-filter_only (must_run d t) q.tasks k.0 k.1.here).0
    (and_from (must_run d (latest_start d k.0) k.0) (is_overloaded q.capacity q.tasks d (latest_start d k.0))
    (latest-runs d t q.tasks k.0 k.1) (over_test q.capacity (usage_of (must_run d (latest_start d k.0)) q.tasks) (omega arith)))

true_where : (q : Schedule) (d : Domains) → ClashesCumulative q d → test_cumulative q d ≡ true
true_where q d clashes = elim clashes [
  | inl dead ↦ or_left (is_dead d) (has_overload q.capacity q.tasks d) dead
  | inr over ↦ or_right (is_dead d) (has_overload q.capacity q.tasks d) (overloaded_at_start q d over.0 over.1)
]

-- the test is true exactly where it clashes
pub cumulative_exact : (q : Schedule) (d : Domains) → (face_cumulative q).test d ≡ true ↔ ClashesCumulative q d
cumulative_exact q d = (clashes_where q d, true_where q d)

covered : (q : Schedule) (d : Domains) (k : Task) → Covers (scope_of q) d → Among k q.tasks → IsTermOf (length d) k.start
covered q d k covers here = term_covered (scope_of q) d k.start covers (start_in_scope q.tasks k here)

later : (c m n : ℕ) → c < m → m ≤ n → c < n
later c m n h k = omega arith

monotone : (q : Schedule) (d e : Domains) → Covers (scope_of q) d → IsWithin e d → ClashesCumulative q d → (b : Bool) → is_dead e ≡ b → ClashesCumulative q e
monotone q d e covers within clashes true dead = inl dead
monotone q d e covers within (inl gone) false alive = absurd (both_ways (is_dead e) alive (dead-within d e within gone))
monotone q d e covers within (inr over) false alive =
    inr (
      over.0,
      later q.capacity _ _ over.1 (usage-le (must_run d over.0) (must_run e over.0) q.tasks (λ k here runs.
          must_run-within d e over.0 k within alive (subst (λ (n : ℕ). IsTermOf n k.start) (sym within.count) (covered q d k covers here)) runs)),
    )

carried : (q : Schedule) (d e : Domains) → is_dead d ≡ false → AgreesOn (scope_of q) d e → ClashesCumulative q d → ClashesCumulative q e
carried q d e alive agrees (inl dead) = absurd (both_ways (is_dead d) alive dead)
carried q d e alive agrees (inr over) =
    inr (
      over.0,
      later q.capacity _ _ over.1 (usage-le (must_run d over.0) (must_run e over.0) q.tasks (λ k here runs.
          sym (must_run-local (scope_of q) d e over.0 k agrees (start_in_scope q.tasks k here)) ∙ runs)),
    )

local : (q : Schedule) (d e : Domains) → is_dead d ≡ false → is_dead e ≡ false → AgreesOn (scope_of q) d e → test_cumulative q d ≡ test_cumulative q e
local q d e alive alive' agrees =
    same_from_decides {P = ClashesCumulative q d} (test_cumulative q d) (test_cumulative q e) (cumulative_exact q d)
    (λ h. carried q e d alive' (λ x here. sym (agrees x here)) (clashes_where q e h), λ clashes. true_where q e (carried q d e alive agrees clashes))

pub cumulative_lawful : (q : Schedule) → IsLawful (face_cumulative q)
cumulative_lawful q = record {
  ordered = climbs_in_order (term_variables (starts q.tasks));
  dead = λ d gone. true_where q d (inl gone);
  monotone = λ d e covers within h. true_where q e (monotone q d e covers within (clashes_where q d h) (is_dead e) refl);
  local = local q;
}

not_both : (c m n : ℕ) → c < m → m ≤ n → n ≤ c → ⊥
not_both c m n h k l = omega arith

no_clash : (q : Schedule) (d : Domains) (s : ℕ → ℤ) → Covers (scope_of q) d → LiesIn s d → MeetsCumulative q s → ClashesCumulative q d → ⊥
no_clash q d s covers lies meets (inl dead) = both_ways (is_dead d) (LiesIn-alive d s lies) dead
no_clash q d s covers lies meets (inr over) =
    not_both q.capacity _ _ over.1 (usage-le (must_run d over.0) (runs_at s over.0) q.tasks (λ k here runs.
    must_run-sound d s over.0 k lies (covered q d k covers here) runs)) (meets over.0)

pub cumulative_sound : (q : Schedule) (d : Domains) (s : ℕ → ℤ) → Covers (face_cumulative q).scope d → LiesIn s d → MeetsCumulative q s → (face_cumulative q).test d ≡ false
cumulative_sound q d s covers lies meets =
    false_from_ne_true (test_cumulative q d) (λ e. no_clash q d s covers lies meets (clashes_where q d e))

not_met : (q : Schedule) (d : Domains) (s : ℕ → ℤ) → is_dead d ≡ false → Fixes (scope_of q) s d → ClashesCumulative q d → MeetsCumulative q s → ⊥
not_met q d s alive fixes (inl dead) meets = both_ways (is_dead d) alive dead
not_met q d s alive fixes (inr over) meets =
    not_both q.capacity _ _ over.1 (usage-le (must_run d over.0) (runs_at s over.0) q.tasks (λ k here runs.
    sym (must_run-fixed (scope_of q) d s over.0 k fixes (start_in_scope q.tasks k here)) ∙ runs)) (meets over.0)

within_capacity : (q : Schedule) (d : Domains) (s : ℕ → ℤ) → Fixes (scope_of q) s d → (ClashesCumulative q d → ⊥) → MeetsCumulative q s
within_capacity q d s fixes calm = λ t.
    not_more q.capacity (usage_of (must_run d t) q.tasks) (usage_of (runs_at s t) q.tasks) (λ h. calm (inr (t, h))) (usage-le (runs_at s t) (must_run d t) q.tasks (λ k here runs.
    must_run-fixed (scope_of q) d s t k fixes (start_in_scope q.tasks k here) ∙ runs))
  where
    not_more : (c m n : ℕ) → (c < m → ⊥) → n ≤ m → n ≤ c
    not_more c m n h k = elim (cases_lt c m) [ inl less ↦ absurd (h less) | inr more ↦ omega arith ]

calm_at : (q : Schedule) (d : Domains) (b : Bool) → test_cumulative q d ≡ b → (test_cumulative q d ≡ true) ⊎ (ClashesCumulative q d → ⊥)
calm_at q d true e = inl e
calm_at q d false e = inr (λ clashes. both_ways (test_cumulative q d) e (true_where q d clashes))

clash_where_not_met : (q : Schedule) (d : Domains) (s : ℕ → ℤ) → Fixes (scope_of q) s d → (MeetsCumulative q s → ⊥) → test_cumulative q d ≡ true
clash_where_not_met q d s fixes fails = elim (calm_at q d (test_cumulative q d) refl) [
  | inl e ↦ e
  | inr calm ↦ absurd (fails (within_capacity q d s fixes calm))
]

pub cumulative_deciding : (q : Schedule) (d : Domains) (s : ℕ → ℤ) → is_dead d ≡ false → Fixes (face_cumulative q).scope s d → ((face_cumulative q).test d ≡ true) ↔ (MeetsCumulative q s → ⊥)
cumulative_deciding q d s alive fixes =
    (λ e. not_met q d s alive fixes (clashes_where q d e), clash_where_not_met q d s fixes)
