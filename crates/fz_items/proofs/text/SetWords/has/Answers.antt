use Rattle.std.proofs.Common.{◌≡◌, ◌∙◌, ℤ, rules, subst, w64, to_z, of_z}
use Rattle.std.specs.List.{list_any}
use Rattle.fz_items.specs.Seen.{number_of}
use Rattle.fz_items.specs.Wants.{has_value}
use Rattle.fz_items.proofs.Lists.{any_mapped}
use Rattle.fz_items.proofs.text.SetWords.has.Goals as goal

pub returns-in-List : goal.returns-in-List
returns-in-List c =
    let same : to_z w64 (of_z w64 c.args.value) ≡ c.args.value = search rules in
    rw c.in-List.is (subst (λ (v : ℤ). c.is_listed.result ≡ list_any (λ n. has_value v (number_of n)) c.deref.result.now) same c.is_listed.ensures
    ∙ rw c.deref.ensures.value (any_mapped (has_value c.args.value) number_of c.in-List.numbers.items))
