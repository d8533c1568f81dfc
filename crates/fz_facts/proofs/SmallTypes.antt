-- The numbers of a type that passes its tests are small.
use Rattle.std.proofs.Common.{◌≡◌, inl, inr, List, [], ◌∷◌, ◌++◌, length, map, Option, None, ℤ}
use Rattle.dp_base.specs.Lists.{Each}
use Rattle.dp_domain.specs.Sets.{IsSmall}
use Rattle.dp_grammar.specs.Brackets.{Plain}
use Rattle.dp_grammar.specs.Chain.{behind_mark}
use Rattle.dp_grammar.specs.Listed.{Listing}
use Rattle.fz_model.specs.Context.{Context, one_more}
use Rattle.fz_model.specs.Items.{IntText, TypeWords, domain_test}
use Rattle.fz_model.specs.Limits.{beyond_small}
use Rattle.fz_model.specs.Literals.{integer, var_type}
use Rattle.fz_model.specs.Marks.{closes, is_close, is_stop, stop}
use Rattle.fz_model.specs.Models.{type_of}
use Rattle.fz_model.specs.Words.{Comma, Curly, DoubleDot, Number, Stop, Word}
use Rattle.fz_model.specs.declared.fault.Fault.{Fault}
use Rattle.fz_facts.specs.Facts.{IsSmallType}
use Rattle.fz_facts.proofs.Faults.{EachBehind, chain_parts, listed_parts, test_passes}
use Rattle.fz_facts.proofs.Passes.{neither, small_number}

abbrev numbers_listing : Context → Listing Word Fault IntText
numbers_listing context = record {
  is_separator = is_stop Comma;
  separator = Plain (Stop Comma);
  is_close = is_close Curly;
  item = λ kept. integer (domain_test context kept);
  close = λ kept. closes Curly;
}

small_at : (test : ℤ → Option Fault) → ((v : ℤ) → test v ≡ None → IsSmall v) → (n : IntText) → (integer test).fault n ≡ None → IsSmall n.0
small_at test small n e = small n.0 (test_passes (test n.0) (Plain (Number n.0 n.1) ∷ []) e)

small_domain : (context : Context) (kept : List IntText) (v : ℤ) → domain_test context kept v ≡ None → IsSmall v
small_domain context kept v e = small_number v (neither (beyond_small v) (one_more context (length kept)) e).0

small_numbers : (context : Context) (kept ns : List IntText) → EachBehind (λ before n. (integer (domain_test context before)).fault n ≡ None) kept ns → Each IsSmall (map (λ n. n.0) ns)
small_numbers context kept [] h = tt
small_numbers context kept (n ∷ ns) h =
    (small_at (domain_test context kept) (small_domain context kept) n h.0, small_numbers context (kept ++ n ∷ []) ns h.1)

pub small_type : (context : Context) (t : TypeWords) → (var_type (domain_test context) beyond_small).fault t ≡ None → IsSmallType (type_of t)
small_type context (inl bool) e = tt
small_type context (inr (inl int)) e = tt
small_type context (inr (inr (inl numbers))) e = small_numbers context [] numbers (listed_parts (numbers_listing context) numbers e).0
small_type context (inr (inr (inr bounds))) e =
    let p = chain_parts (integer beyond_small) (λ low. behind_mark (stop DoubleDot) (integer beyond_small)) bounds e in
    (small_at beyond_small small_number bounds.0 p.0, small_at beyond_small small_number bounds.1 p.1)
