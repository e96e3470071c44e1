-- What a pass over entries in rising order finds.
use Rattle.std.proofs.Common.{◌≡◌, ℕ, true, List, get_or, Some, arith}
use Rattle.std.specs.List.{position}
use Rattle.std.proofs.lemmas.List.Quantifiers.{position-Some}
use Rattle.std.proofs.lemmas.Bool.Decides.{nat_tests}
use Rattle.sorted_list.specs.declared.Entry.{Entry}
use Rattle.sorted_list.specs.Entries.{rising, no_entry, Gap}
use Rattle.sorted_list.proofs.Meaning.{reached, times_rise}

-- where the pass stops and the time is another one, an entry of the time would go
pub stopped : (t : ℕ) (es : List Entry) (i : ℕ) → rising es ≡ true → position (reached t) es ≡ Some i → ((get_or es i no_entry).time ≡ t → ⊥) → Gap t es i
stopped t es i r e ne =
    let f = position-Some (reached t) es i no_entry e in
    record {
      within = omega (arith, f.0);
      before = λ j lt. let b = f.2 j lt in grind (arith, nat_tests);
      after = λ j le h.
          let rise = times_rise es i j r le h in
          let b = f.1 in
          grind (arith, nat_tests);
    }
