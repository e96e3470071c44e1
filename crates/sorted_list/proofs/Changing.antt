-- One lease more or less in an entry that stays.
use Rattle.std.proofs.Common.{◌≡◌, ℕ, zero, suc, ◌+◌, ◌-◌, ◌<◌, ◌≤◌, true, List, [], ◌∷◌, length, get_or, set, sym, refl, ap, ◌∙◌, add-one, arith}
use Rattle.std.specs.List.{refill}
use Rattle.std.proofs.lemmas.Bool.Decides.{nat_tests}
use Rattle.std.proofs.lemmas.List.{length-set, get_or-set_same, set-set, set-get_or}
use Rattle.arrayvec.proofs.ArrayVecLemmas.{items-with_items}
use Rattle.lease.specs.Times.{insert, delete}
use Rattle.lease.proofs.Bags.{delete-insert}
use Rattle.sorted_list.specs.declared.Entry.{Entry}
use Rattle.sorted_list.specs.Entries.{many, times, size, rising, ahead, no_entry}
use Rattle.sorted_list.proofs.Meaning.{insert-many}

-- the entry at i with another number of leases
abbrev pub with_count : List Entry → ℕ → ℕ → List Entry
with_count es i n = set es i (record { time = (get_or es i no_entry).time; count = n })

ahead-count : (u : ℕ) (es : List Entry) (i n : ℕ) → ahead u (with_count es i n) ≡ ahead u es
ahead-count u [] i n = refl
ahead-count u (f ∷ es) zero n = refl
ahead-count u (f ∷ es) (suc i) n = refl

rising-count : (es : List Entry) (i n : ℕ) → 0 < n → rising es ≡ true → rising (with_count es i n) ≡ true
rising-count [] i n p r = refl
rising-count (f ∷ es) zero n p r = grind (arith, nat_tests)
rising-count (f ∷ es) (suc i) n p r =
    let ih = rising-count es i n p in
    let x = ahead-count f.time es i n in
    grind (arith, nat_tests)

more_size : (es : List Entry) (i : ℕ) → i < length es → size (with_count es i ((get_or es i no_entry).count + 1)) ≡ size es + 1
more_size [] i h = absurd (omega arith)
more_size (e ∷ es) zero h = omega arith
more_size (e ∷ es) (suc i) h = omega (arith, more_size es i (omega arith))

more_times : (es : List Entry) (i : ℕ) → i < length es → times (with_count es i ((get_or es i no_entry).count + 1)) ≡ insert (get_or es i no_entry).time (times es)
more_times [] i h = absurd (omega arith)
more_times (f ∷ es) zero h = rw add-one refl
more_times (f ∷ es) (suc i) h =
    ap (many f.count f.time) (more_times es i (omega arith))
    ∙ sym (insert-many (get_or es i no_entry).time f.count f.time (times es))

-- what the list is after a write of the entry at i, where m is what is lent for the write
written : (es m : List Entry) (i n : ℕ) → m ≡ es → refill (length es) es (with_count m i n) ≡ with_count es i n
written es m i n p =
    ap (λ xs. refill (length es) es (with_count xs i n)) p
    ∙ items-with_items (record { items = es }) (with_count es i n) (length-set es i (record { time = (get_or es i no_entry).time; count = n }))

pub record Raised (t : ℕ) (es new : List Entry) : Type 0 where
  pub grown : size new ≡ size es + 1
  pub order : rising new ≡ true
  pub means : times new ≡ insert t (times es)

pub raised : (t : ℕ) (es m : List Entry) (i : ℕ) → m ≡ es → i < length es → (get_or es i no_entry).time ≡ t → rising es ≡ true → Raised t es (refill (length es) es (with_count m i ((get_or m i no_entry).count + 1)))
raised t es m i p h e r =
    let n = (get_or es i no_entry).count + 1 in
    let w = ap (λ k. refill (length es) es (with_count m i k)) (ap (λ xs. (get_or xs i no_entry).count + 1) p) ∙ written es m i n p in
    record {
      grown = ap size w ∙ more_size es i h;
      order = ap rising w ∙ rising-count es i n (omega arith) r;
      means = ap times w ∙ more_times es i h ∙ ap (λ u. insert u (times es)) e;
    }

pub record Lowered (t : ℕ) (es new : List Entry) : Type 0 where
  pub shrunk : size new ≤ size es
  pub order : rising new ≡ true
  pub means : times new ≡ delete t (times es)

-- one lease more in what has one less gives the list back
put_back : (es : List Entry) (i n : ℕ) → i < length es → (get_or es i no_entry).count ≡ n + 1 → with_count (with_count es i n) i ((get_or (with_count es i n) i no_entry).count + 1) ≡ es
put_back es i n h c =
    let low : Entry = record { time = (get_or es i no_entry).time; count = n } in
    let one : Entry → Entry = λ x. record { time = x.time; count = x.count + 1 } in
    set-set es i low (one (get_or (set es i low) i no_entry))
    ∙ ap (λ x. set es i (one x)) (get_or-set_same es i low no_entry h)
    ∙ ap (λ k. set es i (record { time = (get_or es i no_entry).time; count = k })) (sym c)
    ∙ set-get_or es i no_entry

pub lowered : (t : ℕ) (es m : List Entry) (i : ℕ) → m ≡ es → i < length es → (get_or es i no_entry).time ≡ t → 1 < (get_or es i no_entry).count → rising es ≡ true → Lowered t es (refill (length es) es (with_count m i ((get_or m i no_entry).count - 1)))
lowered t es m i p h e c r =
    let n = (get_or es i no_entry).count - 1 in
    let ys = with_count es i n in
    let hy : i < length ys = omega (arith, length-set es i (record { time = (get_or es i no_entry).time; count = n })) in
    let back = put_back es i n h (omega arith) in
    let low : (get_or ys i no_entry).time ≡ t = ap (λ (x : Entry). x.time) (get_or-set_same es i (record { time = (get_or es i no_entry).time; count = n }) no_entry h) ∙ e in
    let b : times es ≡ insert t (times ys) = ap times (sym back) ∙ more_times ys i hy ∙ ap (λ u. insert u (times ys)) low in
    let z : size es ≡ size ys + 1 = ap size (sym back) ∙ more_size ys i hy in
    let w = ap (λ k. refill (length es) es (with_count m i k)) (ap (λ xs. (get_or xs i no_entry).count - 1) p) ∙ written es m i n p in
    record {
      shrunk = omega (arith, z, ap size w);
      order = ap rising w ∙ rising-count es i n (omega arith) r;
      means = ap times w ∙ sym (delete-insert t (times ys)) ∙ ap (delete t) (sym b);
    }
