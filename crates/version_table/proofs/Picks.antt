-- What a table of versions holds at the slots of a list, and what moving, adding and writing slots make of it.
use Rattle.std.proofs.Common.{◌≡◌, ℕ, zero, suc, ◌+◌, ◌<◌, ◌≤◌, Bool, true, false, ◌&&◌, ltb, ◌≢◌, List, [], ◌∷◌, ◌++◌, map, length, get_or, take, drop, set, replicate, Some, None, sum_by, Option, sym, refl, ap, ◌∙◌, subst, ⊎_elim, arith}
use Rattle.std.proofs.lemmas.Bool.{cases_lt, lt-ltb, le-ltb, ltb-true}
use Rattle.std.specs.List.{slice_get}
use Rattle.std.proofs.lemmas.List.{get_or-map, get_or_past, length-map, length-set, get_or-set_same, set-set, set-get_or, map-set}
use Rattle.std.proofs.lemmas.List.Sums.{sum_by-cons, sum_by-set, get_or-le-sum_by}
use Rattle.std.proofs.lemmas.Option.{slice_get-get_or, slice_get_read}
use Rattle.links.specs.Walk.{walk, count, walks}
use Rattle.links.specs.declared.table.Links.{Links}
use Rattle.version_table.specs.declared.table.VersionTable.{VersionTable}
use Rattle.chain.specs.declared.version.Version.{Version}
use Rattle.links.specs.Meaning.{slots, size, from}
use Rattle.version_table.specs.Chains.{pick, onto, chains}
use Rattle.links.proofs.Linked.{Run, good_run, count-cons, count-cons_other, count-cons_same, count-nil}
use Rattle.links.proofs.Steps.{row_in}
use Rattle.links.proofs.Ways.{from_none}

pub slice_get-set_other : {X : Type 0} (vs : List X) (i j : ℕ) (x : X) → j ≢ i → slice_get (set vs i x) j ≡ slice_get vs j
slice_get-set_other [] i j x ne = refl
slice_get-set_other (v ∷ vs) zero zero x ne = absurd (ne refl)
slice_get-set_other (v ∷ vs) zero (suc j) x ne = refl
slice_get-set_other (v ∷ vs) (suc i) zero x ne = refl
slice_get-set_other (v ∷ vs) (suc i) (suc j) x ne = slice_get-set_other vs i j x (λ e. ne (ap suc e))

pub slice_get-set_same : {X : Type 0} (vs : List X) (i : ℕ) (x : X) → i < length vs → slice_get (set vs i x) i ≡ Some x
slice_get-set_same vs i x l =
    let k : i < length (set vs i x) = rw length-set l in
    slice_get-get_or (set vs i x) i x k ∙ ap (λ y. Some y) (get_or-set_same vs i x x l)

-- a write to a slot that is not in the list
pub pick_frame : {X : Type 0} (vs : List X) (i : ℕ) (x : X) (L : List ℕ) → count i L ≡ 0 → pick (set vs i x) L ≡ pick vs L
unfolding pick
pick_frame vs i x [] c = refl
pick_frame vs i x (s ∷ L) c =
    let d = count-cons_other i s L c in
    let a = slice_get-set_other vs i s x d.0 in
    let b = pick_frame vs i x L d.1 in
    cc

pub pick_at : {X : Type 0} (vs : List X) (s : ℕ) (x : X) (L : List ℕ) → slice_get vs s ≡ Some x → pick vs (s ∷ L) ≡ x ∷ pick vs L
unfolding pick onto
pick_at vs s x L e = ap (λ o. onto o (pick vs L)) e

pub pick_read : {X : Type 0} (vs : List X) (s : ℕ) (x : X) (L : List ℕ) → s < length vs → x ≡ get_or vs s x → pick vs (s ∷ L) ≡ x ∷ pick vs L
pick_read vs s x L l e = pick_at vs s x L (slice_get_read vs (length vs) s x refl l e)

pub pick-nil : {X : Type 0} (vs : List X) → pick vs [] ≡ []
unfolding pick
pick-nil vs = refl

pub picks_frame : {X : Type 0} (vs : List X) (i : ℕ) (x : X) (ls : List (List ℕ)) → sum_by (count i) ls ≡ 0 → map (pick (set vs i x)) ls ≡ map (pick vs) ls
picks_frame vs i x [] c = refl
picks_frame vs i x (L ∷ ls) c =
    let s = sum_by-cons (count i) L ls in
    let z : count i L ≡ 0 = omega arith in
    let y : sum_by (count i) ls ≡ 0 = omega arith in
    let a = pick_frame vs i x L z in
    let b = picks_frame vs i x ls y in
    cc

pub get_or_over : {X Y : Type 0} (f : List X → List Y) → f [] ≡ [] → (ls : List (List X)) (r : ℕ) → get_or (map f ls) r [] ≡ f (get_or ls r [])
get_or_over f z [] r = sym z
get_or_over f z (L ∷ ls) zero = refl
get_or_over f z (L ∷ ls) (suc r) = get_or_over f z ls r

-- a slot that was in no list comes to the front of the list r, with x
pub pushed : {X : Type 0} (vs : List X) (s : ℕ) (x : X) (ls ms : List (List ℕ)) (r : ℕ) → sum_by (count s) ls ≡ 0 → s < length vs → r < length ls → ms ≡ set ls r (s ∷ get_or ls r []) → map (pick (set vs s x)) ms ≡ set (map (pick vs) ls) r (x ∷ get_or (map (pick vs) ls) r [])
pushed vs s x ls ms r z l lr e =
    let k = get_or-le-sum_by (count s) ls r [] lr in
    let z2 : count s (get_or ls r []) ≡ 0 = omega arith in
    let a : map (pick (set vs s x)) ms ≡ map (pick (set vs s x)) (set ls r (s ∷ get_or ls r [])) = ap (map (pick (set vs s x))) e in
    let b = map-set (pick (set vs s x)) ls r (s ∷ get_or ls r []) in
    let c = picks_frame vs s x ls z in
    let d = pick_at (set vs s x) s x (get_or ls r []) (slice_get-set_same vs s x l) in
    let f = pick_frame vs s x (get_or ls r []) z2 in
    let h : get_or (map (pick vs) ls) r [] ≡ pick vs (get_or ls r []) = get_or-map (pick vs) ls r [] [] lr in
    cc

-- the front slot of the list r leaves it
pub popped : {X : Type 0} (vs : List X) (s : ℕ) (x : X) (ls ms : List (List ℕ)) (r : ℕ) → s < length vs → x ≡ get_or vs s x → get_or ls r [] ≡ s ∷ drop 1 (get_or ls r []) → ms ≡ set ls r (drop 1 (get_or ls r [])) → (map (pick vs) ms ≡ set (map (pick vs) ls) r (drop 1 (get_or (map (pick vs) ls) r []))) × (get_or (map (pick vs) ls) r [] ≡ x ∷ drop 1 (get_or (map (pick vs) ls) r []))
popped vs s x ls ms r l ex ef em =
    let h : get_or (map (pick vs) ls) r [] ≡ pick vs (get_or ls r []) = get_or_over (pick vs) (pick-nil vs) ls r in
    let a : get_or (map (pick vs) ls) r [] ≡ x ∷ pick vs (drop 1 (get_or ls r [])) = h ∙ ap (pick vs) ef ∙ pick_read vs s x (drop 1 (get_or ls r [])) l ex in
    let b : drop 1 (get_or (map (pick vs) ls) r []) ≡ pick vs (drop 1 (get_or ls r [])) = ap (drop 1) a in (
      ap (map (pick vs)) em ∙ map-set (pick vs) ls r (drop 1 (get_or ls r [])) ∙ ap (λ y. set (map (pick vs) ls) r y) (sym b),
      a ∙ ap (λ y. x ∷ y) (sym b),
    )

-- what a slot of the list r holds is written
pub replaced : {X : Type 0} (vs : List X) (s : ℕ) (x : X) (ls : List (List ℕ)) (r : ℕ) → r < length ls → sum_by (count s) ls ≤ 1 → 1 ≤ count s (get_or ls r []) → map (pick (set vs s x)) ls ≡ set (map (pick vs) ls) r (pick (set vs s x) (get_or ls r []))
replaced vs s x ls r lr once here =
    let L : List ℕ = get_or ls r [] in
    let a = sum_by-set (count s) ls r [] [] lr in
    let z : sum_by (count s) (set ls r []) ≡ 0 = omega (arith, a, here, once, count-nil s) in
    let b = picks_frame vs s x (set ls r []) z in
    let back : set (set ls r []) r L ≡ ls = set-set ls r [] L ∙ set-get_or ls r [] in
    let p : map (pick (set vs s x)) ls ≡ set (map (pick (set vs s x)) (set ls r [])) r (pick (set vs s x) L) = ap (map (pick (set vs s x))) (sym back) ∙ map-set (pick (set vs s x)) (set ls r []) r L in
    let q : map (pick vs) (set ls r []) ≡ set (map (pick vs) ls) r (pick vs []) = map-set (pick vs) ls r [] in
    p ∙ ap (λ y. set y r (pick (set vs s x) L)) (b ∙ q) ∙ set-set (map (pick vs) ls) r (pick vs []) (pick (set vs s x) L)

pub pick_le : {X : Type 0} (vs : List X) (A : List ℕ) → length (pick vs A) ≤ length A
unfolding pick onto
pick_le vs [] = omega arith
pick_le {X} vs (a ∷ A) = go (slice_get vs a) (pick_le vs A)
  where
    go : (o : Option X) → length (pick vs A) ≤ length A → length (onto o (pick vs A)) ≤ suc (length A)
    go None h = omega arith
    go (Some x) h = omega arith

pub count-slice_get : (L : List ℕ) (k s : ℕ) → slice_get L k ≡ Some s → 1 ≤ count s L
count-slice_get [] k s e = let z : ◌≡◌ {A = ℕ} 0 1 = cc in let f : ⊥ = omega arith in absurd f
count-slice_get (y ∷ L) zero s e = let q : s ≡ y = cc in let P : ℕ → Type 0 = λ n. 1 ≤ count n (y ∷ L) in subst P (sym q) (omega (arith, count-cons_same y L))
count-slice_get (y ∷ L) (suc k) s e = omega (arith, count-slice_get L k s e, count-cons s y L)

module _ {X : Type 0} (vs : List X) where
  -- the k-th slot of a list, and what it holds
  pub slice_get-pick : (L : List ℕ) (k s : ℕ) → length (pick vs L) ≡ length L → slice_get L k ≡ Some s → slice_get (pick vs L) k ≡ slice_get vs s
  unfolding pick onto
  slice_get-pick [] k s e n = let z : ◌≡◌ {A = ℕ} 0 1 = cc in let f : ⊥ = omega arith in absurd f
  slice_get-pick (y ∷ L) k s e n = go (slice_get vs y) k refl e n (λ j f m. slice_get-pick L j s f m)
    where
      go : (o : Option X) (j : ℕ) → slice_get vs y ≡ o → length (onto o (pick vs L)) ≡ suc (length L) → slice_get (y ∷ L) j ≡ Some s → ((i : ℕ) → length (pick vs L) ≡ length L → slice_get L i ≡ Some s → slice_get (pick vs L) i ≡ slice_get vs s) → slice_get (onto o (pick vs L)) j ≡ slice_get vs s
      go None j q f m ih = let x : ⊥ = omega (arith, pick_le vs L) in absurd x
      go (Some w) zero q f m ih = let t : y ≡ s = cc in sym q ∙ ap (slice_get vs) t
      go (Some w) (suc j) q f m ih = ih j (omega arith) m

  -- a write to the k-th slot of a list that has it once
  pub pick_write : (L : List ℕ) (k s : ℕ) (x : X) → s < length vs → length (pick vs L) ≡ length L → count s L ≤ 1 → slice_get L k ≡ Some s → pick (set vs s x) L ≡ set (pick vs L) k x
  unfolding pick onto
  pick_write [] k s x l e c n = let z : ◌≡◌ {A = ℕ} 0 1 = cc in let f : ⊥ = omega arith in absurd f
  pick_write (y ∷ L) k s x l e c n = go (slice_get vs y) k refl e n (λ j f d m. pick_write L j s x l f d m)
    where
      rest : (o : Option X) (j : ℕ) → slice_get vs y ≡ o → slice_get L j ≡ Some s → (slice_get (set vs s x) y ≡ o)
      rest o j q m =
          let h = count-slice_get L j s m in
          let ne : y ≢ s = λ t. let P : ℕ → Type 0 = λ i. count i (y ∷ L) ≤ 1 in let d : count y (y ∷ L) ≤ 1 = subst P (sym t) c in let P2 : ℕ → Type 0 = λ i. 1 ≤ count i L in let h2 : 1 ≤ count y L = subst P2 (sym t) h in omega (arith, count-cons_same y L) in
          slice_get-set_other vs s y x ne ∙ q

      go : (o : Option X) (j : ℕ) → slice_get vs y ≡ o → length (onto o (pick vs L)) ≡ suc (length L) → slice_get (y ∷ L) j ≡ Some s → ((i : ℕ) → length (pick vs L) ≡ length L → count s L ≤ 1 → slice_get L i ≡ Some s → pick (set vs s x) L ≡ set (pick vs L) i x) → onto (slice_get (set vs s x) y) (pick (set vs s x) L) ≡ set (onto o (pick vs L)) j x
      go None j q f m ih = let w : ⊥ = omega (arith, pick_le vs L) in absurd w
      go (Some w) zero q f m ih =
          let t : y ≡ s = cc in
          let P : ℕ → Type 0 = λ i. count i (y ∷ L) ≤ 1 in
          let d : count y (y ∷ L) ≤ 1 = subst P (sym t) c in
          let z : count y L ≡ 0 = omega (arith, count-cons_same y L) in
          let P2 : ℕ → Type 0 = λ i. count i L ≡ 0 in
          let zs : count s L ≡ 0 = subst P2 t z in
          let here : slice_get (set vs s x) y ≡ Some x = ap (slice_get (set vs s x)) t ∙ slice_get-set_same vs s x l in
          ap (λ o. onto o (pick (set vs s x) L)) here ∙ ap (λ M. x ∷ M) (pick_frame vs s x L zs)
      go (Some w) (suc j) q f m ih =
          ap (λ o. onto o (pick (set vs s x) L)) (rest (Some w) j q m) ∙ ap (λ M. w ∷ M) (ih j (omega arith) (omega (arith, c, count-cons s y L)) m)

pub run_pick : {X : Type 0} (vs : List X) (nx : List (Option ℕ)) (L : List ℕ) (o : Option ℕ) → length vs ≡ length nx → Run nx o L → length (pick vs L) ≡ length L
unfolding pick onto
run_pick vs nx [] None e r = refl
run_pick vs nx [] (Some s) e r = refl
run_pick vs nx (x ∷ L) None e r = absurd r
run_pick {X} vs nx (x ∷ L) (Some s) e r = pick-length vs x L (omega (arith, r.0, r.1)) ∙ ap suc (run_pick vs nx L (get_or nx s None) e r.2)
  where
    pick-length : (ws : List X) (y : ℕ) (M : List ℕ) → y < length ws → length (pick ws (y ∷ M)) ≡ suc (length (pick ws M))
    pick-length [] y M l = let f : ⊥ = omega arith in absurd f
    pick-length (w ∷ ws) y M l = ap (λ o. length (onto o (pick (w ∷ ws) M))) (slice_get-get_or (w ∷ ws) y w l)

pub sum_picks : {X : Type 0} (vs : List X) (ls : List (List ℕ)) → ((k : ℕ) → k < length ls → length (pick vs (get_or ls k [])) ≡ length (get_or ls k [])) → sum_by length (map (pick vs) ls) ≡ sum_by length ls
sum_picks vs [] h = refl
sum_picks vs (L ∷ ls) h =
    let a = sum_by-cons length (pick vs L) (map (pick vs) ls) in
    let b = sum_by-cons length L ls in
    let c = h 0 (omega arith) in
    let d = sum_picks vs ls (λ k l. h (suc k) (omega arith)) in
    omega (arith, a, b, c, d)

pub slots_once : (l : Links) (x : ℕ) → sum_by (count x) (slots l) ≤ 1
unfolding slots
slots_once l x = omega (arith, l.sound.1 x, sum_by-cons (count x) (walk l.next.items (length l.next.items) l.free) (walks l.next.items l.heads.items))

row_len : {C : Type 0} (k : VersionTable C) (r : ℕ) → r < length (slots k.links) → length (pick k.versions.items (get_or (slots k.links) r [])) ≡ length (get_or (slots k.links) r [])
unfolding slots size
row_len k r h =
    let l : Links = k.links in
    let nx : List (Option ℕ) = l.next.items in
    let lr : r < length l.heads.items = row_in l r h in
    let m : suc r < length (l.free ∷ l.heads.items) = omega arith in
    let w = get_or-map (walk nx (length nx)) l.heads.items r None [] lr in
    let P : List ℕ → Type 0 = λ L. length (pick k.versions.items L) ≡ length L in
    subst P (sym w) (run_pick k.versions.items nx (walk nx (length nx) (get_or l.heads.items r None)) (get_or l.heads.items r None) k.sized (good_run nx (length nx) (get_or l.heads.items r None) (l.sound.0 (suc r) m)))

pub slot_len : {C : Type 0} (k : VersionTable C) (r : ℕ) → length (pick k.versions.items (get_or (slots k.links) r [])) ≡ length (get_or (slots k.links) r [])
slot_len k r = ⊎_elim (row_len k r) (λ (h : length (slots k.links) ≤ r). let e = get_or_past (slots k.links) r [] h in ap (λ L. length (pick k.versions.items L)) e ∙ ap length (pick-nil k.versions.items) ∙ sym (ap length e)) (cases_lt r (length (slots k.links)))

pub chains_sum : {C : Type 0} (k : VersionTable C) → sum_by length (chains k) ≡ sum_by length (slots k.links)
unfolding chains
chains_sum k = sum_picks k.versions.items (slots k.links) (λ r h. slot_len k r)

pub chains-rows : {C : Type 0} (k : VersionTable C) → length (chains k) ≡ length (slots k.links)
unfolding chains
chains-rows k = length-map (slots k.links) (pick k.versions.items)

-- out of range, no version and no slot
pub chain_is : {C : Type 0} (k : VersionTable C) (r : ℕ) → get_or (chains k) r [] ≡ pick k.versions.items (get_or (slots k.links) r [])
unfolding chains
chain_is k r = get_or_over (pick k.versions.items) (pick-nil k.versions.items) (slots k.links) r

pub chain_len : {C : Type 0} (k : VersionTable C) (r : ℕ) → length (get_or (chains k) r []) ≡ length (get_or (slots k.links) r [])
chain_len k r = ap length (chain_is k r) ∙ slot_len k r

-- one more slot in the list r
pub sum_more : (ls ms : List (List ℕ)) (s r : ℕ) → r < length ls → ms ≡ set ls r (s ∷ get_or ls r []) → sum_by length ms ≡ sum_by length ls + 1
sum_more ls ms s r l e =
    let a = sum_by-set length ls r (s ∷ get_or ls r []) [] l in
    let b = ap (sum_by length) e in
    omega (arith, a, b)

pub row_empty : {X : Type 0} (vs : List X) (ls : List (List ℕ)) (r : ℕ) → get_or ls r [] ≡ [] → get_or (map (pick vs) ls) r [] ≡ []
row_empty vs ls r e = get_or_over (pick vs) (pick-nil vs) ls r ∙ ap (pick vs) e ∙ pick-nil vs

pub inside_versions : {C : Type 0} (k : VersionTable C) (s : ℕ) → s < size k.links → s < length k.versions.items
inside_versions k s h = omega (arith, h, k.sized)

pub fresh_chains : {X : Type 0} (vs : List X) (n : ℕ) (ls : List (List ℕ)) → ls ≡ replicate n [] → map (pick vs) ls ≡ replicate n []
fresh_chains vs n ls e = ap (map (pick vs)) e ∙ go n
  where
    go : (m : ℕ) → map (pick vs) (replicate m []) ≡ replicate m []
    go zero = refl
    go (suc m) = let a = pick-nil vs in let b = go m in cc

-- what a cursor at the slot s sees
pub cursor : {C : Type 0} (k : VersionTable C) (s : ℕ) (at o : Option ℕ) (v : Version C) → at ≡ Some s → from k.links (Some s) ≡ s ∷ from k.links o → s < size k.links → v ≡ get_or k.versions.items s v → pick k.versions.items (from k.links at) ≡ v ∷ pick k.versions.items (from k.links o)
cursor k s at o v ea ef l ev = ap (λ x. pick k.versions.items (from k.links x)) ea ∙ ap (pick k.versions.items) ef ∙ pick_read k.versions.items s v (from k.links o) (inside_versions k s l) ev

pub cursor_end : {C : Type 0} (k : VersionTable C) (at : Option ℕ) → at ≡ None → pick k.versions.items (from k.links at) ≡ []
cursor_end k at e = ap (λ x. pick k.versions.items (from k.links x)) e ∙ ap (pick k.versions.items) (from_none k.links) ∙ pick-nil k.versions.items

-- what a push answers
pub push_refused : (r n s m : ℕ) → (r < n → s ≡ m) → false ≡ (ltb r n && ltb s m)
push_refused r n s m h = go (ltb r n) refl
  where
    go : (b : Bool) → ltb r n ≡ b → false ≡ (b && ltb s m)
    go true e = sym (le-ltb s m (omega (arith, h (ltb-true r n e))))
    go false e = refl

pub push_done : (r n s m : ℕ) → r < n → s < m → true ≡ (ltb r n && ltb s m)
push_done r n s m h l = sym (ap (λ b. b && ltb s m) (lt-ltb r n h) ∙ lt-ltb s m l)

pub pick-append : {X : Type 0} (vs : List X) (A B : List ℕ) → pick vs (A ++ B) ≡ pick vs A ++ pick vs B
unfolding pick onto
pick-append vs [] B = refl
pick-append vs (a ∷ A) B = ap (onto (slice_get vs a)) (pick-append vs A B) ∙ onto-append (slice_get vs a) (pick vs A) (pick vs B)
  where
    onto-append : {X : Type 0} (o : Option X) (L M : List X) → onto o (L ++ M) ≡ onto o L ++ M
    onto-append None L M = refl
    onto-append (Some x) L M = refl

pub pick-take : {X : Type 0} (vs : List X) (A : List ℕ) (k : ℕ) → length (pick vs A) ≡ length A → (pick vs (take k A) ≡ take k (pick vs A)) × (pick vs (drop k A) ≡ drop k (pick vs A))
unfolding pick onto
pick-take vs [] zero e = (refl, refl)
pick-take vs [] (suc k) e = (refl, refl)
pick-take vs (a ∷ A) zero e = (refl, refl)
pick-take {X} vs (a ∷ A) (suc k) e = go (slice_get vs a) e (pick-take vs A k)
  where
    go : (o : Option X) → length (onto o (pick vs A)) ≡ suc (length A) → (length (pick vs A) ≡ length A → (pick vs (take k A) ≡ take k (pick vs A)) × (pick vs (drop k A) ≡ drop k (pick vs A))) → (onto o (pick vs (take k A)) ≡ take (suc k) (onto o (pick vs A))) × (pick vs (drop k A) ≡ drop (suc k) (onto o (pick vs A)))
    go None f i = let x : ⊥ = omega (arith, pick_le vs A) in absurd x
    go (Some x) f i = let j = i (omega arith) in (ap (λ y. x ∷ y) j.0, j.1)
