-- A place in a chain: what is read there, and what a write and a cut make.
use Rattle.std.proofs.Common.{◌≡◌, ℕ, zero, suc, ◌+◌, ◌<◌, ◌≤◌, List, [], ◌∷◌, ◌++◌, map, length, get_or, take, drop, set, Some, None, Option, sym, refl, ap, ◌∙◌, arith, MatchOption}
use Rattle.std.specs.List.{slice_get}
use Rattle.std.proofs.lemmas.List.{map-set, set-get_or}
use Rattle.std.proofs.lemmas.List.Sums.{get_or-le-sum_by}
use Rattle.std.proofs.lemmas.Option.{slice_get_read, slice_get_past}
use Rattle.chain.specs.declared.version.Version.{Version}
use Rattle.links.specs.Walk.{count}
use Rattle.links.specs.Meaning.{slots, size, list}
use Rattle.links.proofs.Places.{slice_get_inside, slice_get_end, row_of, place_in}
use Rattle.version_table.specs.declared.table.VersionTable.{VersionTable}
use Rattle.version_table.specs.Chains.{pick, chains, chain}
use Rattle.version_table.proofs.Picks.{chain_is, chain_len, slot_len, slots_once, slice_get-pick, pick_write, replaced, count-slice_get, pick-append, pick-take}

module _ {C : Type 0} (t : VersionTable C) (r k s : ℕ) (e : slice_get (get_or (slots t.links) r []) k ≡ Some s) where
  pub slot_in : s < length t.versions.items
  unfolding size
  slot_in = omega (arith, place_in t.links r k s e, t.sized)

  -- what the slot holds stands at that place of the chain
  pub looked : (v : Version C) → v ≡ get_or t.versions.items s v → Some v ≡ slice_get (get_or (chains t) r []) k
  looked v ev =
      let vs = t.versions.items in
      sym (ap (λ L. slice_get L k) (chain_is t r) ∙ slice_get-pick vs (get_or (slots t.links) r []) k s (slot_len t r) e ∙ slice_get_read vs (length vs) s v refl slot_in ev)

  pub written : (x : Version C) → map (pick (set t.versions.items s x)) (slots t.links) ≡ set (chains t) r (set (get_or (chains t) r []) k x)
  unfolding chains
  written x =
      let vs = t.versions.items in
      let ls = slots t.links in
      let L = get_or ls r [] in
      let lr = row_of ls r k s e in
      let here = count-slice_get L k s e in
      let once = slots_once t.links s in
      replaced vs s x ls r lr once here
      ∙ ap (set (map (pick vs) ls) r) (pick_write vs L k s x slot_in (slot_len t r) (omega (arith, once, get_or-le-sum_by (count s) ls r [] lr)) e ∙ ap (λ M. set M k x) (sym (chain_is t r)))

-- past the end of a chain there is nothing
pub looked_past : {C : Type 0} (t : VersionTable C) (r k : ℕ) → slice_get (get_or (slots t.links) r []) k ≡ None → None ≡ slice_get (get_or (chains t) r []) k
looked_past t r k e = sym (slice_get_past (chain t r) k (omega (arith, chain_len t r, slice_get_end (list t.links r) k e)))

pub written_past : {C : Type 0} (t : VersionTable C) (r k : ℕ) (x : Version C) → slice_get (get_or (slots t.links) r []) k ≡ None → chains t ≡ set (chains t) r (set (get_or (chains t) r []) k x)
written_past t r k x e =
    let h : length (get_or (chains t) r []) ≤ k = omega (arith, chain_len t r, slice_get_end (get_or (slots t.links) r []) k e) in
    sym (ap (set (chains t) r) (set_past (get_or (chains t) r []) k x h) ∙ set-get_or (chains t) r [])
  where
    set_past : {X : Type 0} (xs : List X) (i : ℕ) (y : X) → length xs ≤ i → set xs i y ≡ xs
    set_past [] i y h = refl
    set_past (x ∷ xs) zero y h = let f : ⊥ = omega arith in absurd f
    set_past (x ∷ xs) (suc i) y h = ap (λ zs. x ∷ zs) (set_past xs i y (omega arith))

-- the place k leaves the list of slots, and so the chain
pub chain_cut : {C : Type 0} (t : VersionTable C) (r k : ℕ) (ms : List (List ℕ)) → ms ≡ set (slots t.links) r (take k (list t.links r) ++ drop (k + 1) (list t.links r)) → map (pick t.versions.items) ms ≡ set (chains t) r (take k (chain t r) ++ drop (k + 1) (chain t r))
unfolding chains
chain_cut t r k ms e =
    let vs = t.versions.items in
    let ls = slots t.links in
    let L = get_or ls r [] in
    let a = pick-take vs L k (slot_len t r) in
    let b = pick-take vs L (k + 1) (slot_len t r) in
    ap (map (pick vs)) e
    ∙ map-set (pick vs) ls r (take k L ++ drop (k + 1) L)
    ∙ ap (set (map (pick vs) ls) r) (pick-append vs (take k L) (drop (k + 1) L) ∙ (λ i. a.0 i ++ b.1 i) ∙ ap (λ M. take k M ++ drop (k + 1) M) (sym (chain_is t r)))

-- a place of the chain is one of the list of slots
pub inside_list : {C : Type 0} (t : VersionTable C) (r k : ℕ) → k < length (chain t r) → k < length (list t.links r)
inside_list t r k h = omega (arith, chain_len t r)

-- a slot stands at the place k, so a version does; and none does behind the last slot
pub slot_inside : {C : Type 0} (t : VersionTable C) (r k s : ℕ) → Some s ≡ slice_get (list t.links r) k → k < length (chain t r)
slot_inside t r k s e = omega (arith, chain_len t r, slice_get_inside (list t.links r) k s (sym e))

pub slots_end : {C : Type 0} (t : VersionTable C) (r k : ℕ) → None ≡ slice_get (list t.links r) k → length (chain t r) ≤ k
slots_end t r k e = omega (arith, chain_len t r, slice_get_end (list t.links r) k (sym e))

-- the front of a chain
pub front_is : {X : Type 0} (xs : List X) (o : Option X) → o ≡ slice_get xs 0 → MatchOption o (xs ≡ []) (λ x. xs ≡ x ∷ drop 1 xs)
front_is [] None e = refl
front_is [] (Some y) e = let z : ◌≡◌ {A = ℕ} 0 1 = cc in let f : ⊥ = omega arith in absurd f
front_is (x ∷ xs) None e = let z : ◌≡◌ {A = ℕ} 0 1 = cc in let f : ⊥ = omega arith in absurd f
front_is (x ∷ xs) (Some y) e = let q : x ≡ y = cc in ap (λ z. z ∷ xs) q
