-- What a walk sees: the first slot of a list, and the next one.
use Rattle.std.proofs.Common.{◌≡◌, ℕ, zero, suc, ◌<◌, ◌≤◌, true, List, [], ◌∷◌, length, get_or, set, Some, None, Option, sym, ap, ◌∙◌, subst, arith}
use Rattle.std.proofs.lemmas.List.{get_or_read, get_or-map, length-set, get_or-set_same, set-set}
use Rattle.links.specs.Walk.{walk, good}
use Rattle.links.specs.declared.table.Links.{Links}
use Rattle.links.specs.Meaning.{slots, size, from, Onto}
use Rattle.links.proofs.Linked.{run_walk, run_good, run_some, good_run}
use Rattle.links.proofs.Steps.{row_in}

pub walk_short : (nx : List (Option ℕ)) (f : ℕ) (o : Option ℕ) → length (walk nx f o) ≤ f
unfolding walk
walk_short nx zero o = omega arith
walk_short nx (suc f) None = omega arith
walk_short nx (suc f) (Some s) = omega (arith, walk_short nx f (get_or nx s None))

pub record Next (l : Links) (s : ℕ) (o : Option ℕ) : Type 0 where
  pub inside : s < size l
  pub onto : Onto l o
  pub list : from l (Some s) ≡ s ∷ from l o

pub next_in : (l : Links) (s : ℕ) → Onto l (Some s) → Next l s (get_or l.next.items s None)
unfolding Onto from size
next_in l s h =
    let nx : List (Option ℕ) = l.next.items in
    let r = good_run nx (length nx) (Some s) h in
    let q = run_some nx s (walk nx (length nx) (Some s)) r in
    let sh = walk_short nx (length nx) (Some s) in
    let e = ap length q.1 in
    let k : length q.0 ≤ length nx = omega arith in
    record {
      inside = q.2;
      onto = run_good nx (length nx) q.0 (get_or nx s None) q.3 k;
      list = q.1 ∙ ap (λ x. s ∷ x) (sym (run_walk nx (length nx) q.0 (get_or nx s None) q.3 k));
    }

pub next_read : (l : Links) (s : ℕ) (o : Option ℕ) → Onto l (Some s) → o ≡ get_or l.next.items s o → Next l s o
unfolding size
next_read l s o h e =
    let k = next_in l s h in
    let P : Option ℕ → Type 0 = λ x. Next l s x in
    subst P (sym (get_or_read l.next.items s o k.inside e None)) k

pub inside_in : (l : Links) (s : ℕ) → Onto l (Some s) → s < length l.next.items
unfolding size
inside_in l s h = (next_in l s h).inside

pub from_none : (l : Links) → from l None ≡ []
unfolding from
from_none l = run_walk l.next.items (length l.next.items) [] None tt (omega arith)

pub none_onto : (l : Links) → Onto l None
unfolding Onto
none_onto l = run_good l.next.items (length l.next.items) [] None tt (omega arith)

pub first-onto : (l : Links) (r : ℕ) (o : Option ℕ) → r < length (slots l) → o ≡ get_or l.heads.items r o → Onto l o
unfolding Onto
first-onto l r o h e =
    let k = row_in l r h in
    let m : suc r < length (l.free ∷ l.heads.items) = omega arith in
    let P : Option ℕ → Type 0 = λ x. good l.next.items (length l.next.items) x ≡ true in
    subst P (sym (get_or_read l.heads.items r o k e None)) (l.sound.0 (suc r) m)

pub first_list : (l : Links) (r : ℕ) (o : Option ℕ) → r < length (slots l) → o ≡ get_or l.heads.items r o → from l o ≡ get_or (slots l) r []
unfolding from slots
first_list l r o h e =
    let k = row_in l r h in
    ap (walk l.next.items (length l.next.items)) (get_or_read l.heads.items r o k e None) ∙ sym (get_or-map (walk l.next.items (length l.next.items)) l.heads.items r None [] k)

-- one list of E is written twice
pub set_again : {X : Type 0} (E W V : List (List X)) (r : ℕ) (D : List X) → r < length E → W ≡ set E r (get_or W r []) → V ≡ set W r D → (V ≡ set E r (get_or V r [])) × (get_or V r [] ≡ D)
set_again E W V r D l ew ev =
    let lw : length W ≡ length E = ap length ew ∙ length-set E r (get_or W r []) in
    let lr : r < length W = omega arith in
    let g : get_or V r [] ≡ D = ap (λ x. get_or x r []) ev ∙ get_or-set_same W r D [] lr in
    let s : set W r D ≡ set E r D = ap (λ x. set x r D) ew ∙ set-set E r (get_or W r []) D in
    (ev ∙ s ∙ ap (λ x. set E r x) (sym g), g)
