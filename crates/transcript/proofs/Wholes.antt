-- A whole transcript, from its first line on.
use Rattle.std.proofs.Common.{◌≡◌, ℕ, ◌+◌, ◌≤◌, Bool, true, false, cond, eqb, List, [], ◌∷◌, length, None, Ok, sym, ap, ◌∙◌, subst, arith}
use Rattle.std.proofs.lemmas.Bool.{le-ltb}
use Rattle.fields.specs.Laws.{fields_laws}
use Rattle.tallies.specs.Laws.{tallies_laws}
use Rattle.store.specs.Making.{refused_sizes}
use Rattle.script.specs.Kinds.{fields_terms, tallies_terms}
use Rattle.script.specs.Lines.{onto, rows, lines, lines_left}
use Rattle.script.specs.Openings.{opening}
use Rattle.script.specs.declared.opening.KindLetter.{KindLetter}
use Rattle.script.specs.declared.opening.KindLetter.TheVariants.{F, T}
use Rattle.script.specs.declared.opening.RegistryLetter.{RegistryLetter}
use Rattle.script.specs.declared.opening.Opening.{Opening}
use Rattle.script.specs.declared.reader.Reader.{Reader}
use Rattle.transcript.specs.Printing.{left}
use Rattle.transcript.specs.Transcripts.{capacity_of, RanBy, Made, Begun, AllLines, Short, Transcript, print_by}
use Rattle.transcript.proofs.Telling.{ran}

ran_by : (kd : KindLetter) (r : RegistryLetter) (n v start : ℕ) (ls : List (List ℕ)) (text : List ℕ) → text ≡ print_by kd r 2 n v start ls → RanBy kd (capacity_of r) n v start ls text
ran_by F r n v start ls text e = ran fields_laws fields_terms (capacity_of r) n v start ls text e
ran_by T r n v start ls text e = ran tallies_laws tallies_terms (capacity_of r) n v start ls text e

-- a first line that is accepted, and a store that may be made
pub begun : (l : List ℕ) (o : Opening) (k n v start : ℕ) (ls : List (List ℕ)) (text : List ℕ) → Ok o ≡ opening l → refused_sizes o.records o.versions o.start ≡ None →
    n ≡ o.records → v ≡ o.versions → start ≡ o.start → k ≡ 1 → text ≡ print_by o.kind o.registry (k + 1) n v start ls → Begun (opening l) ls text
begun l o k n v start ls text e none en ev es ek w =
    let exact : text ≡ print_by o.kind o.registry 2 o.records o.versions o.start ls =
    w ∙ ap (λ x. print_by o.kind o.registry (x + 1) n v start ls) ek ∙ ap (λ x. print_by o.kind o.registry 2 x v start ls) en
    ∙ ap (λ x. print_by o.kind o.registry 2 o.records x start ls) ev ∙ ap (λ x. print_by o.kind o.registry 2 o.records o.versions x ls) es in
    let run = ran_by o.kind o.registry o.records o.versions o.start ls text exact in
    let may : Made (refused_sizes o.records o.versions o.start) o ls text = subst (λ x. Made x o ls text) (sym none) run in
    subst (λ x. Begun x ls text) e may

-- a script has a line
onto_some : (c : ℕ) (ls : List (List ℕ)) → onto c ls ≡ [] → ⊥
onto_some c [] e = let z : ◌≡◌ {A = ℕ} 0 1 = cc in absurd (omega arith)
onto_some c (l ∷ ls) e = let z : ◌≡◌ {A = ℕ} 0 1 = cc in absurd (omega arith)

rows_some : (b : Bool) (c : ℕ) (cs : List ℕ) → cond b ([] ∷ rows cs) (onto c (rows cs)) ≡ [] → ⊥
rows_some true c cs e = let z : ◌≡◌ {A = ℕ} 0 1 = cc in absurd (omega arith)
rows_some false c cs e = onto_some c (rows cs) e

lines_some : (bs : List ℕ) → lines bs ≡ [] → ⊥
lines_some [] e = let z : ◌≡◌ {A = ℕ} 0 1 = cc in absurd (omega arith)
lines_some (c ∷ cs) e = rows_some (eqb c 10) c cs e

all_lines : (bs bs' : List ℕ) (a n : ℕ) → bs' ≡ bs → a ≡ 0 → n ≡ 0 → lines_left bs' a n ≡ lines bs
unfolding lines_left
all_lines bs bs' a n e z y = ap (λ x. lines_left x a n) e ∙ ap (λ x. lines_left bs x n) z ∙ ap (λ x. lines_left bs 0 x) y

module _ (bs : List ℕ) (short : length bs ≤ 65536) (bs' : List ℕ) (a n : ℕ) (same : bs' ≡ bs) (start : a ≡ 0) (none : n ≡ 0) where
  pub from_first : (l : List ℕ) (r : Reader) (text : List ℕ) → lines_left bs' a n ≡ l ∷ lines_left r.bytes.now r.at r.line → Begun (opening l) (left r) text → Transcript bs text
  unfolding left
  from_first l r text at-l begun =
      let ls : l ∷ left r ≡ lines bs = sym at-l ∙ all_lines bs bs' a n same start none in
      subst (λ b. Short b bs text) (sym (le-ltb 65536 (length bs) short)) (subst (λ x. AllLines x text) ls begun)

  pub never_none : (text : List ℕ) → lines_left bs' a n ≡ [] → Transcript bs text
  never_none text e = absurd (lines_some bs (sym (all_lines bs bs' a n same start none) ∙ e))
