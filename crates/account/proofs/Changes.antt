-- One change more.
use Rattle.std.proofs.Common.{◌≡◌, ℕ, suc, ◌+◌, ◌<◌, List, ◌∷◌, length, get_or, drop, Some, None, sym, ap, ◌∙◌, add-one, drop-cons}
use Rattle.kind.specs.Kinds.{Ops}
use Rattle.history.specs.declared.fault.StoreFault.{StoreFault}
use Rattle.history.specs.Model.{Model, refused_change, changed}
use Rattle.account.specs.Calls.{change_each, or_go_on, made}
use Rattle.account.specs.declared.calls.RecordEdit.{RecordEdit}

module _ {Row Edit Change : Type 0} (k : Ops Row Edit Change) where
  each_next : (m : Model Row Change) (ls : List ℕ) (w : ℕ) (es : List (RecordEdit Edit)) (i : ℕ) (e : RecordEdit Edit) → i < length es → e ≡ get_or es i e →
      change_each k m ls w (drop i es) ≡ or_go_on (refused_change k m ls w e.«record») m (change_each k (changed k m w e.«record» e.edit) ls w (drop (i + 1) es))
  each_next m ls w es i e h p =
      let cut : drop i es ≡ get_or es i e ∷ drop (suc i) es = drop-cons es i e h in
      let here : get_or es i e ∷ drop (suc i) es ≡ e ∷ drop (i + 1) es = ap (λ y. y ∷ drop (suc i) es) (sym p) ∙ ap (λ n. e ∷ drop n es) (sym (add-one i)) in
      ap (change_each k m ls w) (cut ∙ here)

  pub one_made : (m m' : Model Row Change) (ls : List ℕ) (w : ℕ) (es : List (RecordEdit Edit)) (i : ℕ) (e : RecordEdit Edit) → i < length es → e ≡ get_or es i e →
      refused_change k m ls w e.«record» ≡ None → m' ≡ changed k m w e.«record» e.edit → change_each k m' ls w (drop (i + 1) es) ≡ change_each k m ls w (drop i es)
  one_made m m' ls w es i e h p o q =
      let rest = change_each k (changed k m w e.«record» e.edit) ls w (drop (i + 1) es) in
      ap (λ x. change_each k x ls w (drop (i + 1) es)) q ∙ sym (each_next m ls w es i e h p ∙ ap (λ x. or_go_on x m rest) o)

  pub one_refused : (m m' : Model Row Change) (ls : List ℕ) (w : ℕ) (es : List (RecordEdit Edit)) (i : ℕ) (e : RecordEdit Edit) (f : StoreFault) → i < length es → e ≡ get_or es i e →
      refused_change k m ls w e.«record» ≡ Some f → m' ≡ m → change_each k m ls w (drop i es) ≡ made (Some f) m'
  one_refused m m' ls w es i e f h p o q =
      let rest = change_each k (changed k m w e.«record» e.edit) ls w (drop (i + 1) es) in
      each_next m ls w es i e h p ∙ ap (λ x. or_go_on x m rest) o ∙ ap (made (Some f)) (sym q)
